use Rattle.dg_rank.proofs.Common.{◌≡◌, true, arith, ints, in_set}
use Rattle.dg_rank.proofs.AnyLoss.{no_twins}
use Rattle.dg_rank.proofs.RowPrices.{rows_told}
use Rattle.dg_rank.proofs.Spared.{rich_rows}
use Rattle.dg_rank.proofs.folding.shared_losses.Goals as goal

pub find_unpaid-requires-clause-twins : goal.find_unpaid-requires-clause-twins
find_unpaid-requires-clause-twins c = no_twins c.args.graph.now c.size-size.ensures.graph.few

pub returns : goal.returns
returns c =
    rows_told c.find_unpaid.result c.args.graph.now (in_set c.args.unfolded) c.args.rows.now c.in-Some-Some.prices
    c.in-Some-Some.left c.args.dollars (λ _. true ≡ true) c.size-size.ensures.graph.few c.in-Some-Some.ensures
    c.in-Some-Some.ensures'.paid c.find_unpaid.ensures.told

pub returns-then-is_rich : goal.returns-then-is_rich
returns-then-is_rich c =
    let held = c.in-Some-Some.ensures in
    let prices = c.in-Some-Some.ensures' in
    rich_rows c.args.graph.now (in_set c.args.unfolded) c.args.rows.now c.in-Some-Some.prices c.in-Some-Some.left c.args.dollars
    c.args.genus c.size-size.ensures.graph.multigraph (omega (arith, c.size-size.ensures.graph)) c.size-size.ensures.graph.few
    c.requires.folded c.requires.spared held prices.paid (rw prices.most at c.if-is_rich.ensures.cheap)
    (omega (arith, ints, rw held.size at c.if-is_rich.ensures.rich, prices.most))
