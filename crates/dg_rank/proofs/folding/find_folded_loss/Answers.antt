use Rattle.dg_rank.proofs.Common.{arith, at, in_set, in_set-none}
use Rattle.std.proofs.lemmas.Bool.Decides.{nat_tests}
use Rattle.dg_rank.proofs.AnyLoss.{no_twins}
use Rattle.dg_rank.proofs.Leaves.{box_by_rows, none_folded}
use Rattle.dg_rank.proofs.Spared.{spared_at_first}
use Rattle.dg_rank.proofs.folding.find_folded_loss.Goals as goal

pub fold_leaves-requires-clause-vertices : goal.fold_leaves-requires-clause-vertices
fold_leaves-requires-clause-vertices c v member =
    grind (arith, nat_tests, c.complement.ensures v, c.size-size.ensures.size, member)

pub fold_leaves-requires-clause-folded : goal.fold_leaves-requires-clause-folded
fold_leaves-requires-clause-folded c =
    none_folded c.args.graph.now (in_set c.complement.result)
    (λ v below. grind (arith, nat_tests, c.complement.ensures v, c.size-size.ensures.size, in_set-none v))

pub fold_leaves-requires-clause-spared : goal.fold_leaves-requires-clause-spared
fold_leaves-requires-clause-spared c =
    spared_at_first c.args.graph.now (in_set c.complement.result) c.failing_degree.result
    (λ v below. grind (arith, nat_tests, c.complement.ensures v, c.size-size.ensures.size, in_set-none v))
    c.failing_degree.ensures.genus

pub find_box_loss-requires-clause-twins : goal.find_box_loss-requires-clause-twins
find_box_loss-requires-clause-twins c = no_twins c.args.graph.now c.size-size.ensures.graph.few

pub returns-in_default : goal.returns-in_default
returns-in_default c =
    box_by_rows c.args.graph.now (at c.args.left.now) (in_set c.complement.result) c.unfolded_rows-rows.result
    c.args.room.now c.args.dollars
    (λ v below. grind (arith, nat_tests, c.complement.ensures v, c.size-size.ensures.size, in_set-none v))
    (rw c.requires.size at c.unfolded_rows-rows.ensures)
    (rw c.in_default.is at c.in_ok-told.ensures)
