use Rattle.dg_rank.proofs.Common.{◌+◌, ◌≤◌, true, false, arith, sym, unsigned_abs, pos, only_at, minus, equivalent-refl, at}
use Rattle.dg_rank.proofs.Elsewhere.{rich_small, owed_at, owed_small, told_by}
use Rattle.dg_rank.proofs.boxes.after_loss.Goals as goal

pub take-requires-clause-range : goal.take-requires-clause-range
take-requires-clause-range c =
    let small : unsigned_abs (at c.args.left.now c.args.v) ≤ 32000000 =
    rich_small c.args.graph.now.size (at c.args.left.now) 32000000 c.args.v c.requires.effective c.requires.small
    c.requires.vertex in
    omega arith

pub repay-requires-clause-no_debt : goal.repay-requires-clause-no_debt
repay-requires-clause-no_debt c =
    owed_at c.args.graph.now (at c.args.left.now) (at c.take.new.self) c.args.v c.args.taken c.requires.effective
    c.take.ensures.amounts

pub repay-requires-clause-range : goal.repay-requires-clause-range
repay-requires-clause-range c w inside =
    let small : unsigned_abs (at c.take.new.self w) ≤ 32000000 + c.args.taken =
    owed_small c.args.graph.now.size (at c.args.left.now) (at c.take.new.self) c.args.v 32000000 c.args.taken
    c.requires.effective c.requires.small c.take.ensures.amounts w inside in
    omega (arith, c.requires.taken)

pub returns-then-repay : goal.returns-then-repay
returns-then-repay c =
    let A = minus (at c.args.left.now) (only_at c.args.v (pos c.args.taken)) in
    told_by true c.args.graph.now A (at c.take.new.self) c.repay.new.self
    (equivalent-refl c.args.graph.now A (at c.take.new.self) (λ w below. sym (c.take.ensures.amounts w)))
    c.if-repay.ensures

pub returns-else-repay : goal.returns-else-repay
returns-else-repay c =
    let A = minus (at c.args.left.now) (only_at c.args.v (pos c.args.taken)) in
    told_by false c.args.graph.now A (at c.take.new.self) c.repay.new.self
    (equivalent-refl c.args.graph.now A (at c.take.new.self) (λ w below. sym (c.take.ensures.amounts w)))
    c.if-repay.ensures
