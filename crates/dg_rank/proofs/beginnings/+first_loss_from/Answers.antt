use Rattle.dg_rank.proofs.Common.{ℕ, ◌-◌, ◌≤◌, ◌∙◌, arith, only_at, pos, minus, at, equivalent-trans}
use Rattle.dg_theory.proofs.Equivalence.{equivalent-sym}
use Rattle.dg_rank.proofs.FixedBeginnings.{first_last, loss_few, first_skip, first_unpaid, fewer_lost}
use Rattle.dg_rank.proofs.FirstFrom.{held_few, first_with}
use Rattle.dg_rank.proofs.LastLosses.{last_back}
use Rattle.dg_rank.proofs.LossBoxes.{class_small, taken_small}
use Rattle.dg_rank.proofs.beginnings.+first_loss_from.Goals as goal
use Rattle.dg_rank.proofs.beginnings.+first_loss_from.Goals.{After-size-size}

pub returns-then-place-size : goal.returns-then-place-size
returns-then-place-size t c =
    first_last c.args.graph.now (at c.args.left.now) c.args.dollars c.args.place c.all_at_last.result c.args.known
    (omega (arith, c.if-place-size.true, c.size-size.ensures.size))
    (c.all_at_last.ensures.places ∙ c.size-size.ensures.size)
    (rw c.size-size.ensures.size at c.all_at_last.ensures.held)
    (rw c.size-size.ensures.size at c.all_at_last.ensures.empty)
    c.requires.known.loss

some : (t : ℕ) (c : After-size-size t) → 1 ≤ c.args.dollars
some t c =
    omega (
      arith,
      c.requires.known.held,
      loss_few c.args.graph.now (at c.args.left.now) c.args.dollars c.args.place c.args.place c.args.known
          c.requires.known.loss c.requires.known.inside,
    )

pub overflow_sub-dollars : goal.overflow_sub-dollars
overflow_sub-dollars t c = some t (goal.at.overflow_sub-dollars t c).After-size-size

pub returns-in_default : goal.returns-in_default
returns-in_default t c =
    let rest = c.all_at_last-in_default in
    first_unpaid c.args.graph.now (at c.args.left.now) c.args.dollars c.args.place c.with_more.result rest.result
    c.requires.known.inside (some t (goal.at.returns-in_default t c).After-size-size) c.requires.known.later
    (rest.ensures.places ∙ c.size-size.ensures.size) (rw c.size-size.ensures.size at rest.ensures.held)
    (rw c.size-size.ensures.size at rest.ensures.empty) c.with_more.ensures c.in_default.ensures

pub overflow_sub-dollars-2 : goal.overflow_sub-dollars-2
overflow_sub-dollars-2 t c = some t (goal.at.overflow_sub-dollars-2 t c).After-size-size

pub last_loss_from-last-requires-clause-small : goal.last_loss_from-last-requires-clause-small
last_loss_from-last-requires-clause-small t c =
    taken_small c.args.graph.now (at c.args.left.now) c.in-Some.other c.args.place 1 c.size-size.ensures.graph.multigraph
    c.requires.known.inside c.requires.small c.in-Some.ensures

pub last_loss_from-last-requires-clause-known : goal.last_loss_from-last-requires-clause-known
last_loss_from-last-requires-clause-known t c =
    rw (c.set.ensures, c.get-held.ensures) (fewer_lost c.args.graph.now (at c.args.left.now) (at c.in-Some.other)
    c.args.dollars c.args.place c.args.known c.requires.known.inside c.requires.known.held c.in-Some.ensures.led
    c.requires.known.loss)

pub overflow_sub-dollars-3 : goal.overflow_sub-dollars-3
overflow_sub-dollars-3 t c = some t (goal.at.overflow_sub-dollars-3 t c).After-size-size

pub first_loss_from-requires : goal.first_loss_from-requires
first_loss_from-requires t c =
    let g = c.args.graph.now in
    let last = c.last_loss_from-last in
    let class = last.ensures.class in (
      omega (arith, some t (goal.at.first_loss_from-requires t c).After-size-size),
      (
        class.size,
        (
          class.effective,
          (
            class_small g (at c.in-Some.other) last.new.left c.size-size.ensures.graph.multigraph
                (taken_small g (at c.args.left.now) c.in-Some.other c.args.place 1 c.size-size.ensures.graph.multigraph
                c.requires.known.inside c.requires.small c.in-Some.ensures) class,
            (
              omega (arith, c.requires.few),
              last_back g (at last.new.left) (at c.in-Some.other) (c.args.dollars - 1) last.result.0 last.result.1
                  (equivalent-sym g (at c.in-Some.other) (at last.new.left) class.led) last.ensures.last,
            ),
          ),
        ),
      ),
    )

pub with_more-requires-2-clause-few : goal.with_more-requires-2-clause-few
with_more-requires-2-clause-few t c =
    omega (
      arith,
      held_few c.args.graph.now (at c.last_loss_from-last.new.left) (c.args.dollars - 1) c.last_loss_from-last.result.0
          c.args.place c.first_loss_from.result c.first_loss_from.ensures c.requires.known.inside,
      c.requires.few,
    )

pub returns : goal.returns
returns t c =
    let g = c.args.graph.now in
    let last = c.last_loss_from-last in
    first_with g (at c.args.left.now) (at last.new.left) c.args.dollars c.args.place c.with_more-2.result
    c.first_loss_from.result c.requires.known.inside (some t (goal.at.returns t c).After-size-size)
    (equivalent-trans g (minus (at c.args.left.now) (only_at c.args.place (pos 1))) (at c.in-Some.other) (at last.new.left)
    c.in-Some.ensures.led last.ensures.class.led) c.requires.known.later
    (first_skip g (at last.new.left) (c.args.dollars - 1) c.args.place last.result.0 c.first_loss_from.result
    last.ensures.from c.first_loss_from.ensures) c.with_more-2.ensures
