use Rattle.dg_rank.proofs.Common.{◌≡◌, ◌-◌, ◌≤◌, arith, ints, ◌∙◌, length-set, slice_index, at, amounts_of_trial}
use Rattle.dg_rank.proofs.FirstFrom.{from_few}
use Rattle.dg_rank.proofs.LossBoxes.{taken_small}
use Rattle.dg_rank.proofs.Starts.{IsStep, loss_later, not_last, on_all, some_lost, start_later, start_lost, told_above, told_on}
use Rattle.dg_rank.proofs.first_loss.+first_loss_on.Goals as goal
use Rattle.dg_rank.proofs.first_loss.+first_loss_on.Goals.{After-get-held, In-Some}

few : {t : _} (c : After-get-held t) → slice_index c.args.start c.args.place ≤ c.args.dollars
few c =
    omega (
      arith,
      ints,
      from_few c.args.graph.now.size c.args.dollars c.args.place c.args.place (amounts_of_trial c.args.start) c.requires.start
          c.requires.place,
    )

step : {t : _} (c : In-Some t) → IsStep c.args.graph.now (at c.args.left.now) (at c.in-Some.rest) c.args.dollars c.args.place
    c.args.start
step c = record {
  inside = c.requires.place;
  places = c.requires.places;
  start = c.requires.start;
  other = rw c.get-held.ensures at c.in-Some.ensures.led;
}

pub returns-then-get-dollars : goal.returns-then-get-dollars
returns-then-get-dollars t c =
    let n = c.args.graph.now.size in
    let held : slice_index c.args.start (n - 1) ≡ c.args.dollars =
    omega (arith, rw c.size-size.ensures.size at c.get.ensures, c.if-get-dollars.true) in
    told_on c.args.graph.now (at c.args.left.now) c.args.dollars c.args.place c.args.start c.find_first_from.result
    (λ F from. on_all n c.args.dollars c.args.place c.args.start F held c.requires.start from) c.find_first_from.ensures

pub after_loss-requires-clause-taken : goal.after_loss-requires-clause-taken
after_loss-requires-clause-taken t c =
    omega (
      arith,
      few (goal.at.after_loss-requires-clause-taken t c).After-get-held,
      c.get-held.ensures,
      c.requires.few,
    )

pub returns-in_default : goal.returns-in_default
returns-in_default t c =
    start_lost c.args.graph.now (at c.args.left.now) c.args.dollars c.args.place c.args.start c.requires.places c.requires.start
    (some_lost c.args.graph.now (at c.args.left.now) c.args.place c.args.start (rw c.get-held.ensures at c.in_default.ensures))

pub overflow_sub-dollars : goal.overflow_sub-dollars
overflow_sub-dollars t c = omega (arith, few (goal.at.overflow_sub-dollars t c).After-get-held, c.get-held.ensures)

pub first_loss_on-requires : goal.first_loss_on-requires
first_loss_on-requires t c =
    let g = c.args.graph.now in
    let form = c.in-Some.ensures in
    let next = not_last g.size c.args.dollars c.args.place c.args.start c.requires.place c.requires.start
    (λ held. c.if-get-dollars.false (omega (arith, rw c.size-size.ensures.size at c.get.ensures, held))) in (
      omega (arith, next),
      (
        form.size,
        (
          form.effective,
          (
            taken_small g (at c.args.left.now) c.in-Some.rest c.args.place c.get-held.result
                c.size-size.ensures.graph.multigraph c.requires.place c.requires.small form,
            (
              omega (arith, c.requires.few),
              (
                next,
                (
                  rw c.set.ensures (length-set c.args.start c.args.place 0 ∙ c.requires.places),
                  rw (c.set.ensures, c.get-held.ensures) (start_later (step (goal.at.first_loss_on-requires t c).In-Some)),
                ),
              ),
            ),
          ),
        ),
      ),
    )

pub with_more-requires-clause-dollars : goal.with_more-requires-clause-dollars
with_more-requires-clause-dollars t c =
    omega (arith, few (goal.at.with_more-requires-clause-dollars t c).After-get-held, c.get-held.ensures, c.requires.few)

pub overflow_add-held : goal.overflow_add-held
overflow_add-held t c =
    omega (arith, few (goal.at.overflow_add-held t c).After-get-held, c.get-held.ensures, c.requires.few)

pub returns-in-Some-first_loss_on : goal.returns-in-Some-first_loss_on
returns-in-Some-first_loss_on t c =
    loss_later (step (goal.at.returns-in-Some-first_loss_on t c).In-Some) c.in-Some-first_loss_on.loss
    c.with_more.result (rw (c.set.ensures, c.get-held.ensures) at c.in-Some-first_loss_on.ensures)
    (rw c.get-held.ensures at c.with_more.ensures)

pub returns-in-None : goal.returns-in-None
returns-in-None t c =
    told_above c.args.graph.now (at c.args.left.now) (at c.in-Some.rest) c.args.dollars c.args.place c.args.start
    c.first_loss_above.result (step (goal.at.returns-in-None t c).In-Some)
    (rw (c.set.ensures, c.get-held.ensures) at c.in-None.ensures)
    (rw c.get-held.ensures at c.first_loss_above.ensures)
