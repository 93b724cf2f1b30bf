use Rattle.dg_rank.proofs.Common.{◌-◌, arith, refl, ◌∙◌, ints, pos, at, only_at, minus, equivalent-refl, win_more, amounts_of_trial}
use Rattle.dg_rank.proofs.FirstFrom.{first_above, first_at_last, from_few, held_few, some_less, wins_other}
use Rattle.dg_rank.proofs.LossBoxes.{taken_small}
use Rattle.dg_rank.proofs.first_loss.first_loss_above.Goals as goal

pub returns-then-least-dollars : goal.returns-then-least-dollars
returns-then-least-dollars c F from held = absurd (omega
    (arith, ints, held, from_few c.args.graph.now.size c.args.dollars c.args.place c.args.place F from c.requires.place))

pub returns-in_default : goal.returns-in_default
returns-in_default c =
    let g = c.args.graph.now in
    let B = minus (at c.args.left.now) (only_at c.args.place (pos c.args.least)) in
    let T = c.all_at_last.result in
    first_above g (at c.args.left.now) B c.args.dollars c.args.place c.args.least T c.with_more.result c.requires.place
    (omega (arith, c.if-least-dollars.false)) (equivalent-refl g B B (λ v _. refl))
    (first_at_last g B (c.args.dollars - c.args.least) c.args.place T c.requires.place
    (c.all_at_last.ensures.places ∙ c.size-size.ensures.size) (rw c.size-size.ensures.size at c.all_at_last.ensures.held)
    (rw c.size-size.ensures.size at c.all_at_last.ensures.empty)
    (λ win. c.in_default.ensures (win_more g (minus B (amounts_of_trial T)) B (λ v below. omega (arith, ints)) win)))
    c.with_more.ensures

pub find_first_from-requires-clause-small : goal.find_first_from-requires-clause-small
find_first_from-requires-clause-small c =
    taken_small c.args.graph.now (at c.args.left.now) c.in-Some.other c.args.place c.args.least
    c.size-size.ensures.graph.multigraph c.requires.place c.requires.small c.in-Some.ensures

pub with_more-requires-in-Some-find_first_from-clause-few : goal.with_more-requires-in-Some-find_first_from-clause-few
with_more-requires-in-Some-find_first_from-clause-few c =
    omega (
      arith,
      held_few c.args.graph.now (at c.in-Some.other) (c.args.dollars - c.args.least) c.args.place c.args.place
          c.in-Some-find_first_from.loss c.in-Some-find_first_from.ensures c.requires.place,
      c.requires.few,
    )

pub returns-in-Some-find_first_from : goal.returns-in-Some-find_first_from
returns-in-Some-find_first_from c =
    first_above c.args.graph.now (at c.args.left.now) (at c.in-Some.other) c.args.dollars c.args.place c.args.least
    c.in-Some-find_first_from.loss c.with_more-in-Some-find_first_from.result c.requires.place
    (omega (arith, c.if-least-dollars.false)) c.in-Some.ensures.led c.in-Some-find_first_from.ensures
    c.with_more-in-Some-find_first_from.ensures

pub returns-in-None : goal.returns-in-None
returns-in-None c F from held =
    wins_other c.args.graph.now (at c.args.left.now) (at c.in-Some.other) F c.args.place c.args.least c.in-Some.ensures.led
    (c.in-None.ensures _
    (some_less c.args.graph.now.size c.args.dollars c.args.place c.args.least F from c.requires.place held))
