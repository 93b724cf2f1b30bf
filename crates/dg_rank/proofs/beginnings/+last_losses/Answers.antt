use Rattle.dg_rank.proofs.Common.{true, arith, at}
use Rattle.dg_theory.proofs.Equivalence.{equivalent-sym}
use Rattle.dg_rank.proofs.Elsewhere.{own_class, told_by}
use Rattle.dg_rank.proofs.LastLosses.{last_back, lost_back, loss_later, told_back}
use Rattle.dg_rank.proofs.LossBoxes.{class_small}
use Rattle.dg_rank.proofs.beginnings.+last_losses.Goals as goal

pub find_last_loss-returns-then-place-size-clause-class : goal.find_last_loss-returns-then-place-size-clause-class
find_last_loss-returns-then-place-size-clause-class t c =
    own_class c.args.graph.now c.args.left.now c.requires.size c.requires.effective

pub find_last_loss-last_loss_from-requires : goal.find_last_loss-last_loss_from-requires
find_last_loss-last_loss_from-requires t c =
    let g = c.args.graph.now in
    let class = c.find_loss_soon.ensures.class in (
      omega arith,
      (
        class.size,
        (
          class.effective,
          (
            class_small g (at c.args.left.now) c.find_loss_soon.new.left c.size.ensures.graph.multigraph c.requires.small class,
            (
              c.requires.few,
              (
                omega (arith, c.requires.place, c.if-place-size.false, c.size.ensures.size),
                lost_back g (at c.find_loss_soon.new.left) (at c.args.left.now) c.args.dollars c.args.place c.in-Ok-Some.loss
                    (equivalent-sym g (at c.args.left.now) (at c.find_loss_soon.new.left) class.led)
                    (rw c.in-Ok-Some.field-0-is at c.in-Ok-Some.ensures.told),
              ),
            ),
          ),
        ),
      ),
    )

pub find_last_loss-find_last_by_one-requires-clause-small : goal.find_last_loss-find_last_by_one-requires-clause-small
find_last_loss-find_last_by_one-requires-clause-small t c =
    class_small c.args.graph.now (at c.args.left.now) c.find_loss_soon.new.left c.size.ensures.graph.multigraph
    c.requires.small c.find_loss_soon.ensures.class

pub find_last_loss-returns-in-Ok-Some-clause-class : goal.find_last_loss-returns-in-Ok-Some-clause-class
find_last_loss-returns-in-Ok-Some-clause-class t c =
    told_by true c.args.graph.now (at c.args.left.now) (at c.find_loss_soon.new.left) c.last_loss_from.new.left
    c.find_loss_soon.ensures.class.led c.last_loss_from.ensures.class

pub find_last_loss-returns-in-Ok-Some-clause-told : goal.find_last_loss-returns-in-Ok-Some-clause-told
find_last_loss-returns-in-Ok-Some-clause-told t c = (
  c.last_loss_from.ensures.from,
  last_back c.args.graph.now (at c.args.left.now) (at c.find_loss_soon.new.left) c.args.dollars c.last_loss_from.result.0
      c.last_loss_from.result.1 c.find_loss_soon.ensures.class.led c.last_loss_from.ensures.last,
)

pub find_last_loss-returns-in-Err-clause-class : goal.find_last_loss-returns-in-Err-clause-class
find_last_loss-returns-in-Err-clause-class t c =
    told_by true c.args.graph.now (at c.args.left.now) (at c.find_loss_soon.new.left) c.find_last_by_one.new.left
    c.find_loss_soon.ensures.class.led c.find_last_by_one.ensures.class

pub find_last_loss-returns-in-Err-clause-told : goal.find_last_loss-returns-in-Err-clause-told
find_last_loss-returns-in-Err-clause-told t c =
    told_back c.find_last_by_one.result c.args.graph.now (at c.args.left.now) (at c.find_loss_soon.new.left) c.args.dollars
    c.args.place c.find_loss_soon.ensures.class.led c.find_last_by_one.ensures.told

pub last_loss_from-last_loss_from-requires : goal.last_loss_from-last_loss_from-requires
last_loss_from-last_loss_from-requires t c =
    let (next, later) = loss_later c.args.graph.now (at c.args.left.now) c.args.dollars c.args.place c.args.known
    c.requires.effective c.requires.place (omega (arith, c.get.ensures, c.if-get-eq0.true)) c.requires.known in
    (omega (arith, next), (c.requires.size, (c.requires.effective, (c.requires.small, (c.requires.few, (next, later))))))
