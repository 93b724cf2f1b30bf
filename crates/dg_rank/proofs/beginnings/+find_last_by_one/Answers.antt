use Rattle.dg_rank.proofs.Common.{ℕ, ◌-◌, ◌<◌, ◌≤◌, ◌∙◌, true, ⊎_elim, inl, inr, arith, ints, unsigned_abs, pos, only_at, minus, at, AreEquivalent, IsInLinearSystem, equivalent-winnable}
use Rattle.dg_theory.proofs.Equivalence.{equivalent-less}
use Rattle.dg_rank.proofs.Elsewhere.{given_back, own_class, rich_small, told_by}
use Rattle.dg_rank.proofs.FixedBeginnings.{loss_few}
use Rattle.dg_rank.proofs.LastLosses.{last_unpaid, last_with, wins_none, wins_with}
use Rattle.dg_rank.proofs.LossBoxes.{class_small, none_held, taken_small}
use Rattle.dg_rank.proofs.beginnings.+find_last_by_one.Goals as goal
use Rattle.dg_rank.proofs.beginnings.+find_last_by_one.Goals.{After-find_last_by_one, In-Some-after_loss}

pub returns-then-dollars-eq0-clause-class : goal.returns-then-dollars-eq0-clause-class
returns-then-dollars-eq0-clause-class t c =
    own_class c.args.graph.now c.args.left.now c.requires.size c.requires.effective

pub returns-then-dollars-eq0-clause-told : goal.returns-then-dollars-eq0-clause-told
returns-then-dollars-eq0-clause-told t c =
    wins_none c.args.graph.now (at c.args.left.now) c.args.dollars c.args.place c.requires.effective
    (⊎_elim inl (λ past. inr (past.1 ∙ c.size-size.ensures.size)) c.then-dollars-eq0.either)

pub after_loss-requires-clause-small : goal.after_loss-requires-clause-small
after_loss-requires-clause-small t c =
    class_small c.args.graph.now (at c.args.left.now) c.find_last_by_one.new.left c.size-size.ensures.graph.multigraph
    c.requires.small c.find_last_by_one.ensures.class

inside : (t : ℕ) (c : After-find_last_by_one t) → c.args.place < c.args.graph.now.size
inside t c = omega (arith, c.requires.place, c.if-place-size.false, c.size-size.ensures.size)

some : (t : ℕ) (c : After-find_last_by_one t) → 1 ≤ c.args.dollars
some t c = omega (arith, c.if-dollars-eq0.false)

less : (t : ℕ) (c : After-find_last_by_one t) →
    AreEquivalent c.args.graph.now (minus (at c.args.left.now) (only_at c.args.place (pos 1)))
    (minus (at c.find_last_by_one.new.left) (only_at c.args.place (pos 1)))
less t c =
    equivalent-less c.args.graph.now (at c.args.left.now) (at c.find_last_by_one.new.left) (only_at c.args.place (pos 1))
    c.find_last_by_one.ensures.class.led

pub returns-in_default-after_loss-clause-told : goal.returns-in_default-after_loss-clause-told
returns-in_default-after_loss-clause-told t c =
    let g = c.args.graph.now in
    let d = (goal.at.returns-in_default-after_loss-clause-told t c).After-find_last_by_one in (
      omega arith,
      last_unpaid g (at c.args.left.now) c.args.dollars c.args.place c.all_at_last.result c.with_more.result
          (inside t d) (some t d) c.in_default.ensures.told (c.all_at_last.ensures.places ∙ c.size-size.ensures.size)
          (none_held g.size c.all_at_last.result (rw c.size-size.ensures.size at c.all_at_last.ensures.held)
          (rw c.size-size.ensures.size at c.all_at_last.ensures.empty))
          c.with_more.ensures
          (λ win. c.in_default-after_loss.ensures ((equivalent-winnable g
          (minus (at c.args.left.now) (only_at c.args.place (pos 1)))
          (minus (at c.find_last_by_one.new.left) (only_at c.args.place (pos 1))) (less t d)).0 win)),
    )

-- what is left once a dollar is taken
other : (t : ℕ) (c : In-Some-after_loss t) →
    IsInLinearSystem c.args.graph.now (minus (at c.args.left.now) (only_at c.args.place (pos 1))) c.in-Some-after_loss.other
other t c =
    told_by true c.args.graph.now (minus (at c.args.left.now) (only_at c.args.place (pos 1)))
    (minus (at c.find_last_by_one.new.left) (only_at c.args.place (pos 1))) c.in-Some-after_loss.other
    (equivalent-less c.args.graph.now (at c.args.left.now) (at c.find_last_by_one.new.left) (only_at c.args.place (pos 1))
    c.find_last_by_one.ensures.class.led) c.in-Some-after_loss.ensures

pub find_loss_from-requires-clause-small : goal.find_loss_from-requires-clause-small
find_loss_from-requires-clause-small t c =
    let d = goal.at.find_loss_from-requires-clause-small t c in
    taken_small c.args.graph.now (at c.args.left.now) c.in-Some-after_loss.other c.args.place 1
    c.size-size.ensures.graph.multigraph (inside t d.After-find_last_by_one) c.requires.small (other t d.In-Some-after_loss)

pub with_more-requires-in-Some-find_loss_from-clause-few : goal.with_more-requires-in-Some-find_loss_from-clause-few
with_more-requires-in-Some-find_loss_from-clause-few t c =
    let d = goal.at.with_more-requires-in-Some-find_loss_from-clause-few t c in
    omega (
      arith,
      loss_few c.args.graph.now (at c.in-Some-after_loss.other) (c.args.dollars - 1) c.args.place c.args.place
          c.in-Some-find_loss_from.loss c.in-Some-find_loss_from.ensures.told (inside t d.After-find_last_by_one),
      c.requires.few,
    )

pub returns-in-Some-find_loss_from-clause-told : goal.returns-in-Some-find_loss_from-clause-told
returns-in-Some-find_loss_from-clause-told t c =
    let d = goal.at.returns-in-Some-find_loss_from-clause-told t c in (
      omega arith,
      last_with c.args.graph.now (at c.args.left.now) (at c.in-Some-after_loss.other) c.args.dollars c.args.place
          c.in-Some-find_loss_from.loss c.with_more-in-Some-find_loss_from.result (inside t d.After-find_last_by_one)
          (some t d.After-find_last_by_one) (other t d.In-Some-after_loss).led c.in_default.ensures.told
          c.in-Some-find_loss_from.ensures.told c.with_more-in-Some-find_loss_from.ensures,
    )

pub give-requires-clause-range : goal.give-requires-clause-range
give-requires-clause-range t c =
    let g = c.args.graph.now in
    let d = goal.at.give-requires-clause-range t c in
    let class = c.find_loss_from.ensures.class in
    let small : unsigned_abs (at c.find_loss_from.new.left c.args.place) ≤ 32000000 =
    rich_small g.size (at c.find_loss_from.new.left) 32000000 c.args.place class.effective
    (class_small g (at c.in-Some-after_loss.other) c.find_loss_from.new.left c.size-size.ensures.graph.multigraph
    (taken_small g (at c.args.left.now) c.in-Some-after_loss.other c.args.place 1 c.size-size.ensures.graph.multigraph
    (inside t d.After-find_last_by_one) c.requires.small (other t d.In-Some-after_loss)) class)
    (inside t d.After-find_last_by_one) in
    omega arith

pub returns-clause-class : goal.returns-clause-class
returns-clause-class t c =
    let g = c.args.graph.now in
    let B = minus (at c.args.left.now) (only_at c.args.place (pos 1)) in
    given_back g B (at c.args.left.now) c.find_loss_from.new.left c.give.new.self c.args.place 1
    (told_by true g B (at c.in-Some-after_loss.other) c.find_loss_from.new.left
    (other t (goal.at.returns-clause-class t c).In-Some-after_loss).led c.find_loss_from.ensures.class)
    c.give.ensures.size (λ w. omega (arith, ints)) c.give.ensures.amounts

pub returns-clause-told : goal.returns-clause-told
returns-clause-told t c =
    let d = goal.at.returns-clause-told t c in
    wins_with c.args.graph.now (at c.args.left.now) (at c.in-Some-after_loss.other) c.args.dollars c.args.place
    (inside t d.After-find_last_by_one) (other t d.In-Some-after_loss).led c.in_default.ensures.told
    c.in_default-find_loss_from.ensures.told
