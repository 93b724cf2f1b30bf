-- The machine's sum is the sum wanted, and numbers of 128 bits are one if their bits are.
use Rattle.dg_chips.proofs.Common.{◌≡◌, ℤ, ◌<◌, ◌^◌, ◌∙◌, arith, ap, sym, below_more, slice_index_or, pos, w128, of_z, ints, fired, at}
use Rattle.dg_chips.proofs.FlowLaws.{held_sum}
use lib.Signed.{mag}
use Rattle.dg_chips.proofs.firing.leads.Goals as goal
use Rattle.dg_chips.proofs.firing.leads.Goals.{After-from}

one_number : (a b : ℤ) → mag a < 2 ^ 127 → mag b < 2 ^ 127 → of_z w128 a ≡ of_z w128 b → a ≡ b
one_number a b first second same = omega (arith, ints)

sum : (c : After-from) →
    c.from.result ≡ fired c.args.graph.now (at c.args.from.now) (λ w. slice_index_or c.args.lendings.now w (pos 0)) c.loop-v.v
sum c = c.from.ensures ∙ (held_sum c.get.result c.gained.result (omega arith) (omega arith)).1
    ∙ cc (c.get.ensures.amount, c.gained.ensures.gain)

pub returns-then-from-get : goal.returns-then-from-get
returns-then-from-get c = λ leads.
    let same = sum (goal.at.returns-then-from-get c).After-from ∙ sym (leads c.loop-v.v (omega arith)) in
    c.if-from-get.true (ap (of_z w128) (same ∙ sym c.get-in-loop-v.ensures))

pub loop-v-preserved : goal.loop-v-preserved
loop-v-preserved c =
    let same = one_number c.from.result c.get-in-loop-v.result c.from.type_inv c.get-in-loop-v.type_inv c.if-from-get.false in
    below_more _ _ c.loop-v.invariant
    (sym c.get-in-loop-v.ensures ∙ sym same ∙ sum (goal.at.loop-v-preserved c).After-from)
