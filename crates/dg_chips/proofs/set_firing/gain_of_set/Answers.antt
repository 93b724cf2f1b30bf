use Rattle.dg_chips.proofs.Common.{◌≡◌, ℕ, ◌*◌, ◌^◌, true, false, arith, ap, sym, ◌∙◌, w128, to_z, of_z, ints, pos, ◌*ℤ◌, edges_out, edges_into, within_abs, gain-all_inside, gain-all_outside, in_set}
use Rattle.dg_chips.proofs.FlowLaws.{wide_held}
use Rattle.dg_chips.proofs.set_firing.gain_of_set.Goals as goal

pub returns-then-contains-clause-gain : goal.returns-then-contains-clause-gain
returns-then-contains-clause-gain c =
    let member : in_set c.args.set c.args.v ≡ true = sym c.contains.ensures ∙ c.if-contains.true in
    let held : to_z w128 (of_z w128 c.args.times) ≡ c.args.times = (wide_held c.args.times (omega arith)).1 in
    let lost : c.carried.result ≡ pos (edges_out c.args.graph.now (in_set c.args.set) c.args.v) *ℤ c.args.times =
    c.carried.ensures.product ∙ rw held (ap (λ (e : ℕ). pos e *ℤ c.args.times) c.edges_out.ensures.sum) in
    let (low, high) = within_abs c.carried.result (63 * 2 ^ 120) c.carried.ensures.limit in
    omega (arith, ints, gain-all_inside c.args.graph.now c.args.times (in_set c.args.set) c.args.v member)

pub returns-else-contains-clause-gain : goal.returns-else-contains-clause-gain
returns-else-contains-clause-gain c =
    let missing : in_set c.args.set c.args.v ≡ false = sym c.contains.ensures ∙ c.if-contains.false in
    let held : to_z w128 (of_z w128 c.args.times) ≡ c.args.times = (wide_held c.args.times (omega arith)).1 in
    let got : c.carried-else-contains.result
    ≡ pos (edges_into c.args.graph.now (in_set c.args.set) c.args.v) *ℤ c.args.times =
    c.carried-else-contains.ensures.product
    ∙ rw held (ap (λ (e : ℕ). pos e *ℤ c.args.times) c.edges_into.ensures.sum) in
    let (low, high) = within_abs c.carried-else-contains.result (63 * 2 ^ 120)
    c.carried-else-contains.ensures.limit in
    omega (arith, ints, gain-all_outside c.args.graph.now c.args.times (in_set c.args.set) c.args.v missing)
