use Rattle.dg_reduce.proofs.Common.{◌≡◌, ℕ, ◌<◌, ◌≤◌, arith, ◌∙◌, ⊎_elim, slice_index_or, pos, cases_lt, ints, gain, indicator, at, IsWide}
use Rattle.dg_graph.specs.Sets.{in_set}
use Rattle.dg_reduce.proofs.FormSteps.{gain_past}
use Rattle.dg_reduce.proofs.effective_divisor.EffectiveDivisor.fire.Goals as goal
use Rattle.dg_reduce.proofs.effective_divisor.EffectiveDivisor.fire.Goals.{After-loop-v}

past : (c : After-loop-v) (v : ℕ) → c.args.graph.now.size ≤ v → slice_index_or c.loop-v.amounts v (pos 0) ≡ pos 0
past c v outside =
    let wide : IsWide c.args.self.now = rw c.self.view_is at c.self.invariant in
    let before : at c.args.self.now v ≡ pos 0 = wide.inside v (rw c.requires.size outside) in
    let none : gain c.args.graph.now (indicator (in_set c.args.rest.now.set)) v ≡ pos 0 =
    gain_past c.args.graph.now (in_set c.args.rest.now.set) v c.size-size.ensures.graph outside in
    ⊎_elim
    (λ (done : v < c.loop-v.v). omega (arith, ints, c.loop-v.invariant.same v done))
    (λ (left : c.loop-v.v ≤ v). c.loop-v.invariant.left v left ∙ before)
    (cases_lt v c.loop-v.v)

pub invariant_of-self : goal.invariant_of-self
invariant_of-self c =
    let d = goal.at.invariant_of-self c in
    record {
      few = omega (arith, c.size-size.ensures.size, c.size-size.ensures.graph.few);
      places = omega arith;
      inside = λ v outside. past d.After-loop-v v (omega (arith, c.size-size.ensures.size));
    }
