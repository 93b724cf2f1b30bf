use Rattle.dg_graph.proofs.Common.{◌≡◌, ⊎_elim, arith, cases_eq, length-set, get_or-set_same, get_or-set_other, ◌∙◌}
use Rattle.dg_graph.proofs.graph.Graph.twins.Goals as goal

pub loop-v-preserved : goal.loop-v-preserved
loop-v-preserved c =
    let set_of = c.twins_of.result in
    let g = c.args.self.now in
    record {
      places = length-set c.loop-v.sets c.loop-v.v set_of ∙ c.loop-v.invariant.places;
      done = λ v u below. ⊎_elim
          (λ (same : v ≡ c.loop-v.v).
          rw (same, get_or-set_same c.loop-v.sets c.loop-v.v set_of 0 (omega (arith, c.loop-v.invariant.places)))
          (c.twins_of.ensures.part u, λ (below_u, other, twins). c.twins_of.ensures.all u below_u other twins))
          (λ (apart : v ≡ c.loop-v.v → ⊥). rw (get_or-set_other c.loop-v.sets c.loop-v.v v set_of 0 apart)
          (c.loop-v.invariant.done v u (omega arith)))
          (cases_eq v c.loop-v.v);
    }
