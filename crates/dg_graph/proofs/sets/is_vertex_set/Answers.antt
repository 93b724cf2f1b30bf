use Rattle.dg_graph.proofs.Common.{◌≡◌, ◌<◌, true, false, arith, inl, inr, sym, ◌∙◌, cases_lt}
use Rattle.dg_graph.specs.Sets.{in_set}
use Rattle.dg_graph.proofs.SetLaws.{in_set_below}
use Rattle.dg_graph.proofs.sets.is_vertex_set.Goals as goal

pub returns-clause-within : goal.returns-clause-within
returns-clause-within c = λ v member. elim (cases_lt v c.args.size) [
  | inl below ↦ below
  | inr above ↦
      let few : v < 16 = in_set_below c.args.set v (omega arith) member in
      let none : in_set c.args.set v ≡ false = c.loop-v.invariant v above (omega arith) in
      let clash : false ≡ true = sym none ∙ member in absurd (cc)
]
