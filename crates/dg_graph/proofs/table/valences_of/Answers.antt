use Rattle.dg_graph.proofs.Common.{length-set, arith, ◌∙◌, fill_by_all, valence}
use Rattle.dg_theory.specs.Multigraph.{entry}
use Rattle.dg_graph.specs.Valences.{valences_of}
use Rattle.dg_graph.proofs.Valences.{valence-few, filled-more}
use Rattle.dg_graph.proofs.table.valences_of.Goals as goal

pub overflow_cast-valences : goal.overflow_cast-valences
unfolding entry
overflow_cast-valences c = omega (
  arith,
  c.row_sum.ensures.sum,
  valence-few (record { size = c.args.size; table = c.args.table.now }) c.loop-v.v c.requires,
)

pub loop-v-preserved : goal.loop-v-preserved
unfolding entry
loop-v-preserved c = record {
  places = length-set _ _ _ ∙ c.loop-v.invariant.places;
  same = filled-more c.loop-v.valences c.loop-v.v c.row_sum.result
      (valence (record { size = c.args.size; table = c.args.table.now }))
      (omega arith) c.row_sum.ensures.sum c.loop-v.invariant.same;
}

pub returns : goal.returns
unfolding valences_of
returns c = fill_by_all _ c.loop-v.valences 16 0 c.loop-v.invariant.places
    (λ k below. c.loop-v.invariant.same k (omega arith))
