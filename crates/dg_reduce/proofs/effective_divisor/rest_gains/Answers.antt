-- One more gain is written, and the others stay.
use Rattle.dg_reduce.proofs.Common.{◌≡◌, ℕ, ◌∙◌, if◌then◌else◌, ap, arith, ints, length-set, to_z, of_z, in_set}
use Rattle.dg_chips.proofs.VectorLaws.{filled-set}
use Rattle.dg_reduce.proofs.Entries.{few_set}
use mir.Syntax.{w32}
use Rattle.dg_reduce.proofs.effective_divisor.rest_gains.Goals as goal

pub gained-requires-clause-edges : goal.gained-requires-clause-edges
gained-requires-clause-edges c =
    c.outside.ensures c.loop-v.v (omega arith)
    ∙ ap (λ (n : ℕ). if in_set c.args.rest.now.burnt.unburnt c.loop-v.v then 0 else n) (c.valences.ensures c.loop-v.v)

pub loop-v-preserved : goal.loop-v-preserved
loop-v-preserved c =
    let value : to_z w32 (of_z w32 c.from.result) ≡ c.gained.result = omega (arith, ints, c.from.ensures, c.gained.ensures.few) in
    record {
      places = length-set _ _ _ ∙ c.loop-v.invariant.places;
      same = filled-set c.loop-v.gains c.loop-v.v _ _ (omega arith) (value ∙ c.gained.ensures.gain) c.loop-v.invariant.same;
      few = few_set 63 c.loop-v.gains c.loop-v.v _ (omega arith) (rw value c.gained.ensures.few) c.loop-v.invariant.few;
    }
