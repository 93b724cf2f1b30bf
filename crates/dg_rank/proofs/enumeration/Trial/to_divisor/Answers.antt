use Rattle.dg_rank.proofs.Common.{◌≡◌, ℕ, ◌<◌, ◌≤◌, length, length-set, take, arith, ◌∙◌, sum, ints, get_or-take, length-take-le, get_or-le-sum_by, pos, filled-set}
use Rattle.std.proofs.Common.{slice_index, slice_index_or}
use Rattle.dg_rank.proofs.enumeration.Trial.to_divisor.Goals as goal

pub loop-v-preserved : goal.loop-v-preserved
loop-v-preserved c =
    let within : c.loop-v.v < length c.loop-v.amounts = omega arith in
    record {
      size = length-set _ _ _ ∙ c.loop-v.invariant.size;
      same = filled-set c.loop-v.amounts c.loop-v.v _ (λ u. pos (slice_index c.args.self.now u)) within
          (omega (arith, ints)) c.loop-v.invariant.same;
    }

pub sized-requires-clause-range : goal.sized-requires-clause-range
sized-requires-clause-range c v low =
    let few : c.size-size.result ≤ length c.loop-v.amounts = omega (arith, c.size-size.ensures.few) in
    let here : v < c.size-size.result = omega (arith, length-take-le c.size-size.result c.loop-v.amounts few) in
    let is : slice_index_or (take c.size-size.result c.loop-v.amounts) v (pos 0) ≡ pos (slice_index c.args.self.now v) =
    get_or-take c.size-size.result c.loop-v.amounts v (pos 0) here ∙ c.loop-v.invariant.same v (omega arith) in
    let most : slice_index c.args.self.now v ≤ sum c.args.self.now =
    get_or-le-sum_by (λ (x : ℕ). x) c.args.self.now v 0 (omega arith) in
    rw is (omega (arith, ints, c.requires))
