use Rattle.dg_reduce.proofs.Common.{◌≡◌, ◌<◌, arith, w128, to_z, ints, in_set, at}
use Rattle.dg_reduce.proofs.Most.{IsLeast, member_holds, least_lower, least_kept, least_is_most}
use Rattle.dg_reduce.proofs.max_firings.max_firings.Goals as goal
use Rattle.dg_reduce.proofs.max_firings.max_firings.Goals.{then-times-most, else-times-most}

pub max_firings_at-times-requires-clause-once : goal.max_firings_at-times-requires-clause-once
max_firings_at-times-requires-clause-once c = λ member.
    member_holds c.args.graph.now c.requires.free.0 (at c.args.chips.now)
    (in_set c.args.set) c.loop-v.v c.requires.free.2
    (omega arith) member

pub loop-v-preserved : goal.loop-v-preserved
loop-v-preserved c =
    let inside : c.loop-v.v < c.args.graph.now.size = omega arith in
    elim c.if-times-most.branch [
      | then-times-most w ↦
          let now : to_z w128 c.if-times-most.most-bits ≡ c.max_firings_at-times.result = omega (arith, ints, w.most-is) in
          rw now
          (least_lower c.args.graph.now (at c.args.chips.now) (in_set c.args.set) c.loop-v.v
          (to_z w128 c.loop-v.most-bits)
          c.max_firings_at-times.result inside c.loop-v.invariant c.max_firings_at-times.ensures
          (omega (arith, ints, w.if-times-most.true)))
      | else-times-most w ↦
          let now : to_z w128 c.if-times-most.most-bits ≡ to_z w128 c.loop-v.most-bits =
          omega (arith, ints, w.most-is) in
          rw now
          (least_kept c.args.graph.now (at c.args.chips.now) (in_set c.args.set) c.loop-v.v
          (to_z w128 c.loop-v.most-bits)
          c.max_firings_at-times.result inside c.loop-v.invariant c.max_firings_at-times.ensures
          (omega (arith, ints, w.if-times-most.false)))
    ]

pub returns : goal.returns
returns c =
    let all : c.loop-v.v ≡ c.args.graph.now.size = omega arith in
    let least : IsLeast c.args.graph.now (at c.args.chips.now) (in_set c.args.set) c.args.graph.now.size
    (to_z w128 c.loop-v.most-bits) =
    rw all at (c.loop-v.invariant) in
    λ q vertex free. least_is_most c.args.graph.now q (at c.args.chips.now) (in_set c.args.set)
    (to_z w128 c.loop-v.most-bits)
    c.size-v-end.ensures.graph.multigraph vertex free
    (c.requires.member.0, free.vertices c.requires.member.0 c.requires.member.1, c.requires.member.1) least
