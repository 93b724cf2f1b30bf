use Rattle.dg_rank.proofs.Common.{◌≡◌, ◌≤◌, ◌+◌, arith, w64, to_z, of_z, unsigned_abs, ints, ℤ, pos, ◌-ℤ◌, genus, degree, IsRank, FailsFirstAt, rank_of_dual, at}
use Rattle.std.proofs.Math.IntN.{◌+ℤ◌}
use Rattle.dg_rank.proofs.LeastLosses.{side_fails}
use Rattle.dg_rank.proofs.RankByTests.{rank_before}
use Rattle.dg_rank.proofs.numbers.both_ranks.Goals as goal

pub overflow_sub-result : goal.overflow_sub-result
overflow_sub-result c =
    omega (
      arith,
      ints,
      c.from-rank.ensures,
      c.in-Some.ensures.0,
      c.failing_degree.ensures.few,
      c.lesser_side-amounts.ensures.few,
      c.rank_difference.ensures.small,
    )

pub returns : goal.returns
returns c =
    let g = c.args.graph.now in
    let D = at c.args.divisor.now in
    let fails = c.in-Some.fails + c.lesser_side-amounts.result.less in
    let first : FailsFirstAt g D fails =
    side_fails g D (at c.lesser_side-amounts.result.amounts) c.lesser_side-amounts.result.less c.lesser_side-amounts.ensures.side
    c.in-Some.fails c.in-Some.ensures.1 in
    let few : fails ≤ 17001000 =
    omega (arith, c.in-Some.ensures.0, c.failing_degree.ensures.few, c.lesser_side-amounts.ensures.few) in
    let rank : ℤ = to_z w64 (of_z w64 (to_z w64 (of_z w64 c.from-rank.result) -ℤ pos 1)) in
    let value : rank ≡ pos fails -ℤ pos 1 = omega (arith, ints, c.from-rank.ensures, few) in
    let is_rank : IsRank g D rank = rw value (rank_before g D fails first) in
    let apart : c.rank_difference.result ≡ (degree g.size D +ℤ pos 1) -ℤ genus g = c.rank_difference.ensures.apart in
    let small : unsigned_abs c.rank_difference.result ≤ 17000000 = c.rank_difference.ensures.small in
    let dual : to_z w64 (of_z w64 (rank -ℤ to_z w64 (of_z w64 c.rank_difference.result))) ≡ rank -ℤ c.rank_difference.result =
    omega (arith, ints) in (
      is_rank,
      rank_of_dual g D rank _ c.size-size.ensures.graph.multigraph (omega arith) (omega (arith, ints)) is_rank,
    )

pub unreachable-requires : goal.unreachable-requires
unreachable-requires c =
    c.lesser_side-amounts.ensures.side.fails c.failing_degree.result c.failing_degree.ensures.genus c.in_default.ensures
