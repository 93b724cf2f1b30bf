use Rattle.dg_rank.proofs.Common.{◌≡◌, ◌≤◌, arith, w64, to_z, of_z, unsigned_abs, ints, pos, degree, at}
use Rattle.std.proofs.Math.IntN.{◌+ℤ◌}
use Rattle.dg_rank.proofs.SmallDegrees.{degree_small, genus_small}
use Rattle.dg_rank.proofs.duals.rank_difference.Goals as goal
use Rattle.dg_rank.proofs.duals.rank_difference.Goals.{After-degree}

-- the degree is small
few : (c : After-degree) → unsigned_abs (degree c.args.divisor.now.size (at c.args.divisor.now)) ≤ 16000000
few c = omega (
  arith,
  degree_small c.args.divisor.now.size (at c.args.divisor.now) c.size-amounts.ensures.divisor.within,
  c.size-amounts.ensures.divisor.few,
)

sum : (c : After-degree) → to_z w64 (of_z w64 (to_z w64 (of_z w64 c.degree.result) +ℤ pos 1)) ≡ c.degree.result +ℤ pos 1
sum c = omega (arith, ints, few c, c.degree.ensures)

pub overflow_add-result : goal.overflow_add-result
overflow_add-result c = omega (arith, ints, few (goal.at.overflow_add-result c).After-degree)

pub overflow_sub-result : goal.overflow_sub-result
overflow_sub-result c =
    let d = (goal.at.overflow_sub-result c).After-degree in
    omega (arith, ints, few d, sum d, genus_small c.args.graph.now c.size-size.ensures.graph, c.size-size.ensures.graph.few)

pub returns-clause-apart : goal.returns-clause-apart
returns-clause-apart c =
    let g = c.args.graph.now in
    let d = (goal.at.returns-clause-apart c).After-degree in
    let whole : c.degree.result ≡ degree g.size (at c.args.divisor.now) = rw c.requires at c.degree.ensures in
    omega (arith, ints, few d, sum d, genus_small g c.size-size.ensures.graph, c.size-size.ensures.graph.few)

pub returns-clause-small : goal.returns-clause-small
returns-clause-small c =
    let d = (goal.at.returns-clause-small c).After-degree in
    omega (arith, ints, few d, sum d, genus_small c.args.graph.now c.size-size.ensures.graph, c.size-size.ensures.graph.few)
