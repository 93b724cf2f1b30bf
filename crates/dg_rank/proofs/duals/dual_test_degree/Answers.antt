use Rattle.dg_rank.proofs.Common.{◌≡◌, ℕ, ◌<◌, arith, of_z, to_z, w64, pos, ◌+ℤ◌, ◌-ℤ◌, genus, degree, at}
use Rattle.dg_rank.proofs.SmallDegrees.{genus_small, genus_least}
use Rattle.dg_rank.proofs.TestDegrees.{dual_degree}
use Rattle.dg_rank.proofs.duals.dual_test_degree.Goals as goal
use Rattle.dg_rank.proofs.duals.dual_test_degree.Goals.{After-rank_difference}

other : (c : After-rank_difference) → (n : ℕ) ×
    (to_z w64 (of_z w64 (to_z w64 (of_z w64 c.from.result) -ℤ to_z w64 (of_z w64 c.rank_difference.result))) ≡ pos n) ×
    (n < 4294967296) ×
    (pos c.args.k -ℤ pos n ≡ (degree c.args.graph.now.size (at c.args.divisor.now) +ℤ pos 1) -ℤ genus c.args.graph.now)
other c =
    let g = c.args.graph.now in
    dual_degree (degree g.size (at c.args.divisor.now)) (genus g) c.rank_difference.result c.from.result c.args.k
    c.rank_difference.ensures.apart c.rank_difference.ensures.small (genus_small g c.size-size.ensures.graph)
    (genus_least g c.size-size.ensures.graph) c.requires.low c.requires.poor c.from.ensures

pub overflow_cast-result : goal.overflow_cast-result
overflow_cast-result c =
    let (n, same, fits, _) = other (goal.at.overflow_cast-result c).After-rank_difference in
    rw same (omega (arith, fits))

pub returns : goal.returns
returns c =
    let (n, same, _, apart) = other (goal.at.returns c).After-rank_difference in
    rw same apart
