-- Ranks that are told by the first test that fails.
--   rank_before       where k is the least degree of the tests that D fails, the rank is k - 1
--   rank_of_dual_before  so is that of the residual, for the degree at which its test passes where that of D does
--   fails_low         there k is at most the degree and 1, but for its sign
--   not_all_pass      from the genus on, and where it is not rich, a divisor fails
--   in_limits         the rank is told within the limits, where the next test is
--   needs_too_many    where a test of the next degree after the rank is past the limits, too many tests are needed
use Rattle.dg_rank.proofs.Common.{◌≡◌, ℕ, zero, suc, ◌+◌, ◌<◌, ◌≤◌, arith, refl, sym, subst, unsigned_abs, ◌≤ℤ◌, ◌<ℤ◌, ints, by_lt_z, ℤ, pos, ◌-ℤ◌, Multigraph, IsMultigraph, genus, Amounts, degree, minus, canonical, HasRankAtLeast, IsRank, poor_rank, rank_passes, rank_of_dual, IsDual, high_rank, IsTestable, IsPastLimits, IsTestedRank, NeedsTooMany, FailsFirstAt}
use Rattle.std.proofs.Math.IntN.{◌+ℤ◌}

pub rank_before : (g : Multigraph) (D : Amounts) (k : ℕ) → FailsFirstAt g D k → IsRank g D (pos k -ℤ pos 1)
rank_before g D zero first = (refl, first.fails)
rank_before g D (suc j) first =
    let less : pos j ≡ pos (suc j) -ℤ pos 1 = omega (arith, ints) in
    let more : j + 1 ≡ suc j = omega arith in
    subst (IsRank g D) less (first.passed j (omega arith), λ rank. first.fails (subst (HasRankAtLeast g D) more rank))

pub rank_of_dual_before : (g : Multigraph) (D : Amounts) (k l : ℕ) → IsMultigraph g → 0 < g.size → FailsFirstAt g D k →
    IsDual g D k l → IsRank g (minus (canonical g) D) (pos l -ℤ pos 1)
rank_of_dual_before g D k l graph some first dual =
    rank_of_dual g D (pos k -ℤ pos 1) (pos l -ℤ pos 1) graph some (omega (arith, ints)) (rank_before g D k first)

pub fails_low : (g : Multigraph) (D : Amounts) (k : ℕ) → IsMultigraph g → 0 < g.size → FailsFirstAt g D k →
    k ≤ unsigned_abs (degree g.size D) + 1
fails_low g D zero graph some first = omega arith
fails_low g D (suc j) graph some first =
    by_lt_z (degree g.size D) (pos j)
    (λ (poor : degree g.size D <ℤ pos j). absurd (poor_rank g D j graph some poor (first.passed j (omega arith))))
    (λ (enough : pos j ≤ℤ degree g.size D). omega (arith, ints))

pub needs_too_many : (g : Multigraph) (D : Amounts) (k : ℕ) → IsRank g D (pos k -ℤ pos 1) → IsPastLimits g.size k →
    NeedsTooMany g D
needs_too_many g D k rank past = record {
  degree = k;
  past = past;
  passed = λ j below. rank_passes g D (pos k -ℤ pos 1) j rank (omega (arith, ints));
}

pub not_all_pass : (g : Multigraph) (D : Amounts) (k : ℕ) → IsMultigraph g → 0 < g.size → genus g ≤ℤ pos k →
    ((degree g.size D +ℤ pos 1) -ℤ genus g) ≤ℤ pos k → ¬ HasRankAtLeast g D k
not_all_pass g D k graph some high poor rank =
    let none : ⊥ = omega (arith, ints, high_rank g D k graph some high rank) in none

pub in_limits : (g : Multigraph) (D : Amounts) (k : ℕ) (r : ℤ) → IsRank g D (pos k -ℤ pos 1) → r ≡ pos k -ℤ pos 1 →
    IsTestable g.size k → IsTestedRank g D r
in_limits g D k r rank same within = record {
  is_rank = subst (IsRank g D) (sym same) rank;
  next = k;
  follows = omega (arith, ints);
  within = within;
}
