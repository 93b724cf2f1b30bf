-- The rank by a least loss.
--   own_side        a divisor whose rank is at most that of its residual is the side of the lesser rank
--   dual_side       and if it is not, the residual is
--   side_fails      the least degree at which that side fails tells that of the divisor
--   side_needs      if that side passes all before a test past the limits, the divisor needs too many tests
--   side_rich       so it does if the first test that it may fail is past the limits
--   trial_at_last   what holds all its dollars at the last place is a trial
--   loss_some       what has no debts bears a loss of nothing
--   loss_counted    so a loss has a dollar, and its degree is one at which a test fails
--   least_fails     if each loss of a dollar less can be borne, that is the least such degree
--   told_on         of equivalent amounts the same is told
use Rattle.dg_rank.proofs.Common.{◌≡◌, ◌↔◌, ℕ, ◌+◌, ◌-◌, ◌<◌, ◌≤◌, List, [], length, slice_index, arith, subst, ⊎_elim, cases_eq, cases_lt, ints, w64, to_z, of_z, ℤ, pos, nat_abs, natural, ◌-ℤ◌, ◌≤ℤ◌, Option, Some, None, MatchOption, Multigraph, IsMultigraph, genus, Amounts, degree, DivisorsAgreeOn, AreEquivalent, IsEffective, minus, canonical, HasRankAtLeast, equivalent-refl, equivalent-rank, rich_rank, rank_down, rank_zero, sum_below-cong, Vector, at, HoldsTrial, IsTrial, amounts_of_trial, IsLossFrom, FailsFirstAt, IsLesserSide, IsPastLimits, NeedsTooMany}
use Rattle.std.proofs.Math.IntN.{◌+ℤ◌}
use Rattle.dg_rank.proofs.DualTests.{dual_passes}
use Rattle.dg_rank.proofs.RankByTests.{not_all_pass}
use Rattle.dg_rank.proofs.FirstFrom.{at_last}
use Rattle.dg_rank.proofs.Starts.{trial_from}
use Rattle.dg_rank.proofs.TrialLists.{degree-take}

module _ (g : Multigraph) (D E : Amounts) (graph : IsMultigraph g) (some : 0 < g.size) where
  pub own_side : DivisorsAgreeOn g.size E D → ((degree g.size D +ℤ pos 1) -ℤ genus g) ≤ℤ pos 0 → IsLesserSide g D E 0
  own_side same poor = record {
    below = λ k low. absurd (omega arith);
    passes = alike;
    fails = λ k high rank. not_all_pass g D (k + 0) graph some (omega (arith, ints)) (omega (arith, ints)) ((alike k).0 rank);
  } where
    alike : (k : ℕ) → HasRankAtLeast g E k ↔ HasRankAtLeast g D (k + 0)
    alike k =
        let none : k ≡ k + 0 = omega arith in
        subst (λ (m : ℕ). HasRankAtLeast g E k ↔ HasRankAtLeast g D m) none
        (equivalent-rank g E D k (equivalent-refl g E D same))

  pub dual_side : (m : ℕ) → DivisorsAgreeOn g.size E (minus (canonical g) D) →
      pos m ≡ (degree g.size D +ℤ pos 1) -ℤ genus g → IsLesserSide g D E m
  dual_side m same more = record {
    below = λ k low. rich_rank g D k graph some (omega (arith, ints));
    passes = tests;
    fails = λ k high rank. not_all_pass g D (k + m) graph some (omega (arith, ints)) (omega (arith, ints)) ((tests k).0 rank);
  } where
    tests : (k : ℕ) → HasRankAtLeast g E k ↔ HasRankAtLeast g D (k + m)
    tests k = dual_passes g D E (k + m) k graph some (omega (arith, ints)) same

module _ (g : Multigraph) (D E : Amounts) (m : ℕ) (side : IsLesserSide g D E m) where
  passed : (k j : ℕ) → ((i : ℕ) → i < k → HasRankAtLeast g E i) → j < k + m → HasRankAtLeast g D j
  passed k j below low = ⊎_elim
      (λ (rich : j < m). side.below j rich)
      (λ (other : m ≤ j).
      let same : (j - m) + m ≡ j = omega arith in
      subst (HasRankAtLeast g D) same ((side.passes (j - m)).0 (below (j - m) (omega arith))))
      (cases_lt j m)

  pub side_fails : (k : ℕ) → FailsFirstAt g E k → FailsFirstAt g D (k + m)
  side_fails k first = record {
    passed = λ j low. passed k j first.passed low;
    fails = λ rank. first.fails ((side.passes k).1 rank);
  }

  pub side_needs : (k : ℕ) → HasRankAtLeast g E k → IsPastLimits g.size (k + m + 1) → NeedsTooMany g D
  side_needs k rank past = record {
    degree = k + m + 1;
    past = past;
    passed = λ j low. passed (k + 1) j (λ i below. rank_down g E i k (omega arith) rank) (omega arith);
  }

  pub side_rich : IsPastLimits g.size m → NeedsTooMany g D
  side_rich past = record { degree = m; past = past; passed = side.below }

pub trial_at_last : (n k : ℕ) (E : List ℕ) → 0 < n → length E ≡ n → slice_index E (n - 1) ≡ k →
    ((u : ℕ) → u + 1 < n → slice_index E u ≡ 0) → IsTrial n k E
trial_at_last n k E some places held empty = trial_from n k 0 E places (at_last n k 0 E some held empty)

loss_some : (g : Multigraph) (A : Amounts) (k : ℕ) → IsEffective g.size A → (¬ HasRankAtLeast g A k) → 1 ≤ k
loss_some g A k effective fails = ⊎_elim
    (λ (none : k ≡ 0). absurd (fails (rw none ((rank_zero g A).1 ([], effective)))))
    (λ (other : k ≡ 0 → ⊥). omega arith)
    (cases_eq k 0)

-- what a cast of a degree gives
abbrev pub cast : ℤ → ℕ
cast x = nat_abs (to_z w64 (of_z w64 x))

pub loss_counted : (g : Multigraph) (A : Amounts) (most : ℕ) (E : List ℕ) (d : Vector) (x : ℤ) → most ≤ 1000 →
    IsEffective g.size A → IsLossFrom g A most 0 E → HoldsTrial (length E) E d → x ≡ degree d.size (at d) →
    (pos 0 ≤ℤ x) × (x ≤ℤ pos most) × (1 ≤ cast x) × (cast x ≤ most) × (¬ HasRankAtLeast g A (cast x))
loss_counted g A most E d x few effective loss held counted =
    let size : d.size ≡ g.size = omega (arith, held.size, loss.places) in
    let same : degree g.size (at d) ≡ degree g.size (amounts_of_trial E) =
    sum_below-cong g.size (at d) (amounts_of_trial E) (λ v below. held.amounts v (omega (arith, loss.places))) in
    let dollars : x ≡ degree g.size (at d) = rw size at counted in
    let (k, is) = natural x (omega (arith, ints, degree-take g.size E (omega (arith, loss.places)))) in
    let kept : cast x ≡ k = omega (arith, ints, loss.few) in
    let fails : ¬ HasRankAtLeast g A k =
    λ rank. loss.loses (rank (amounts_of_trial E) (λ v below. omega (arith, ints)) (omega (arith, ints))) in (
      omega (arith, ints),
      omega (arith, ints, loss.few),
      rw kept (loss_some g A k effective fails),
      omega (arith, ints, loss.few),
      rw kept fails,
    )

pub least_fails : (g : Multigraph) (A : Amounts) (k : ℕ) → HasRankAtLeast g A (k - 1) → (¬ HasRankAtLeast g A k) →
    FailsFirstAt g A k
least_fails g A k rank fails = record {
  passed = λ j low. rank_down g A j (k - 1) (omega arith) rank;
  fails = fails;
}

pub told_on : (found : Option ℕ) (g : Multigraph) (A B : Amounts) (most : ℕ) → AreEquivalent g A B →
    MatchOption found (HasRankAtLeast g B most) (λ k. (k ≤ most) × FailsFirstAt g B k) →
    MatchOption found (HasRankAtLeast g A most) (λ k. (k ≤ most) × FailsFirstAt g A k)
told_on None g A B most same rank = (equivalent-rank g A B most same).1 rank
told_on (Some k) g A B most same (low, first) = (
  low,
  record {
    passed = λ j below. (equivalent-rank g A B j same).1 (first.passed j below);
    fails = λ rank. first.fails ((equivalent-rank g A B k same).0 rank);
  },
)
