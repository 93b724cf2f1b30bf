-- The rank as a number, and that of the residual.
--   rank_down          a rank of at least k is one of at least each j ≤ k
--   not_above          where D has a rank of at least k and none of at least j + 1, k is at most j
--   not_rich           where D has no rank of at least k, its degree is below the genus and k more
--   rank_passes        the rank is at least each k that it is not below
--   rank_once          a divisor has at most one rank
--   rank_of_dual       the rank of a divisor tells that of its residual
--   riemann_roch       the two ranks differ by the degree, plus 1, less the genus
use Rattle.dg_theory.proofs.Common.{◌≡◌, ℕ, zero, suc, ◌+◌, ◌<◌, ◌≤◌, arith, ap, sym, ◌∙◌, subst, ⊎_elim, ◌≤ℤ◌, ◌<ℤ◌, cases_eq, cases_lt, ints, by_lt_z, ℤ, pos, negsuc, ◌+ℤ◌, ◌-ℤ◌, Multigraph, IsMultigraph, genus, Amounts, degree, minus, canonical, HasRankAtLeast, IsRank, RankIsUnique, RankOfDual, RiemannRoch}
use Rattle.dg_theory.proofs.RankLaws.{rank_below, rich_rank}
use Rattle.dg_theory.proofs.DualityLaws.{dual_tests, dual-degree}

pub rank_down : (g : Multigraph) (D : Amounts) (j k : ℕ) → j ≤ k → HasRankAtLeast g D k → HasRankAtLeast g D j
rank_down g D j zero less rank = let same : zero ≡ j = omega arith in subst (HasRankAtLeast g D) same rank
rank_down g D j (suc k) less rank =
    ⊎_elim
    (λ (same : j ≡ suc k). subst (HasRankAtLeast g D) (sym same) rank)
    (λ (other : j ≡ suc k → ⊥).
    let more : suc k ≡ k + 1 = omega arith in
    rank_down g D j k (omega arith) (rank_below g D k (subst (HasRankAtLeast g D) more rank)))
    (cases_eq j (suc k))

not_above : (g : Multigraph) (D : Amounts) (j k : ℕ) → ¬ HasRankAtLeast g D (j + 1) → HasRankAtLeast g D k → k ≤ j
not_above g D j k fails rank =
    ⊎_elim
    (λ (more : j < k). absurd (fails (rank_down g D (j + 1) k (omega arith) rank)))
    (λ (most : k ≤ j). most)
    (cases_lt j k)

pub not_rich : (g : Multigraph) (D : Amounts) (k : ℕ) → IsMultigraph g → 0 < g.size → ¬ HasRankAtLeast g D k →
    degree g.size D <ℤ (genus g +ℤ pos k)
not_rich g D k graph some fails =
    by_lt_z (degree g.size D) (genus g +ℤ pos k)
    (λ (poor : degree g.size D <ℤ (genus g +ℤ pos k)). poor)
    (λ (rich : (genus g +ℤ pos k) ≤ℤ degree g.size D). absurd (fails (rich_rank g D k graph some rich)))

pub rank_passes : (g : Multigraph) (D : Amounts) (r : ℤ) (k : ℕ) → IsRank g D r → pos k ≤ℤ r → HasRankAtLeast g D k
rank_passes g D (pos j) k (passes, fails) low = rank_down g D k j (omega (arith, ints)) passes
rank_passes g D (negsuc n) k (none, fails) low = absurd (omega (arith, ints))

pub rank_once : RankIsUnique
rank_once g D (pos j) (pos k) (passes, fails) (passes', fails') =
    ap pos (omega (arith, not_above g D j k fails passes', not_above g D k j fails' passes))
rank_once g D (pos j) (negsuc n) (passes, fails) (none, fails') =
    absurd (fails' (rank_down g D 0 j (omega arith) passes))
rank_once g D (negsuc m) (pos k) (none, fails) (passes, fails') =
    absurd (fails (rank_down g D 0 k (omega arith) passes))
rank_once g D (negsuc m) (negsuc n) (none, fails) (none', fails') = ap negsuc (none ∙ sym none')

pub rank_of_dual : RankOfDual
rank_of_dual g D (pos k) (pos l) graph some apart (passes, fails) = (
  (dual_tests g D k l graph some apart).0 passes,
  λ rank. fails ((dual_tests g D (k + 1) (l + 1) graph some (omega (arith, ints))).1 rank),
)
rank_of_dual g D (pos k) (negsuc n) graph some apart (passes, fails) =
    let none : n ≡ 0 = omega (arith, ints, not_rich g D (k + 1) graph some fails) in
    (none, λ rank. fails ((dual_tests g D (k + 1) 0 graph some (omega (arith, ints))).1 rank))
rank_of_dual g D (negsuc m) (pos l) graph some apart (none, fails) = (
  rich_rank g (minus (canonical g) D) l graph some (omega (arith, ints, dual-degree g D graph)),
  λ rank. fails ((dual_tests g D 0 (l + 1) graph some (omega (arith, ints))).1 rank),
)
rank_of_dual g D (negsuc m) (negsuc n) graph some apart (none, fails) =
    let none' : n ≡ 0 = omega (arith, ints, not_rich g D 0 graph some fails) in
    (none', λ rank. fails ((dual_tests g D 0 0 graph some (omega (arith, ints))).1 rank))

pub riemann_roch : RiemannRoch
riemann_roch g D r s graph some rank dual_rank =
    let apart : ℤ = (degree g.size D +ℤ pos 1) -ℤ genus g in
    let other : IsRank g (minus (canonical g) D) (r -ℤ apart) =
    rank_of_dual g D r (r -ℤ apart) graph some (omega (arith, ints)) rank in
    let same : s ≡ r -ℤ apart = rank_once g (minus (canonical g) D) s (r -ℤ apart) dual_rank other in
    omega (arith, ints)
