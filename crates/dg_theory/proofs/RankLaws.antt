-- The laws of rank tests.
--   less_winnable    of equivalent divisors, each less F, either both are winnable or neither is
--   equivalent-rank  of equivalent divisors either both have a rank of at least k or neither has
--   win_one_more     where there is a vertex, a rank of at least k + 1 makes D less E winnable for every effective E of
--                    degree k: with a dollar more E has the degree k + 1
--   rank_below       a rank of at least k + 1 is one of at least k
--   rank_zero        the rank is at least 0 exactly where the divisor is winnable
--   rich_rank        a divisor whose degree is at least the genus and k more has a rank of at least k
--   poor_rank        a divisor whose degree is less than k has no rank of at least k
use Rattle.dg_theory.proofs.Common.{◌≡◌, ℕ, ◌+◌, ◌<◌, [], arith, refl, ⊎_elim, cases_eq, ints, pos, ◌+ℤ◌, ◌↔◌, ◌≤ℤ◌, Multigraph, Amounts, degree, only_at, IsEffective, AreEquivalent, IsWinnable, minus, HasRankAtLeast, EquivalentRank, RankIsMonotone, RankZeroIffWinnable, RankFromDegree, RankAtMostDegree}
use Rattle.dg_theory.proofs.SumLaws.{sum_below-add, sum_below-zero}
use Rattle.dg_theory.proofs.Winning.{equivalent-winnable}
use Rattle.dg_theory.proofs.Equivalence.{equivalent-less}
use Rattle.dg_theory.proofs.ExistenceLaws.{rich_is_winnable}
use Rattle.dg_theory.proofs.Giving.{win_more, degree-less, degree-only_at, effective-only_at, none_of_degree_0, degree-winnable}

pub less_winnable : (g : Multigraph) (D E F : Amounts) → AreEquivalent g D E →
    IsWinnable g (minus D F) ↔ IsWinnable g (minus E F)
less_winnable g D E F same = equivalent-winnable g (minus D F) (minus E F) (equivalent-less g D E F same)

pub equivalent-rank : EquivalentRank
equivalent-rank g D E k same = (
  λ rank F effective of_degree. (less_winnable g D E F same).0 (rank F effective of_degree),
  λ rank F effective of_degree. (less_winnable g D E F same).1 (rank F effective of_degree),
)

win_one_more : (g : Multigraph) (D : Amounts) (k : ℕ) (E : Amounts) → 0 < g.size → HasRankAtLeast g D (k + 1) →
    IsEffective g.size E → degree g.size E ≡ pos k → IsWinnable g (minus D E)
win_one_more g D k E some rank effective of_degree =
    let dollar : Amounts = only_at 0 (pos 1) in
    let paid : IsEffective g.size dollar = effective-only_at g.size 0 1 in
    let more : Amounts = λ w. E w +ℤ dollar w in
    win_more g (minus D more) (minus D E) (λ v below. omega (arith, ints, paid v below))
    (rank more (λ v below. omega (arith, ints, paid v below, effective v below))
    (omega (arith, ints, sum_below-add g.size E dollar, degree-only_at g.size 0 (pos 1) some, of_degree)))

pub rank_below : RankIsMonotone
rank_below g D k rank E effective of_degree =
    ⊎_elim
    (λ (empty : g.size ≡ 0). ([], λ v below. absurd (omega arith)))
    (λ (other : g.size ≡ 0 → ⊥). win_one_more g D k E (omega arith) rank effective of_degree)
    (cases_eq g.size 0)

pub rank_zero : RankZeroIffWinnable
rank_zero g D = (
  λ rank.
      win_more g (minus D (λ _. pos 0)) D (λ v below. omega (arith, ints))
      (rank (λ _. pos 0) (λ v below. omega (arith, ints)) (sum_below-zero g.size (λ _. pos 0) (λ w below. refl))),
  λ win E effective of_degree.
      win_more g D (minus D E)
      (λ v below. omega (arith, ints, none_of_degree_0 g.size E effective of_degree v below)) win,
)

pub rich_rank : RankFromDegree
rich_rank g D k graph some rich E effective of_degree =
    rich_is_winnable g (minus D E) graph some (omega (arith, ints, degree-less g.size D E, rich, of_degree))

pub poor_rank : RankAtMostDegree
poor_rank g D k graph some poor rank =
    let dollars : Amounts = only_at 0 (pos k) in
    let size : degree g.size dollars ≡ pos k = degree-only_at g.size 0 (pos k) some in
    let high : pos 0 ≤ℤ degree g.size (minus D dollars) =
    degree-winnable g (minus D dollars) graph (rank dollars (effective-only_at g.size 0 k) size) in
    let none : ⊥ = omega (arith, ints, degree-less g.size D dollars) in
    none
