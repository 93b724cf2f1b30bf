-- The rank of a sum, and Clifford's theorem.
--   some_left         where a divisor has a degree above 0, some vertex holds a dollar or more
--   part_more         a part with one more dollar, of those that are left, is a part of one degree more
--   part_of           of an effective divisor of degree k or more, some part has the degree k
--   sum_winnable      the sum of two winnable divisors is winnable
--   rank_of_sum       the rank of a sum is at least the sum of the ranks, where neither is -1
--   canonical_below   the rank of the canonical divisor is less than the genus
--   clifford          where the residual is winnable, the rank is at most half of the degree
--   rank_down         a rank of at least k is one of at least 0
--   half_of_degree    so a rank test of more than half of the degree passes for rich divisors only
use Rattle.dg_theory.proofs.Common.{◌≡◌, ℕ, zero, suc, ◌+◌, ◌<◌, inl, inr, true, false, arith, refl, subst, ⊎_elim, ◌≤ℤ◌, ◌<ℤ◌, cases_eq, ints, by_lt_z, ℤ, pos, ◌+ℤ◌, ◌-ℤ◌, Multigraph, IsMultigraph, genus, Amounts, degree, only_at, IsEffective, IsWinnable, minus, canonical, HasRankAtLeast, RankOfSum, Clifford, CliffordOrRiemannRoch}
use Rattle.dg_theory.proofs.SumLaws.{sum_below-add, sum_below-zero}
use Rattle.dg_theory.proofs.SumBounds.{sum_below-nonpos}
use Rattle.dg_theory.proofs.FiringLaws.{fired-fired}
use Rattle.dg_theory.proofs.Plays.{only_at-here, only_at-other}
use Rattle.dg_theory.proofs.Winning.{script_of_win, win_of_script}
use Rattle.dg_theory.proofs.Levels.{level, level_in, level_off}
use Rattle.dg_theory.proofs.Counting.{member_or_none}
use Rattle.dg_theory.proofs.Giving.{win_more, degree-less, degree-only_at, effective-only_at}
use Rattle.dg_theory.proofs.Equivalence.{equivalent-refl}
use Rattle.dg_theory.proofs.RankLaws.{equivalent-rank, rank_below}
use Rattle.dg_theory.proofs.OrderDegrees.{canonical-degree}
use Rattle.dg_theory.proofs.DualityLaws.{IsDual, dual_tests, natural, high_rank}

pub some_left : (n : ℕ) (D : Amounts) → pos 0 <ℤ degree n D → (v : ℕ) × (v < n) × (pos 1 ≤ℤ D v)
some_left n D high =
    ⊎_elim
    (λ (some : (u : ℕ) × (u < n) × (level D (pos 1) u ≡ true)). (some.0, some.1, level_in D (pos 1) some.0 some.2))
    (λ (none : (u : ℕ) → u < n → level D (pos 1) u ≡ false).
    let low : degree n D ≤ℤ pos 0 =
    sum_below-nonpos n D (λ w below. omega (arith, ints, level_off D (pos 1) w (none w below))) in
    absurd (omega (arith, ints)))
    (member_or_none n (level D (pos 1)))

record IsPart (n : ℕ) (F : Amounts) (k : ℕ) (E : Amounts) : Type 0 where
  effective : IsEffective n E
  of_degree : degree n E ≡ pos k
  within : (v : ℕ) → v < n → E v ≤ℤ F v

part_more : (n : ℕ) (F : Amounts) (k : ℕ) (E : Amounts) (v : ℕ) → IsPart n F k E → v < n → pos 1 ≤ℤ minus F E v →
    IsPart n F (suc k) (λ w. E w +ℤ only_at v (pos 1) w)
part_more n F k E v part inside more = record {
  effective = λ w below. omega (arith, ints, part.effective w below, effective-only_at n v 1 w below);
  of_degree = omega (arith, ints, sum_below-add n E (only_at v (pos 1)), degree-only_at n v (pos 1) inside, part.of_degree);
  within = λ w below. ⊎_elim
      (λ (same : w ≡ v). rw same (omega (arith, ints, only_at-here v (pos 1))))
      (λ (other : w ≡ v → ⊥). omega (arith, ints, only_at-other v (pos 1) w other, part.within w below))
      (cases_eq w v);
}

part_of : (n : ℕ) (F : Amounts) (k : ℕ) → IsEffective n F → pos k ≤ℤ degree n F → (E : Amounts) × IsPart n F k E
part_of n F zero effective enough = (
  λ _. pos 0,
  record {
    effective = λ v below. omega (arith, ints);
    of_degree = sum_below-zero n (λ _. pos 0) (λ w below. refl);
    within = effective;
  },
)
part_of n F (suc k) effective enough =
    let (E, part) = part_of n F k effective (omega (arith, ints)) in
    let (v, inside, more) = some_left n (minus F E) (omega (arith, ints, degree-less n F E, part.of_degree)) in
    (λ w. E w +ℤ only_at v (pos 1) w, part_more n F k E v part inside more)

sum_winnable : (g : Multigraph) (D E : Amounts) → IsWinnable g D → IsWinnable g E → IsWinnable g (λ v. D v +ℤ E v)
sum_winnable g D E win win' =
    let (s, effective) = script_of_win g D win in
    let (t, effective') = script_of_win g E win' in
    win_of_script g (λ v. D v +ℤ E v) (λ w. s w +ℤ t w) (λ v below.
    omega (arith, ints, fired-fired g (λ u. D u +ℤ E u) s t v, effective v below, effective' v below))

pub rank_of_sum : RankOfSum
rank_of_sum g D E j k rank rank' F effective of_degree =
    let (A, part) = part_of g.size F j effective (omega (arith, ints, of_degree)) in
    let rest : IsWinnable g (minus E (minus F A)) =
    rank' (minus F A) (λ v below. omega (arith, ints, part.within v below))
    (omega (arith, ints, degree-less g.size F A, part.of_degree, of_degree)) in
    win_more g (λ v. minus D A v +ℤ minus E (minus F A) v) (minus (λ v. D v +ℤ E v) F) (λ v below. omega (arith, ints))
    (sum_winnable g (minus D A) (minus E (minus F A)) (rank A part.effective part.of_degree) rest)

canonical_below : (g : Multigraph) (k : ℕ) → IsMultigraph g → 0 < g.size → HasRankAtLeast g (canonical g) k →
    pos k <ℤ genus g
canonical_below g k graph some rank =
    by_lt_z (pos k) (genus g)
    (λ (low : pos k <ℤ genus g). low)
    (λ (high : genus g ≤ℤ pos k).
    absurd (omega (arith, ints, high_rank g (canonical g) k graph some high rank, canonical-degree g graph)))

-- a divisor and its residual share the rank of the canonical divisor
shared : (g : Multigraph) (D : Amounts) (k l : ℕ) → IsMultigraph g → 0 < g.size → HasRankAtLeast g D k →
    HasRankAtLeast g (minus (canonical g) D) l → pos (k + l) <ℤ genus g
shared g D k l graph some rank dual_rank =
    canonical_below g (k + l) graph some
    ((equivalent-rank g (λ v. D v +ℤ minus (canonical g) D v) (canonical g) (k + l)
    (equivalent-refl g _ (canonical g) (λ v below. omega (arith, ints)))).0
    (rank_of_sum g D (minus (canonical g) D) k l rank dual_rank))

pub clifford : Clifford
clifford g D k graph some rank special =
    let apart : ℤ = pos k -ℤ ((degree g.size D +ℤ pos 1) -ℤ genus g) in
    by_lt_z apart (pos 0)
    (λ (below : apart <ℤ pos 0).
    let (j, same) = natural ((degree g.size D +ℤ pos 1) -ℤ genus g) (omega (arith, ints)) in
    let dual : IsDual g D j 0 = omega (arith, ints) in
    omega (arith, ints, shared g D j 0 graph some ((dual_tests g D j 0 graph some dual).1 special) special))
    (λ (above : pos 0 ≤ℤ apart).
    let (l, same) = natural apart above in
    let dual : IsDual g D k l = omega (arith, ints) in
    omega (arith, ints, shared g D k l graph some rank ((dual_tests g D k l graph some dual).0 rank)))

rank_down : (g : Multigraph) (D : Amounts) (k : ℕ) → HasRankAtLeast g D k → HasRankAtLeast g D 0
rank_down g D zero rank = rank
rank_down g D (suc k) rank =
    let more : suc k ≡ k + 1 = omega arith in
    rank_down g D k (rank_below g D k (subst (HasRankAtLeast g D) more rank))

pub half_of_degree : CliffordOrRiemannRoch
half_of_degree g D k graph some rank =
    by_lt_z (degree g.size D) (genus g +ℤ pos k)
    (λ (poor : degree g.size D <ℤ (genus g +ℤ pos k)).
    let (l, same) = natural (((pos k +ℤ genus g) -ℤ pos 1) -ℤ degree g.size D) (omega (arith, ints)) in
    let dual : IsDual g D k l = omega (arith, ints) in
    inl (clifford g D k graph some rank
    (rank_down g (minus (canonical g) D) l ((dual_tests g D k l graph some dual).0 rank))))
    (λ (rich : (genus g +ℤ pos k) ≤ℤ degree g.size D). inr rich)
