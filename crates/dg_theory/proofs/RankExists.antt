-- That every divisor has a rank.
--   winnable_or_not     a divisor is winnable or not, as the divisor that it can be reduced to tells
--   lost v D            D after a dollar was lost at v
--   pass_after_each     where D passes the test of k after a dollar was lost, at any vertex, it passes that of k + 1
--   each_passes         and the other way round
--   rank_decided        a divisor passes a rank test or not
--   last_pass           between a test that passes and one that fails there is a last one that passes
--   rank_exists         every divisor has a rank
use Rattle.dg_theory.proofs.Common.{◌≡◌, ℕ, zero, suc, ◌+◌, ◌<◌, ◌⊎◌, inl, inr, arith, refl, subst, ⊎_elim, cases_eq, ints, by_lt_z, pos, negsuc, ◌+ℤ◌, ◌≤ℤ◌, ◌<ℤ◌, Multigraph, IsMultigraph, Amounts, degree, fired, only_at, IsEffective, IsWinnable, minus, HasRankAtLeast, RankExists}
use Rattle.dg_theory.proofs.Searching.{AllBelow, FirstOf, first_or_all}
use Rattle.dg_theory.proofs.SumLaws.{sum_below-add}
use Rattle.dg_theory.proofs.Agreement.{winnable-cong}
use Rattle.dg_theory.proofs.Equivalence.{equivalent-fired}
use Rattle.dg_theory.proofs.Plays.{only_at-here, only_at-other}
use Rattle.dg_theory.proofs.ReducedLaws.{reduced_decides}
use Rattle.dg_theory.proofs.ExistenceLaws.{reduced_exists}
use Rattle.dg_theory.proofs.Giving.{degree-less, degree-only_at, effective-only_at, degree-winnable}
use Rattle.dg_theory.proofs.RankLaws.{rank_zero, poor_rank}
use Rattle.dg_theory.proofs.DualityLaws.{natural}
use Rattle.dg_theory.proofs.RankSums.{some_left}

winnable_or_not : (g : Multigraph) (D : Amounts) → IsMultigraph g → 0 < g.size → IsWinnable g D ⊎ (¬ IsWinnable g D)
winnable_or_not g D graph some =
    let (s, at_q, reduced) = reduced_exists g 0 D graph some in
    let decides = reduced_decides g 0 D (fired g D s) some (equivalent-fired g D s) reduced in
    by_lt_z (fired g D s 0) (pos 0)
    (λ (debt : fired g D s 0 <ℤ pos 0). inr (λ win. let paid : pos 0 ≤ℤ fired g D s 0 = decides.0 win in
    absurd (omega (arith, ints))))
    (λ (paid : pos 0 ≤ℤ fired g D s 0). inl (decides.1 paid))

abbrev lost : ℕ → Amounts → Amounts
lost v D = minus D (only_at v (pos 1))

pass_after_each : (g : Multigraph) (D : Amounts) (k : ℕ) →
    ((v : ℕ) → v < g.size → HasRankAtLeast g (lost v D) k) → HasRankAtLeast g D (k + 1)
pass_after_each g D k each E effective of_degree =
    let (v, inside, dollar) = some_left g.size E (omega (arith, ints)) in
    winnable-cong g (minus (lost v D) (lost v E)) (minus D E) (λ w below. omega (arith, ints))
    (each v inside (lost v E)
    (λ w below. ⊎_elim
    (λ (same : w ≡ v). rw same (omega (arith, ints, only_at-here v (pos 1))))
    (λ (other : w ≡ v → ⊥). omega (arith, ints, only_at-other v (pos 1) w other, effective w below))
    (cases_eq w v))
    (omega (arith, ints, degree-less g.size E (only_at v (pos 1)), degree-only_at g.size v (pos 1) inside)))

each_passes : (g : Multigraph) (D : Amounts) (k v : ℕ) → v < g.size → HasRankAtLeast g D (k + 1) →
    HasRankAtLeast g (lost v D) k
each_passes g D k v inside rank E effective of_degree =
    let dollar : Amounts = only_at v (pos 1) in
    let paid : IsEffective g.size dollar = effective-only_at g.size v 1 in
    let more : Amounts = λ w. E w +ℤ dollar w in
    winnable-cong g (minus D more) (minus (lost v D) E) (λ w below. omega (arith, ints))
    (rank more (λ w below. omega (arith, ints, paid w below, effective w below))
    (omega (arith, ints, sum_below-add g.size E dollar, degree-only_at g.size v (pos 1) inside, of_degree)))

rank_decided : (g : Multigraph) (D : Amounts) (k : ℕ) → IsMultigraph g → 0 < g.size →
    HasRankAtLeast g D k ⊎ (¬ HasRankAtLeast g D k)
rank_decided g D zero graph some =
    ⊎_elim
    (λ (win : IsWinnable g D). inl ((rank_zero g D).1 win))
    (λ (fails : ¬ IsWinnable g D). inr (λ rank. fails ((rank_zero g D).0 rank)))
    (winnable_or_not g D graph some)
rank_decided g D (suc k) graph some =
    let more : k + 1 ≡ suc k = omega arith in
    let less_more : suc k ≡ k + 1 = omega arith in
    let Passes : ℕ → Type 0 = λ v. HasRankAtLeast g (lost v D) k in
    let Fails : ℕ → Type 0 = λ v. ¬ HasRankAtLeast g (lost v D) k in
    ⊎_elim
    (λ (each : AllBelow g.size Passes). inl (subst (HasRankAtLeast g D) more (pass_after_each g D k each)))
    (λ (first : FirstOf g.size Passes Fails).
    inr (λ rank. first.2 (each_passes g D k first.0 first.1 (subst (HasRankAtLeast g D) less_more rank))))
    (first_or_all g.size Passes Fails (λ v below. rank_decided g (lost v D) k graph some))

last_pass : (g : Multigraph) (D : Amounts) (m k : ℕ) → IsMultigraph g → 0 < g.size → HasRankAtLeast g D k →
    (¬ HasRankAtLeast g D (k + m)) → (r : ℕ) × HasRankAtLeast g D r × (¬ HasRankAtLeast g D (r + 1))
last_pass g D zero k graph some passes fails =
    let same : k ≡ k + zero = omega arith in absurd (fails (subst (HasRankAtLeast g D) same passes))
last_pass g D (suc m) k graph some passes fails =
    ⊎_elim
    (λ (next : HasRankAtLeast g D (k + 1)).
    let same : (k + 1) + m ≡ k + suc m = omega arith in
    last_pass g D m (k + 1) graph some next (λ rank. fails (subst (HasRankAtLeast g D) same rank)))
    (λ (last : ¬ HasRankAtLeast g D (k + 1)). (k, passes, last))
    (rank_decided g D (k + 1) graph some)

pub rank_exists : RankExists
rank_exists g D graph some =
    ⊎_elim
    (λ (win : HasRankAtLeast g D 0).
    let (n, size) = natural (degree g.size D) (degree-winnable g D graph ((rank_zero g D).0 win)) in
    let same : 0 + (n + 1) ≡ n + 1 = omega arith in
    let poor : ¬ HasRankAtLeast g D (n + 1) = poor_rank g D (n + 1) graph some (omega (arith, ints)) in
    let (r, passes, fails) =
    last_pass g D (n + 1) 0 graph some win (λ rank. poor (subst (HasRankAtLeast g D) same rank)) in
    (pos r, (passes, fails)))
    (λ (fails : ¬ HasRankAtLeast g D 0). (negsuc 0, (refl, fails)))
    (rank_decided g D 0 graph some)
