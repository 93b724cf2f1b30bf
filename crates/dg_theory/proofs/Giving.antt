-- Divisors less others, and dollars at one vertex.
--   win_more          who has at least as much at every vertex as in a winnable divisor wins too
--   degree-less       the degree of D less E is the degree of D less that of E
--   degree-only_at    x dollars at one vertex have the degree x
--   effective-only_at k dollars at one vertex are no debt
--   none_of_degree_0  an effective divisor of degree 0 is 0 at every vertex
--   degree-winnable   a winnable divisor has a degree of at least 0
use Rattle.dg_theory.proofs.Common.{◌≡◌, ℕ, ◌*◌, ◌<◌, arith, refl, ⊎_elim, ints, cases_eq, ℤ, pos, ◌+ℤ◌, ◌-ℤ◌, ◌≤ℤ◌, sum_below, Multigraph, IsMultigraph, Amounts, degree, fired, only_at, IsEffective, IsWinnable, minus}
use Rattle.dg_theory.proofs.SumLaws.{sum_below-zero, sum_below-differ_at}
use Rattle.dg_theory.proofs.SumSwap.{sum_below-sub}
use Rattle.dg_theory.proofs.SumBounds.{sum_below-at_least}
use Rattle.dg_theory.proofs.Exchange.{degree_stays}
use Rattle.dg_theory.proofs.Plays.{only_at-here, only_at-other}
use Rattle.dg_theory.proofs.Range.{sum_below-one}
use Rattle.dg_theory.proofs.Winning.{script_of_win, win_of_script}

pub win_more : (g : Multigraph) (D E : Amounts) → ((v : ℕ) → v < g.size → D v ≤ℤ E v) → IsWinnable g D → IsWinnable g E
win_more g D E more win =
    let (s, effective) = script_of_win g D win in
    win_of_script g E s (λ v below. omega (arith, ints, more v below, effective v below))

pub degree-less : (n : ℕ) (D E : Amounts) → degree n (minus D E) ≡ degree n D -ℤ degree n E
degree-less n D E = sum_below-sub n D E

pub degree-only_at : (n v : ℕ) (x : ℤ) → v < n → degree n (only_at v x) ≡ x
degree-only_at n v x inside =
    let differ : sum_below n (only_at v x) +ℤ pos 0 ≡ sum_below n (λ _. pos 0) +ℤ only_at v x v =
    sum_below-differ_at n (only_at v x) (λ _. pos 0) v inside (λ w below other. only_at-other v x w other) in
    omega (arith, ints, differ, sum_below-zero n (λ _. pos 0) (λ w below. refl), only_at-here v x)

pub effective-only_at : (n v k : ℕ) → IsEffective n (only_at v (pos k))
effective-only_at n v k w below =
    ⊎_elim
    (λ (same : w ≡ v). rw same (omega (arith, ints, only_at-here v (pos k))))
    (λ (other : w ≡ v → ⊥). omega (arith, ints, only_at-other v (pos k) w other))
    (cases_eq w v)

pub none_of_degree_0 : (n : ℕ) (E : Amounts) → IsEffective n E → degree n E ≡ pos 0 → (v : ℕ) → v < n → E v ≡ pos 0
none_of_degree_0 n E effective none v inside =
    let most : E v ≤ℤ sum_below n E = sum_below-one n v E inside (λ w below _. effective w below) in
    omega (arith, ints, effective v inside)

pub degree-winnable : (g : Multigraph) (D : Amounts) → IsMultigraph g → IsWinnable g D → pos 0 ≤ℤ degree g.size D
degree-winnable g D graph win =
    let (s, effective) = script_of_win g D win in
    let rich : pos 0 ≤ℤ (degree g.size (fired g D s) +ℤ pos (g.size * 0)) =
    sum_below-at_least g.size 0 (fired g D s) (λ w below. omega (arith, ints, effective w below)) in
    omega (arith, ints, rich, degree_stays g D s graph)
