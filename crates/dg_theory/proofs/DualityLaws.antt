-- The theorem of Riemann and Roch, as it speaks of rank tests (Baker and Norine 2007, section 3).
--   Owes g D             by some script each vertex comes to hold at most what the divisor of some order has there
--   winnable_or_owes     a divisor is winnable, or it owes
--   IsDual g D k l       k less l is the degree of D, plus 1, less the genus
--   dual-degree          the degree of the residual
--   dual_of_dual         for the residual, k and l have exchanged their parts
--   loss_from_order      where the residual less F owes, what it lacks of the divisor of the order is a loss that D can't
--                        bear: it leaves what the reversed order's divisor less F is fired to
--   pass_of_dual         so where D passes its test, the residual passes its own
--   dual_tests           and the other way round
--   loss_of_dual         a loss that the residual can't bear shows one that D can't bear
--   natural              a whole number that is not negative is a natural number
--   high_rank            from the genus on only rich divisors pass a test
use Rattle.dg_theory.proofs.Common.{◌≡◌, ℕ, ◌<◌, ◌⊎◌, inl, inr, arith, refl, ⊎_elim, ◌≤ℤ◌, ◌<ℤ◌, ints, by_lt_z, ℤ, pos, negsuc, ◌+ℤ◌, ◌-ℤ◌, Multigraph, IsMultigraph, genus, Amounts, degree, fired, IsEffective, IsWinnable, minus, canonical, HasRankAtLeast, DualTests, LossOfDual, RankAboveGenus, AreApart, order_divisor}
use Rattle.dg_theory.proofs.Agreement.{winnable-cong}
use Rattle.dg_theory.proofs.Equivalence.{opposite, equivalent-fired, equivalent-refl}
use Rattle.dg_theory.proofs.Exchange.{degree_stays}
use Rattle.dg_theory.proofs.Winning.{equivalent-winnable}
use Rattle.dg_theory.proofs.ReducedLaws.{reduced_decides}
use Rattle.dg_theory.proofs.ExistenceLaws.{reduced_exists}
use Rattle.dg_theory.proofs.Giving.{win_more, degree-less}
use Rattle.dg_theory.proofs.RankLaws.{equivalent-rank, poor_rank}
use Rattle.dg_theory.proofs.OrderDivisors.{order_divisor-lost}
use Rattle.dg_theory.proofs.OrderDegrees.{order_divisor-reversed, order_divisor-degree, canonical-degree}
use Rattle.dg_theory.proofs.BurningPlaces.{falls_if_owing, burning_exists, burns_below}

pub record Owes (g : Multigraph) (D : Amounts) : Type 0 where
  pub script : Amounts
  pub place : Amounts
  pub apart : AreApart g.size place
  pub below : (v : ℕ) → v < g.size → fired g D script v ≤ℤ order_divisor g place v

pub winnable_or_owes : (g : Multigraph) (D : Amounts) → IsMultigraph g → 0 < g.size → IsWinnable g D ⊎ Owes g D
winnable_or_owes g D graph some =
    let (s, at_q, reduced) = reduced_exists g 0 D graph some in
    by_lt_z (fired g D s 0) (pos 0)
    (λ (debt : fired g D s 0 <ℤ pos 0).
    let (place, burning, _) = burning_exists g (fired g D s) 0 (falls_if_owing g 0 (fired g D s) some reduced debt)
    (some, refl, omega (arith, ints)) in
    let (apart, below) = burns_below g (fired g D s) place burning in
    inr (record { script = s; place = place; apart = apart; below = below }))
    (λ (paid : pos 0 ≤ℤ fired g D s 0). inl
    ((reduced_decides g 0 D (fired g D s) some (equivalent-fired g D s) reduced).1 paid))

abbrev pub IsDual : Multigraph → Amounts → ℕ → ℕ → Type 0
IsDual g D k l = pos k -ℤ pos l ≡ (degree g.size D +ℤ pos 1) -ℤ genus g

pub dual-degree : (g : Multigraph) (D : Amounts) → IsMultigraph g →
    degree g.size (minus (canonical g) D) ≡ ((genus g +ℤ genus g) -ℤ pos 2) -ℤ degree g.size D
dual-degree g D graph = omega (arith, ints, degree-less g.size (canonical g) D, canonical-degree g graph)

pub dual_of_dual : (g : Multigraph) (D : Amounts) (k l : ℕ) → IsMultigraph g → IsDual g D k l →
    IsDual g (minus (canonical g) D) l k
dual_of_dual g D k l graph dual = omega (arith, ints, dual-degree g D graph)

abbrev LossOf : Multigraph → Amounts → ℕ → Type 0
LossOf g D k = (E : Amounts) × IsEffective g.size E × (degree g.size E ≡ pos k) × (¬ IsWinnable g (minus D E))

loss_from_order : (g : Multigraph) (D F : Amounts) (k l : ℕ) → IsMultigraph g → 0 < g.size → IsDual g D k l →
    IsEffective g.size F → degree g.size F ≡ pos l → Owes g (minus (minus (canonical g) D) F) → LossOf g D k
loss_from_order g D F k l graph some dual effective of_degree owes =
    let rest : Amounts = minus (minus (canonical g) D) F in
    let now : Amounts = fired g rest owes.script in
    let reversed : Amounts = order_divisor g (opposite owes.place) in
    let E : Amounts = minus (order_divisor g owes.place) now in (
      E,
      λ v inside. omega (arith, ints, owes.below v inside),
      omega (
        arith,
        ints,
        degree-less g.size (order_divisor g owes.place) now,
        order_divisor-degree g owes.place graph owes.apart,
        degree_stays g rest owes.script graph,
        degree-less g.size (minus (canonical g) D) F,
        dual-degree g D graph,
        of_degree,
        dual,
      ),
      λ win.
          let left : IsWinnable g (fired g (minus reversed F) owes.script) =
          winnable-cong g (minus D E) (fired g (minus reversed F) owes.script)
          (λ v inside. omega (arith, ints, order_divisor-reversed g owes.place graph owes.apart v inside)) win in
          let before : IsWinnable g (minus reversed F) =
          (equivalent-winnable g (minus reversed F) _ (equivalent-fired g (minus reversed F) owes.script)).1 left in
          order_divisor-lost g (opposite owes.place) some
          (win_more g (minus reversed F) reversed (λ v inside. omega (arith, ints, effective v inside)) before),
    )

pass_of_dual : (g : Multigraph) (D : Amounts) (k l : ℕ) → IsMultigraph g → 0 < g.size → IsDual g D k l →
    HasRankAtLeast g D k → HasRankAtLeast g (minus (canonical g) D) l
pass_of_dual g D k l graph some dual rank F effective of_degree =
    ⊎_elim
    (λ (win : IsWinnable g (minus (minus (canonical g) D) F)). win)
    (λ (owes : Owes g (minus (minus (canonical g) D) F)).
    let (E, taken, size, lost) = loss_from_order g D F k l graph some dual effective of_degree owes in
    absurd (lost (rank E taken size)))
    (winnable_or_owes g (minus (minus (canonical g) D) F) graph some)

pub dual_tests : DualTests
dual_tests g D k l graph some dual = (
  pass_of_dual g D k l graph some dual,
  λ rank.
      (equivalent-rank g (minus (canonical g) (minus (canonical g) D)) D k
      (equivalent-refl g _ D (λ v _. omega (arith, ints)))).0
      (pass_of_dual g (minus (canonical g) D) l k graph some (dual_of_dual g D k l graph dual) rank),
)

pub loss_of_dual : LossOfDual
loss_of_dual g D F k l graph some dual effective of_degree lost =
    ⊎_elim
    (λ (win : IsWinnable g (minus (minus (canonical g) D) F)). absurd (lost win))
    (λ (owes : Owes g (minus (minus (canonical g) D) F)).
    loss_from_order g D F k l graph some dual effective of_degree owes)
    (winnable_or_owes g (minus (minus (canonical g) D) F) graph some)

pub natural : (z : ℤ) → pos 0 ≤ℤ z → (n : ℕ) × (z ≡ pos n)
natural (pos n) high = (n, refl)
natural (negsuc n) high = absurd (omega (arith, ints))

pub high_rank : RankAboveGenus
high_rank g D k graph some high rank =
    by_lt_z (degree g.size D) (genus g +ℤ pos k)
    (λ (less_rich : degree g.size D <ℤ (genus g +ℤ pos k)).
    let (l, same) = natural (((pos k +ℤ genus g) -ℤ pos 1) -ℤ degree g.size D) (omega (arith, ints)) in
    let dual : IsDual g D k l = omega (arith, ints) in
    absurd (poor_rank g (minus (canonical g) D) l graph some (omega (arith, ints, dual-degree g D graph))
    ((dual_tests g D k l graph some dual).0 rank)))
    (λ (rich : (genus g +ℤ pos k) ≤ℤ degree g.size D). rich)
