-- Losses, told by equivalent divisors and burning orders.
--   excess-effective  no excess is a debt
--   loss_burns        the divisor of a loss E: D less E is fired to R, which is reduced and in debt at q. All burns from q, so R
--                     is at most the divisor of the order, and R and E together are beyond it by at most E
--   burnt_is_lost     what is left of a divisor without its excess over that of an order, and without more, can't be won
--   loss_iff_burns    the law
use Rattle.std.proofs.lemmas.Int.{clamps}
use Rattle.dg_theory.proofs.Common.{◌≡◌, ℕ, ◌<◌, arith, refl, ints, by_lt_z, pos, ◌+ℤ◌, ◌-ℤ◌, ◌≤ℤ◌, ◌<ℤ◌, Multigraph, IsMultigraph, Amounts, degree, fired, only_at, AreEquivalent, IsEffective, IsWinnable, minus, order_divisor, excess, BurnsAtCost, LossIffBurns}
use Rattle.dg_theory.proofs.SumLaws.{sum_below-add, sum_below-le}
use Rattle.dg_theory.proofs.Equivalence.{equivalent-fired}
use Rattle.dg_theory.proofs.Exchange.{degree_stays}
use Rattle.dg_theory.proofs.ReducedLaws.{reduced_decides}
use Rattle.dg_theory.proofs.GenusLaws.{reduced-degree}
use Rattle.dg_theory.proofs.ExistenceLaws.{reduced_exists}
use Rattle.dg_theory.proofs.Giving.{win_more, degree-less, degree-only_at, effective-only_at}
use Rattle.dg_theory.proofs.RankLaws.{less_winnable}
use Rattle.dg_theory.proofs.OrderDivisors.{order_divisor-lost}
use Rattle.dg_theory.proofs.BurningPlaces.{falls_if_owing, burning_exists, burns_below}
use Rattle.dg_theory.proofs.DualityLaws.{natural}

loss_burns : (g : Multigraph) (q : ℕ) (D : Amounts) (k : ℕ) (E : Amounts) → IsMultigraph g → q < g.size →
    IsEffective g.size E → degree g.size E ≡ pos k → (¬ IsWinnable g (minus D E)) → BurnsAtCost g q D k
loss_burns g q D k E graph vertex effective of_degree loses =
    let (s, at_q, reduced) = reduced_exists g q (minus D E) graph vertex in
    let R : Amounts = fired g (minus D E) s in
    let debt : R q <ℤ pos 0 = by_lt_z (R q) (pos 0) (λ (owes : R q <ℤ pos 0). owes) (λ (paid : pos 0 ≤ℤ R q).
    absurd (loses ((reduced_decides g q (minus D E) R vertex (equivalent-fired g (minus D E) s) reduced).1 paid))) in
    let (place, burning, first) = burning_exists g R q (falls_if_owing g q R vertex reduced debt)
    (vertex, refl, omega (arith, ints)) in
    let (apart, below) = burns_below g R place burning in
    record {
      divisor = fired g D s;
      equivalent = equivalent-fired g D s;
      no_debt = λ v inside other. omega (arith, ints, reduced.no_debt v inside other, effective v inside);
      bound = omega (
        arith,
        ints,
        effective q vertex,
        of_degree,
        reduced-degree g q R graph vertex reduced,
        degree_stays g (minus D E) s graph,
        degree-less g.size D E,
      );
      place = place;
      apart = apart;
      first = first;
      cost =
          let most : degree g.size (excess (fired g D s) (order_divisor g place)) ≤ℤ degree g.size E =
          sum_below-le g.size (excess (fired g D s) (order_divisor g place)) E
          (λ v inside. omega (arith, ints, clamps, below v inside, effective v inside)) in
          omega (arith, ints);
    }

burnt_is_lost : (g : Multigraph) (D C place E : Amounts) → 0 < g.size → AreEquivalent g D C →
    ((v : ℕ) → v < g.size → excess C (order_divisor g place) v ≤ℤ E v) → ¬ IsWinnable g (minus D E)
burnt_is_lost g D C place E some same taken win =
    order_divisor-lost g place some
    (win_more g (minus C E) (order_divisor g place) (λ v inside. omega (arith, ints, clamps, taken v inside))
    ((less_winnable g D C E same).0 win))

pub loss_iff_burns : LossIffBurns
loss_iff_burns g q D k graph vertex = (
  λ (E, effective, of_degree, loses). loss_burns g q D k E graph vertex effective of_degree loses,
  λ burns.
      let over : Amounts = excess burns.divisor (order_divisor g burns.place) in
      let cost : degree g.size over ≤ℤ pos k = burns.cost in
      let (m, rest) = natural (pos k -ℤ degree g.size over) (omega (arith, ints)) in
      let E : Amounts = λ v. over v +ℤ only_at q (pos m) v in (
        E,
        λ v inside. omega (arith, ints, clamps, effective-only_at g.size q m v inside),
        omega (arith, ints, sum_below-add g.size over (only_at q (pos m)), degree-only_at g.size q (pos m) vertex),
        burnt_is_lost g D burns.divisor burns.place E (omega arith) burns.equivalent
            (λ v inside. omega (arith, ints, effective-only_at g.size q m v inside)),
      ),
)
