-- That every divisor can be fired to a reduced one, and that rich divisors are winnable.
--   reduced_by_weight  from no debt off q and a weight below m, some script leads to a reduced divisor
--   reduced_somewhere  from any divisor some script does
--   reduced_exists     and so does one that is 0 at q
--   rich_is_winnable   a divisor whose degree is at least the genus is winnable
use Rattle.dg_theory.proofs.Common.{◌≡◌, ℕ, zero, suc, ◌<◌, arith, sym, ⊎_elim, ints, by_lt_z, pos, ◌+ℤ◌, ◌-ℤ◌, ◌≤ℤ◌, ◌<ℤ◌, Multigraph, IsMultigraph, genus, Amounts, degree, IsEffectiveOff, fired, indicator, IsReduced, ReducedExists, WinnableFromGenus}
use Rattle.dg_theory.proofs.FiringLaws.{fired-fired, fired-constant}
use Rattle.dg_theory.proofs.Scripts.{fired-shifted}
use Rattle.dg_theory.proofs.Exchange.{degree_stays}
use Rattle.dg_theory.proofs.Agreement.{reduced-cong}
use Rattle.dg_theory.proofs.Equivalence.{equivalent-fired}
use Rattle.dg_theory.proofs.ReducedLaws.{reduced_decides}
use Rattle.dg_theory.proofs.GenusLaws.{reduced_below_genus}
use Rattle.dg_theory.proofs.Potential.{IsPotential}
use Rattle.dg_theory.proofs.Weights.{weight_of, weight_falls_by_set}
use Rattle.dg_theory.proofs.Heights.{has_potential}
use Rattle.dg_theory.proofs.Clearing.{can_be_cleared}
use Rattle.dg_theory.proofs.Unburnt.{FiresSome, reduced_or_fires}

abbrev CanBeReduced : Multigraph → ℕ → Amounts → Type 0
CanBeReduced g q D = (s : Amounts) × IsReduced g q (fired g D s)

then_reduced : (g : Multigraph) (q : ℕ) (D t : Amounts) → CanBeReduced g q (fired g D t) → CanBeReduced g q D
then_reduced g q D t (s, reduced) =
    (λ w. t w +ℤ s w, reduced-cong g q (fired g (fired g D t) s) _ (λ v _. fired-fired g D t s v) reduced)

reduced_by_weight : (g : Multigraph) (q : ℕ) (c : ℕ → ℕ) → IsMultigraph g → IsPotential g q c → (m : ℕ) (D : Amounts) →
    weight_of g c D < m → IsEffectiveOff g q D → CanBeReduced g q D
reduced_by_weight g q c graph potential zero D light solvent = absurd (omega arith)
reduced_by_weight g q c graph potential (suc m) D light solvent =
    ⊎_elim
    (λ (reduced : IsReduced g q D).
    (λ _. pos 0, reduced-cong g q D _ (λ v _. sym (fired-constant g D (pos 0) v)) reduced))
    (λ (some : FiresSome g q D).
    let (S, free, (v, inside, member)) = some in
    let falls : weight_of g c (fired g D (indicator S)) < weight_of g c D =
    weight_falls_by_set g q c D S v graph potential solvent free inside member in
    then_reduced g q D (indicator S)
    (reduced_by_weight g q c graph potential m (fired g D (indicator S)) (omega arith) free.no_debt))
    (reduced_or_fires g q D solvent)

reduced_somewhere : (g : Multigraph) (q : ℕ) (D : Amounts) → IsMultigraph g → q < g.size → CanBeReduced g q D
reduced_somewhere g q D graph vertex =
    let (c, potential) = has_potential g q graph vertex in
    let (t, solvent) = can_be_cleared g q c D potential in
    then_reduced g q D t
    (reduced_by_weight g q c graph potential (suc (weight_of g c (fired g D t))) (fired g D t) (omega arith) solvent)

pub reduced_exists : ReducedExists
reduced_exists g q D graph vertex =
    let (s, reduced) = reduced_somewhere g q D graph vertex in
    let level : Amounts = λ w. s w -ℤ s q in (
      level,
      omega (arith, ints),
      reduced-cong g q (fired g D s) (fired g D level)
          (fired-shifted g D s level (s q) (λ w _. omega (arith, ints))) reduced,
    )

pub rich_is_winnable : WinnableFromGenus
rich_is_winnable g D graph some rich =
    let (s, at_q, reduced) = reduced_exists g 0 D graph some in
    by_lt_z (fired g D s 0) (pos 0)
    (λ (debt : fired g D s 0 <ℤ pos 0).
    let low : degree g.size (fired g D s) <ℤ genus g = reduced_below_genus g 0 (fired g D s) graph some reduced debt in
    let same : degree g.size (fired g D s) ≡ degree g.size D = degree_stays g D s graph in
    absurd (omega (arith, ints)))
    (λ (paid : pos 0 ≤ℤ fired g D s 0).
    (reduced_decides g 0 D (fired g D s) some (equivalent-fired g D s) reduced).1 paid)
