-- Why lending off q comes to an end: with weights c that are a potential, what all dollars weigh falls.
--   weight_of g c D     the amounts that are not in debt, each times the weight of its vertex, added up
--   weight_is           off q without debts, that is the sum of all amounts times their weights
--   lendings_weigh      weighted by how often each vertex lends, the gains by c fall by at least the number of lendings
--   weight_falls        if off q nobody is in debt before and after, and q does not lend, the weight falls by at least
--                       the number of lendings
--   weight_of-cong      divisors that agree on the vertices weigh the same
--   weight_falls_by_firings   if a set without q that has a member fires at least once, and nobody off q is in debt
--                       before and after, the weight falls
--   weight_falls_by_set so it does where a set with a member fires freely
use Rattle.dg_theory.proofs.Common.{if◌then◌else◌, ◌≡◌, ℕ, zero, suc, ◌+◌, ◌*◌, ◌<◌, ◌≤◌, Bool, true, false, arith, refl, ap, sym, ◌∙◌, ⊎_elim, zero-mul, mul-zero, mul-one, cases_eq, ints, ℤ, pos, negsuc, ◌+ℤ◌, ◌*ℤ◌, zero-*ℤ, ◌≤ℤ◌, up, sum_below, nat_sum_below, Multigraph, IsMultigraph, Amounts, gain, fired, indicator, multiple, IsEffectiveOff, IsLegalSetFiring}
use Rattle.dg_theory.proofs.Products.{mulz-add}
use Rattle.dg_theory.proofs.SumLaws.{sum_below-cong, sum_below-add}
use Rattle.dg_theory.proofs.SumBounds.{mul-negative, sum_below-nonpos}
use Rattle.dg_theory.proofs.SumTotals.{sum_below-total}
use Rattle.dg_theory.proofs.TotalLaws.{nat_sum_below-cong, nat_sum_below-term}
use Rattle.dg_theory.proofs.FiringLaws.{fired-cong}
use Rattle.dg_theory.proofs.Exchange.{gain-symmetric}
use Rattle.dg_theory.proofs.Counting.{one_if}
use Rattle.dg_theory.proofs.Multiples.{multiple-once}
use Rattle.dg_theory.proofs.Potential.{IsPotential, as_script}

abbrev pub weight_of : Multigraph → (ℕ → ℕ) → Amounts → ℕ
weight_of g c D = nat_sum_below g.size (λ v. c v * up (D v))

up_is : (k : ℕ) (z : ℤ) → pos 0 ≤ℤ z → pos k *ℤ z ≡ pos (k * up z)
up_is k (pos n) rich = refl
up_is k (negsuc n) rich = absurd (omega (arith, ints))

weightless : (k : ℕ) (z : ℤ) → k ≡ 0 → pos k *ℤ z ≡ pos (k * up z)
weightless zero z none = zero-*ℤ z ∙ ap pos (sym (zero-mul (up z)))
weightless (suc k) z none = absurd (omega arith)

pub weight_is : (g : Multigraph) (q : ℕ) (c : ℕ → ℕ) (D : Amounts) → c q ≡ 0 → IsEffectiveOff g q D →
    sum_below g.size (λ v. as_script c v *ℤ D v) ≡ pos (weight_of g c D)
weight_is g q c D none solvent =
    sum_below-total g.size _ _ (λ v inside. ⊎_elim
    (λ (same : v ≡ q).
    weightless (c v) (D v) (ap c same ∙ none))
    (λ (other : v ≡ q → ⊥). up_is (c v) (D v) (solvent v inside other))
    (cases_eq v q))

pub lendings_weigh : (g : Multigraph) (q : ℕ) (c k : ℕ → ℕ) → IsPotential g q c → k q ≡ 0 →
    (sum_below g.size (λ v. as_script k v *ℤ gain g (as_script c) v) +ℤ pos (nat_sum_below g.size k)) ≤ℤ pos 0
lendings_weigh g q c k potential keeps =
    let each : (v : ℕ) → v < g.size → (as_script k v *ℤ gain g (as_script c) v +ℤ pos (k v)) ≤ℤ pos 0 =
    λ v inside. ⊎_elim
    (λ (same : v ≡ q).
    let none : k v ≡ 0 = ap k same ∙ keeps in
    rw none (omega (arith, ints, zero-*ℤ (gain g (as_script c) v))))
    (λ (other : v ≡ q → ⊥).
    let less : (gain g (as_script c) v +ℤ pos 1) ≤ℤ pos 0 = potential.loses v inside other in
    mul-negative (k v) (gain g (as_script c) v) (omega (arith, ints)))
    (cases_eq v q) in
    let both : (sum_below g.size (λ v. as_script k v *ℤ gain g (as_script c) v +ℤ pos (k v))) ≤ℤ pos 0 =
    sum_below-nonpos g.size _ each in
    let parts : sum_below g.size (λ v. as_script k v *ℤ gain g (as_script c) v +ℤ pos (k v))
    ≡ sum_below g.size (λ v. as_script k v *ℤ gain g (as_script c) v) +ℤ sum_below g.size (λ v. pos (k v)) =
    sum_below-add g.size _ _ in
    let count : sum_below g.size (λ v. pos (k v)) ≡ pos (nat_sum_below g.size k) =
    sum_below-total g.size _ k (λ v _. refl) in
    omega (arith, ints)

pub weight_falls : (g : Multigraph) (q : ℕ) (c k : ℕ → ℕ) (D : Amounts) → IsMultigraph g → IsPotential g q c → k q ≡ 0 →
    IsEffectiveOff g q D → IsEffectiveOff g q (fired g D (as_script k)) →
    weight_of g c (fired g D (as_script k)) + nat_sum_below g.size k ≤ weight_of g c D
weight_falls g q c k D graph potential keeps solvent after =
    let before_is : sum_below g.size (λ v. as_script c v *ℤ D v) ≡ pos (weight_of g c D) =
    weight_is g q c D potential.none_at_q solvent in
    let after_is : sum_below g.size (λ v. as_script c v *ℤ fired g D (as_script k) v)
    ≡ pos (weight_of g c (fired g D (as_script k))) =
    weight_is g q c (fired g D (as_script k)) potential.none_at_q after in
    let parts : sum_below g.size (λ v. as_script c v *ℤ fired g D (as_script k) v)
    ≡ sum_below g.size (λ v. as_script c v *ℤ D v) +ℤ sum_below g.size (λ v. as_script c v *ℤ gain g (as_script k) v) =
    sum_below-cong g.size _ _ (λ v _. mulz-add (pos (c v)) (D v) (gain g (as_script k) v)) ∙ sum_below-add g.size _ _ in
    let turned : sum_below g.size (λ v. as_script c v *ℤ gain g (as_script k) v)
    ≡ sum_below g.size (λ v. as_script k v *ℤ gain g (as_script c) v) =
    gain-symmetric g (as_script c) (as_script k) graph in
    let low : (sum_below g.size (λ v. as_script k v *ℤ gain g (as_script c) v) +ℤ pos (nat_sum_below g.size k)) ≤ℤ pos 0 =
    lendings_weigh g q c k potential keeps in
    omega (arith, ints)

pub weight_of-cong : (g : Multigraph) (c : ℕ → ℕ) (D E : Amounts) → ((v : ℕ) → v < g.size → D v ≡ E v) →
    weight_of g c D ≡ weight_of g c E
weight_of-cong g c D E same = nat_sum_below-cong g.size _ _ (λ v inside. ap (λ (z : ℤ). c v * up z) (same v inside))

one_if-script : (b : Bool) → (if b then pos 1 else pos 0) ≡ pos (one_if b)
one_if-script true = refl
one_if-script false = refl

pub weight_falls_by_firings : (g : Multigraph) (q : ℕ) (c : ℕ → ℕ) (D : Amounts) (S : ℕ → Bool) (k : ℤ) (v : ℕ) →
    IsMultigraph g → IsPotential g q c → IsEffectiveOff g q D → S q ≡ false → pos 1 ≤ℤ k →
    IsEffectiveOff g q (fired g D (multiple k (indicator S))) → v < g.size → S v ≡ true →
    weight_of g c (fired g D (multiple k (indicator S))) < weight_of g c D
weight_falls_by_firings g q c D S (negsuc n) v graph potential solvent without often after inside member =
    absurd (omega (arith, ints))
weight_falls_by_firings g q c D S (pos n) v graph potential solvent without often after inside member =
    let k : ℕ → ℕ = λ w. n * one_if (S w) in
    let same : (w : ℕ) → w < g.size → fired g D (multiple (pos n) (indicator S)) w ≡ fired g D (as_script k) w =
    λ w below. fired-cong g D (multiple (pos n) (indicator S)) (as_script k) w below
    (λ u _. ap (λ (z : ℤ). pos n *ℤ z) (one_if-script (S u))) in
    let none : one_if (S q) ≡ 0 = ap one_if without in
    let one : one_if (S v) ≡ 1 = ap one_if member in
    let falls : weight_of g c (fired g D (as_script k)) + nat_sum_below g.size k ≤ weight_of g c D =
    weight_falls g q c k D graph potential (ap (λ (x : ℕ). n * x) none ∙ mul-zero n) solvent
    (λ w below other. rw (← same w below) (after w below other)) in
    let term : n * one_if (S v) ≤ nat_sum_below g.size k = nat_sum_below-term g.size k v inside in
    let at : n * one_if (S v) ≡ n = ap (λ (x : ℕ). n * x) one ∙ mul-one n in
    let some : 1 ≤ n = omega (arith, ints) in
    let weigh : weight_of g c (fired g D (multiple (pos n) (indicator S))) ≡ weight_of g c (fired g D (as_script k)) =
    weight_of-cong g c _ _ same in
    omega arith

pub weight_falls_by_set : (g : Multigraph) (q : ℕ) (c : ℕ → ℕ) (D : Amounts) (S : ℕ → Bool) (v : ℕ) →
    IsMultigraph g → IsPotential g q c → IsEffectiveOff g q D → IsLegalSetFiring g q D S → v < g.size → S v ≡ true →
    weight_of g c (fired g D (indicator S)) < weight_of g c D
weight_falls_by_set g q c D S v graph potential solvent free inside member =
    let same : (w : ℕ) → w < g.size → fired g D (multiple (pos 1) (indicator S)) w ≡ fired g D (indicator S) w =
    λ w below. fired-cong g D (multiple (pos 1) (indicator S)) (indicator S) w below
    (λ u _. multiple-once (indicator S) u) in
    let falls : weight_of g c (fired g D (multiple (pos 1) (indicator S))) < weight_of g c D =
    weight_falls_by_firings g q c D S (pos 1) v graph potential solvent free.without (omega (arith, ints))
    (λ w below other. rw (same w below) (free.no_debt w below other)) inside member in
    let weigh : weight_of g c (fired g D (multiple (pos 1) (indicator S))) ≡ weight_of g c (fired g D (indicator S)) =
    weight_of-cong g c _ _ same in
    omega arith
