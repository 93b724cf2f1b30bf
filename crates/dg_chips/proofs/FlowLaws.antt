-- What flows along edges, at vertices that lend or borrow at most 10^14 times.
--   sum_below-edges   what all edges of a vertex carry together, each of them y dollars
--   sum_below-past    a sum is that of fewer terms, where those past them are 0
--   gain-products     a vertex gets what each other lends along each edge to it, less what it lends itself
--   gain-row          the same from a longer row
--   held              a machine's value of a number within 2^62 is that number, which fits
--   wide_held         the same of 128 bits, within 2^126
--   times_held        so is its value within 2^120, as the crates above cite it
--   carried_held      a machine's value of what edges carry is that value, within the limit
--   narrow_held       the same of 32 bits, within 10^9
--   held_sum          so a machine's sum of two numbers within 2^61 is their sum
--   held_shift        and its sum of a difference and a number, each within 2^60, is that sum
--   product_limit     edges that each carry a limited amount carry so many times the limit together
use Rattle.dg_chips.proofs.Common.{◌≡◌, ℕ, zero, suc, ◌*◌, ◌^◌, ◌≤◌, arith, refl, sym, w32, w64, FitsSigned, ◌∙◌, ap, ⊎_elim, cases_eq, ints, unsigned_abs-mul, mul-le-mul, ℤ, pos, ◌+ℤ◌, ◌-ℤ◌, ◌*ℤ◌, zero-*ℤ, *ℤ_comm, unsigned_abs, w128, to_z, of_z, sum_below, nat_sum_below, Multigraph, IsMultigraph, edges_between, valence, Amounts, gain, within_abs, abs-add, mulz-sub, sum_below-cong, sum_below-scale, sum_below-sub, sum_below-total}

pub sum_below-edges : (n : ℕ) (e : ℕ → ℕ) (y : ℤ) → sum_below n (λ w. pos (e w) *ℤ y) ≡ pos (nat_sum_below n e) *ℤ y
sum_below-edges n e y =
    sum_below-cong n _ _ (λ w _. *ℤ_comm (pos (e w)) y)
    ∙ sym (sum_below-scale n y (λ w. pos (e w)))
    ∙ ap (λ (z : ℤ). y *ℤ z) (sum_below-total n (λ w. pos (e w)) e (λ _ _. refl))
    ∙ *ℤ_comm y (pos (nat_sum_below n e))

pub sum_below-past : (n m : ℕ) (f : ℕ → ℤ) → n ≤ m → ((w : ℕ) → n ≤ w → f w ≡ pos 0) → sum_below m f ≡ sum_below n f
sum_below-past n zero f less none = let same : n ≡ 0 = omega arith in rw same refl
sum_below-past n (suc m) f less none =
    ⊎_elim
    (λ (same : n ≡ suc m). rw same refl)
    (λ (other : n ≡ suc m → ⊥). omega (arith, ints, sum_below-past n m f (omega arith) none, none m (omega arith)))
    (cases_eq n (suc m))

pub gain-products : (g : Multigraph) (s : Amounts) (v : ℕ) →
    gain g s v ≡ sum_below g.size (λ w. pos (edges_between g v w) *ℤ s w) -ℤ pos (valence g v) *ℤ s v
gain-products g s v =
    sum_below-cong g.size _ _ (λ w _. mulz-sub (pos (edges_between g v w)) (s w) (s v))
    ∙ sum_below-sub g.size (λ w. pos (edges_between g v w) *ℤ s w) (λ w. pos (edges_between g v w) *ℤ s v)
    ∙ ap (λ (z : ℤ). sum_below g.size (λ w. pos (edges_between g v w) *ℤ s w) -ℤ z)
    (sum_below-edges g.size (edges_between g v) (s v))

pub gain-row : (g : Multigraph) (s : Amounts) (v n : ℕ) → IsMultigraph g → g.size ≤ n →
    gain g s v ≡ sum_below n (λ w. pos (edges_between g v w) *ℤ s w) -ℤ pos (valence g v) *ℤ s v
gain-row g s v n graph few =
    let same : sum_below n (λ w. pos (edges_between g v w) *ℤ s w)
    ≡ sum_below g.size (λ w. pos (edges_between g v w) *ℤ s w) =
    sum_below-past g.size n (λ w. pos (edges_between g v w) *ℤ s w) few
    (λ w past. rw (graph.inside v w past) (zero-*ℤ (s w))) in
    gain-products g s v ∙ ap (λ (z : ℤ). z -ℤ pos (valence g v) *ℤ s v) (sym same)

pub held : (z : ℤ) → unsigned_abs z ≤ 2 ^ 62 → FitsSigned w64 z × (to_z w64 (of_z w64 z) ≡ z)
held z small = let (low, high) = within_abs z (2 ^ 62) small in (omega (arith, ints), omega (arith, ints))

pub wide_held : (z : ℤ) → unsigned_abs z ≤ 2 ^ 126 → FitsSigned w128 z × (to_z w128 (of_z w128 z) ≡ z)
wide_held z small = let (low, high) = within_abs z (2 ^ 126) small in (omega (arith, ints), omega (arith, ints))

pub narrow_held : (z : ℤ) → unsigned_abs z ≤ 1000000000 → FitsSigned w32 z × (to_z w32 (of_z w32 z) ≡ z)
narrow_held z small = let (low, high) = within_abs z 1000000000 small in (omega (arith, ints), omega (arith, ints))

pub times_held : (z : ℤ) → unsigned_abs z ≤ 2 ^ 120 → to_z w128 (of_z w128 z) ≡ z
times_held z small = (wide_held z (omega arith)).1

pub carried_held : (edges : ℕ) (each flow : ℤ) → unsigned_abs each ≤ 100000000000000 →
    flow ≡ pos edges *ℤ to_z w64 (of_z w64 each) → unsigned_abs flow ≤ 255 * unsigned_abs (to_z w64 (of_z w64 each)) →
    (flow ≡ pos edges *ℤ each) × (unsigned_abs flow ≤ 25500000000000000)
carried_held edges each flow small value limit =
    let same = (held each (omega arith)).1 in
    (value ∙ ap (λ (z : ℤ). pos edges *ℤ z) same, omega (arith, ap unsigned_abs same))

pub held_sum : (a b : ℤ) → unsigned_abs a ≤ 2 ^ 61 → unsigned_abs b ≤ 2 ^ 61 →
    FitsSigned w64 (to_z w64 (of_z w64 a) +ℤ to_z w64 (of_z w64 b)) ×
    (to_z w64 (of_z w64 (to_z w64 (of_z w64 a) +ℤ to_z w64 (of_z w64 b))) ≡ a +ℤ b)
held_sum a b first second =
    rw ((held a (omega arith)).1, (held b (omega arith)).1) (held (a +ℤ b) (abs-add a b (2 ^ 61) (2 ^ 61) first second))

pub held_shift : (a b d : ℤ) → unsigned_abs a ≤ 2 ^ 60 → unsigned_abs b ≤ 2 ^ 60 → unsigned_abs d ≤ 2 ^ 60 →
    to_z w64 (of_z w64 (to_z w64 (of_z w64 (to_z w64 (of_z w64 a) -ℤ to_z w64 (of_z w64 b))) +ℤ to_z w64 (of_z w64 d)))
    ≡ a -ℤ b +ℤ d
held_shift a b d first second third =
    let (low, high) = within_abs a (2 ^ 60) first in
    let (low', high') = within_abs b (2 ^ 60) second in
    let near : unsigned_abs (a -ℤ b) ≤ 2 ^ 61 = omega (arith, ints) in
    rw ((held a (omega arith)).1, (held b (omega arith)).1) (held_sum (a -ℤ b) d near (omega arith)).1

pub product_limit : (edges most : ℕ) (each : ℤ) (limit : ℕ) → edges ≤ most → unsigned_abs each ≤ limit →
    unsigned_abs (pos edges *ℤ each) ≤ most * limit
product_limit edges most each limit few small = omega (arith, unsigned_abs-mul (pos edges) each, mul-le-mul few small)
