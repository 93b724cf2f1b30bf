-- How large amounts become.
-- While the vertices nearer to q than a level fire, to clear the debts of that level:
--   within_level         an amount within B that changes by at most 63 c, where c ≤ B, is within 64 B
--   level_limit          so if those nearer fire k ≤ B times, amounts within B stay within 64 B
--   level_paid           nobody of the level is in debt after as many firings as its largest debt
--   IsClear g level j D  nobody of level j or farther is in debt
--   clear_stays          it stays so of the farther levels while those nearer than j fire
--   clear_step           it goes on from one level to the next nearer one, once nobody of that is in debt
--   clear_all            at level 1 it says that nobody off q is in debt
--   limit_step, limit_last    the bounds of the levels in a row, and the last of them
-- While sets without q fire and leave nobody off q in debt:
--   sum_below-at_most    where no term is more than M, a sum of n terms is at most n M
--   sum_below-one, sum_below-two   where terms but one are not negative, a sum is at least that one, and one more
--   IsLed g q D E        from the divisor D such sets led to E: E has the degree of D, nobody off q is in debt, and
--                        q holds no less
--   led_start, led_step  it holds at first, and after a set without q has fired k times and left nobody off q in debt
--   led-cong             it holds of every divisor that agrees on the vertices
--   led_between          amounts off q are from 0 to the degree less what q held
--   led_limit            if amounts were within M, they stay within 17 M
-- For any firing:
--   script_between       a script that takes amounts off q within A to amounts within B has all its entries within
--                        225 (A + B) of that at q, for at most 16 vertices
use Rattle.dg_theory.proofs.Common.{◌≡◌, ◌≢◌, ℕ, suc, ◌+◌, ◌-◌, ◌*◌, ◌^◌, ◌<◌, ◌≤◌, Bool, false, arith, refl, ap, sym, ◌∙◌, ⊎_elim, pow-suc, mul_assoc, mul_comm, cases_eq, ints, mul-le, ℤ, pos, ◌+ℤ◌, ◌-ℤ◌, ◌*ℤ◌, *ℤ-zero, ◌≤ℤ◌, unsigned_abs, sum_below, Multigraph, IsMultigraph, valence, Amounts, degree, gain, fired, indicator, multiple, IsEffectiveOff, edges_into, IsDistance}
use Rattle.dg_theory.proofs.Absolute.{within_abs, abs_within}
use Rattle.dg_theory.proofs.Bounds.{gentle_between}
use Rattle.dg_theory.proofs.Multiples.{gain-all_outside}
use Rattle.dg_theory.proofs.SumBounds.{mul-mono}
use Rattle.dg_theory.proofs.Exchange.{degree_stays}
use Rattle.dg_theory.proofs.SumLaws.{sum_below-cong, sum_below-differ_at, sum_below-le, sum_below-le_but, sum_below-same}
use Rattle.dg_theory.proofs.Common.{if◌then◌else◌, ◌==◌, inl, inr, nat_tests}
use Rattle.dg_theory.proofs.Distances.{level_positive}
use Rattle.dg_theory.proofs.Debts.{fired_nearer, farther_stays, level_gains, changes_little}

pub within_level : (c B : ℕ) (x z : ℤ) → unsigned_abs x ≤ B → c ≤ B → x ≤ℤ (z +ℤ pos (63 * c)) →
    z ≤ℤ (x +ℤ pos (63 * c)) → unsigned_abs z ≤ 64 * B
within_level c B x z small few up down =
    let (low, high) = within_abs x B small in
    abs_within z (64 * B) (omega (arith, ints)) (omega (arith, ints))

pub level_limit : (g : Multigraph) (level : ℕ → ℕ) (j k B : ℕ) (D : Amounts) (v : ℕ) → valence g v ≤ 63 → k ≤ B →
    unsigned_abs (D v) ≤ B → unsigned_abs (fired_nearer g level j k D v) ≤ 64 * B
level_limit g level j k B D v few often small =
    let (up, down) = changes_little g level j k D v few in
    within_level k B (D v) (fired_nearer g level j k D v) small often down up

pub level_paid : (g : Multigraph) (q : ℕ) (level : ℕ → ℕ) (j k : ℕ) (D : Amounts) (v : ℕ) → IsDistance g q level →
    v < g.size →
    valence g v ≤ 63 → 0 < j → level v ≡ j → pos 0 ≤ℤ (D v +ℤ pos k) → pos 0 ≤ℤ fired_nearer g level j k D v
level_paid g q level j k D v distance inside few some at enough =
    let (more, most) = level_gains g q level j k D v distance inside few some at in omega (arith, ints)

abbrev pub IsClear : Multigraph → (ℕ → ℕ) → ℕ → Amounts → Type 0
IsClear g level j D = (v : ℕ) → v < g.size → j ≤ level v → pos 0 ≤ℤ D v

pub clear_step : (g : Multigraph) (level : ℕ → ℕ) (j : ℕ) (D : Amounts) → IsClear g level (j + 1) D →
    ((v : ℕ) → v < g.size → level v ≡ j → pos 0 ≤ℤ D v) → IsClear g level j D
clear_step g level j D farther paid v inside far =
    ⊎_elim
    (λ (same : level v ≡ j). paid v inside same)
    (λ (other : level v ≡ j → ⊥). farther v inside (omega arith))
    (cases_eq (level v) j)

pub clear_stays : (g : Multigraph) (q : ℕ) (level : ℕ → ℕ) (j k : ℕ) (D : Amounts) → IsDistance g q level →
    IsClear g level (j + 1) D → IsClear g level (j + 1) (fired_nearer g level j k D)
clear_stays g q level j k D distance clear v inside far =
    farther_stays g q level j k D v distance inside (omega arith) (clear v inside far)

pub clear_all : (g : Multigraph) (q : ℕ) (level : ℕ → ℕ) (D : Amounts) → IsDistance g q level → IsClear g level 1 D →
    IsEffectiveOff g q D
clear_all g q level D distance clear v inside other =
    let far : 0 < level v = level_positive g q level v distance inside other in clear v inside (omega arith)

pub limit_step : (M j : ℕ) → j < 15 → M * 64 ^ (15 - j) ≡ 64 * (M * 64 ^ (15 - (j + 1)))
limit_step M j few =
    let place : 15 - j ≡ suc (15 - (j + 1)) = omega arith in
    let next : 64 ^ (15 - j) ≡ 64 ^ suc (15 - (j + 1)) = ap (λ (x : ℕ). 64 ^ x) place in
    let power : 64 ^ suc (15 - (j + 1)) ≡ 64 ^ (15 - (j + 1)) * 64 = pow-suc 64 (15 - (j + 1)) in
    let x : ℕ = 64 ^ (15 - (j + 1)) in
    ap (λ (y : ℕ). M * y) (next ∙ power) ∙ (sym (mul_assoc M x 64) ∙ mul_comm (M * x) 64)

pub limit_last : (M : ℕ) → M ≤ 2000000 → M * 64 ^ (15 - 0) < 2 ^ 111
limit_last M small = let most : M * 64 ^ 15 ≤ 2000000 * 64 ^ 15 =
    mul-le M (64 ^ 15) 2000000 (64 ^ 15) small (omega arith) in omega arith

pub sum_below-one : (n q : ℕ) (f : ℕ → ℤ) → q < n → ((w : ℕ) → w < n → w ≢ q → pos 0 ≤ℤ f w) → f q ≤ℤ sum_below n f
sum_below-one n q f inside rich = omega (arith, ints, sum_below-le_but n (λ w. pos 0) f q inside rich, sum_below-same n 0)

pub sum_below-two : (n q v : ℕ) (f : ℕ → ℤ) → q < n → v < n → v ≢ q →
    ((w : ℕ) → w < n → w ≢ q → pos 0 ≤ℤ f w) → (f v +ℤ f q) ≤ℤ sum_below n f
sum_below-two n q v f vertex inside apart rich =
    let h : ℕ → ℤ = λ w. if w == v then pos 0 else f w in
    let here : h v ≡ pos 0 = grind (arith, nat_tests) in
    let off : (w : ℕ) → w ≢ v → h w ≡ f w = λ w other. grind (arith, nat_tests) in
    let high : (w : ℕ) → w < n → w ≢ q → pos 0 ≤ℤ h w = λ w below off_q. elim (cases_eq w v) [
      | inl same ↦ omega (arith, ints, ap h same)
      | inr other ↦ omega (arith, ints, off w other, rich w below off_q)
    ] in
    omega (
      arith,
      ints,
      off q (omega arith),
      sum_below-one n q h vertex high,
      sum_below-differ_at n f h v inside (λ w _ other. sym (off w other)),
    )

pub sum_below-at_most : (n M : ℕ) (f : ℕ → ℤ) → ((w : ℕ) → w < n → f w ≤ℤ pos M) → sum_below n f ≤ℤ pos (n * M)
sum_below-at_most n M f high = omega (arith, ints, sum_below-le n f (λ w. pos M) high, sum_below-same n M)

pub record IsLed (g : Multigraph) (q : ℕ) (D E : Amounts) : Type 0 where
  pub no_debt : IsEffectiveOff g q E
  pub sum : degree g.size E ≡ degree g.size D
  pub rises : D q ≤ℤ E q

pub led_start : (g : Multigraph) (q : ℕ) (D : Amounts) → IsEffectiveOff g q D → IsLed g q D D
led_start g q D solvent = record { no_debt = solvent; sum = refl; rises = omega (arith, ints) }

pub led_step : (g : Multigraph) (q : ℕ) (D E : Amounts) (S : ℕ → Bool) (k : ℤ) → IsMultigraph g → IsLed g q D E →
    S q ≡ false → pos 0 ≤ℤ k → IsEffectiveOff g q (fired g E (multiple k (indicator S))) →
    IsLed g q D (fired g E (multiple k (indicator S)))
led_step g q D E S k graph led without often solvent = record {
  no_debt = solvent;
  sum = degree_stays g E (multiple k (indicator S)) graph ∙ led.sum;
  rises =
      let got : gain g (multiple k (indicator S)) q ≡ pos (edges_into g S q) *ℤ k = gain-all_outside g k S q without in
      let some : (pos (edges_into g S q) *ℤ pos 0) ≤ℤ (pos (edges_into g S q) *ℤ k) =
      mul-mono (edges_into g S q) (pos 0) k often in
      let none : pos (edges_into g S q) *ℤ pos 0 ≡ pos 0 = *ℤ-zero (pos (edges_into g S q)) in
      let before : D q ≤ℤ E q = led.rises in
      omega (arith, ints);
}

pub led-cong : (g : Multigraph) (q : ℕ) (D E F : Amounts) → q < g.size → ((v : ℕ) → v < g.size → E v ≡ F v) →
    IsLed g q D E → IsLed g q D F
led-cong g q D E F vertex same led = record {
  no_debt = λ v inside other. rw (← same v inside) (led.no_debt v inside other);
  sum = sym (sum_below-cong g.size E F same) ∙ led.sum;
  rises = rw (← same q vertex) led.rises;
}

pub led_between : (g : Multigraph) (q : ℕ) (D E : Amounts) (v : ℕ) → q < g.size → IsLed g q D E → v < g.size → v ≢ q →
    (pos 0 ≤ℤ E v) × (E v ≤ℤ (degree g.size D -ℤ D q))
led_between g q D E v vertex led inside other =
    let sum : degree g.size E ≡ degree g.size D = led.sum in
    let kept : D q ≤ℤ E q = led.rises in
    let both : (E v +ℤ E q) ≤ℤ degree g.size E = sum_below-two g.size q v E vertex inside other led.no_debt in
    (led.no_debt v inside other, omega (arith, ints))

pub led_limit : (g : Multigraph) (q : ℕ) (D E : Amounts) (M v : ℕ) → q < g.size → g.size ≤ 16 →
    ((w : ℕ) → w < g.size → unsigned_abs (D w) ≤ M) → IsLed g q D E → v < g.size → unsigned_abs (E v) ≤ 17 * M
led_limit g q D E M v vertex few small led inside =
    let (low, high) = within_abs (D q) M (small q vertex) in
    let total : degree g.size D ≤ℤ pos (g.size * M) =
    sum_below-at_most g.size M D (λ w below. (within_abs (D w) M (small w below)).1) in
    let most : g.size * M ≤ 16 * M = mul-le g.size M 16 M few (omega arith) in
    let sum : degree g.size E ≡ degree g.size D = led.sum in
    let kept : D q ≤ℤ E q = led.rises in
    ⊎_elim
    (λ (same : v ≡ q).
    let at : E v ≡ E q = ap E same in
    let whole : E q ≤ℤ degree g.size E = sum_below-one g.size q E vertex led.no_debt in
    abs_within (E v) (17 * M) (omega (arith, ints)) (omega (arith, ints)))
    (λ (other : v ≡ q → ⊥).
    let (rich, modest) = led_between g q D E v vertex led inside other in
    abs_within (E v) (17 * M) (omega (arith, ints)) (omega (arith, ints)))
    (cases_eq v q)

pub script_between : (g : Multigraph) (q : ℕ) (D s : Amounts) (A B v : ℕ) → IsMultigraph g → q < g.size → g.size ≤ 16 →
    ((w : ℕ) → w < g.size → w ≢ q → unsigned_abs (D w) ≤ A) →
    ((w : ℕ) → w < g.size → w ≢ q → unsigned_abs (fired g D s w) ≤ B) →
    v < g.size → unsigned_abs (s v -ℤ s q) ≤ 225 * (A + B)
script_between g q D s A B v graph vertex few before after inside =
    let m : ℕ = g.size - 1 in
    let size_is : g.size ≡ suc m = omega arith in
    let near : unsigned_abs (s v -ℤ s q) ≤ m * (m * (A + B)) =
    gentle_between g q m (A + B) s graph vertex size_is (λ w below off_q.
    let (low, high) = within_abs (D w) A (before w below off_q) in
    let (low', high') = within_abs (fired g D s w) B (after w below off_q) in
    (omega (arith, ints), omega (arith, ints))) v inside in
    let once : m * (A + B) ≤ 15 * (A + B) = mul-le m (A + B) 15 (A + B) (omega arith) (omega arith) in
    let twice : m * (m * (A + B)) ≤ 15 * (15 * (A + B)) = mul-le m (m * (A + B)) 15 (15 * (A + B)) (omega arith) once in
    omega arith
