-- What is left without a trial.
--   only_at-more    dollars at one vertex are no debt anywhere
--   owed_at         once dollars are taken at one vertex, nobody else is in debt
--   owed_small      amounts that add up to at most M, without a debt, are within M + z once z are taken at one vertex
--   rich_small      amounts that add up to at most M, without a debt, are within M
--   degree-given    what is given to a vertex changes the degree by as much
--   form_degree     what amounts are fired to has their degree
--   own_class       who owes nothing is in their own linear system
--   given_back      dollars given to a vertex are given to what can be fired there
--   told_by         what repaying tells of amounts it tells of all that are equivalent to them
--   trial_small     a trial's amounts are at most 1,000
--   left_small      small amounts less a trial's are small
--   left_degree     what is left without a trial adds up to no more than before
use Rattle.dg_rank.proofs.Common.{◌≡◌, ℕ, ◌+◌, ◌*◌, ◌<◌, ◌≤◌, Bool, true, false, List, arith, refl, sym, ap, ◌∙◌, ⊎_elim, slice_index, ◌≤ℤ◌, MatchBool, unsigned_abs, cases_eq, ints, sum, get_or-le-sum_by, ℤ, pos, ◌-ℤ◌, Multigraph, IsMultigraph, Amounts, degree, only_at, IsEffective, IsEffectiveOff, AreEquivalent, IsWinnable, minus, within_abs, abs_within, equivalent-refl, equivalent-trans, equivalent-degree, degree-only_at, only_at-here, only_at-other, sum_below-one, sum_below-at_most, sum_below-cong, sum_below-add, equivalent-winnable, IsGraph, Vector, at, IsInLinearSystem, amounts_of_trial, length}
use Rattle.std.proofs.Math.IntN.{◌+ℤ◌}

pub only_at-more : (v k w : ℕ) → pos 0 ≤ℤ only_at v (pos k) w
only_at-more v k w = ⊎_elim
    (λ (same : w ≡ v). rw same (omega (arith, ints, only_at-here v (pos k))))
    (λ (other : w ≡ v → ⊥). omega (arith, ints, only_at-other v (pos k) w other))
    (cases_eq w v)

pub owed_at : (g : Multigraph) (A B : Amounts) (v k : ℕ) → IsEffective g.size A →
    ((w : ℕ) → B w ≡ A w -ℤ only_at v (pos k) w) →
    IsEffectiveOff g v B
owed_at g A B v k rich less w below other = omega (arith, ints, rich w below, less w, only_at-other v (pos k) w other)

pub rich_small : (n : ℕ) (A : Amounts) (M w : ℕ) → IsEffective n A → degree n A ≤ℤ pos M → w < n →
    unsigned_abs (A w) ≤ M
rich_small n A M w rich total below =
    let low : pos 0 ≤ℤ A w = rich w below in
    let high : A w ≤ℤ degree n A = sum_below-one n w A below (λ u inside _. rich u inside) in
    abs_within (A w) M (omega (arith, ints)) (omega (arith, ints))

pub owed_small : (n : ℕ) (A B : Amounts) (v M k : ℕ) → IsEffective n A → degree n A ≤ℤ pos M →
    ((w : ℕ) → B w ≡ A w -ℤ only_at v (pos k) w) → (w : ℕ) → w < n → unsigned_abs (B w) ≤ M + k
owed_small n A B v M k rich total less w below =
    let (low, high) = within_abs (A w) M (rich_small n A M w rich total below) in
    let few : only_at v (pos k) w ≤ℤ pos k = ⊎_elim
    (λ (same : w ≡ v). rw same (omega (arith, ints, only_at-here v (pos k))))
    (λ (other : w ≡ v → ⊥). omega (arith, ints, only_at-other v (pos k) w other))
    (cases_eq w v) in
    abs_within (B w) (M + k) (omega (arith, ints, rich w below, less w)) (omega (arith, ints, less w, only_at-more v k w))

pub degree-given : (n : ℕ) (A B : Amounts) (v k : ℕ) → v < n → ((w : ℕ) → B w ≡ A w +ℤ only_at v (pos k) w) →
    degree n B ≡ degree n A +ℤ pos k
degree-given n A B v k below more =
    sum_below-cong n B (λ w. A w +ℤ only_at v (pos k) w) (λ w _. more w)
    ∙ sum_below-add n A (only_at v (pos k)) ∙ ap (λ (d : ℤ). degree n A +ℤ d) (degree-only_at n v (pos k) below)

pub form_degree : (g : Multigraph) (A : Amounts) (x : Vector) → IsMultigraph g → IsInLinearSystem g A x →
    degree g.size (at x) ≡ degree g.size A
form_degree g A x graph form = sym (equivalent-degree g A (at x) graph form.led)

pub own_class : (g : Multigraph) (x : Vector) → x.size ≡ g.size → IsEffective g.size (at x) → IsInLinearSystem g (at x) x
own_class g x size rich = record {
  size = size;
  effective = rich;
  led = equivalent-refl g (at x) (at x) (λ v _. refl);
}

pub given_back : (g : Multigraph) (A B : Amounts) (x y : Vector) (v k : ℕ) → IsInLinearSystem g A x →
    y.size ≡ x.size → ((w : ℕ) → B w ≡ A w +ℤ only_at v (pos k) w) →
    ((w : ℕ) → at y w ≡ at x w +ℤ only_at v (pos k) w) → IsInLinearSystem g B y
given_back g A B x y v k form size more given =
    let (s, leads) = form.led in
    record {
      size = size ∙ form.size;
      effective = λ w below. omega (arith, ints, form.effective w below, given w, only_at-more v k w);
      led = (s, λ w below. omega (arith, ints, leads w below, given w, more w));
    }

pub told_by : (b : Bool) (g : Multigraph) (A B : Amounts) (z : Vector) → AreEquivalent g A B →
    MatchBool b (IsInLinearSystem g B z) (¬ IsWinnable g B) → MatchBool b (IsInLinearSystem g A z) (¬ IsWinnable g A)
told_by true g A B z same form = record {
  size = form.size;
  effective = form.effective;
  led = equivalent-trans g A B (at z) same form.led;
}
told_by false g A B z same lost = λ win. lost ((equivalent-winnable g A B same).0 win)

pub left_degree : (g : Multigraph) (D : Amounts) (E : List ℕ) (x : Vector) → IsGraph g →
    ((v : ℕ) → v < g.size → unsigned_abs (D v) ≤ 1999000) → IsInLinearSystem g (minus D (amounts_of_trial E)) x →
    degree g.size (at x) ≤ℤ pos 31984000
left_degree g D E x graph range form =
    let same : degree g.size (at x) ≡ degree g.size (minus D (amounts_of_trial E)) =
    form_degree g (minus D (amounts_of_trial E)) x graph.multigraph form in
    let total : degree g.size (minus D (amounts_of_trial E)) ≤ℤ pos (g.size * 1999000) =
    sum_below-at_most g.size 1999000 (minus D (amounts_of_trial E))
    (λ w below. omega (arith, ints, (within_abs (D w) 1999000 (range w below)).1)) in
    let few : g.size ≤ 16 = graph.few in
    omega (arith, ints)

pub trial_small : (E : List ℕ) (v : ℕ) → sum E ≤ 1000 → v < length E → slice_index E v ≤ 1000
trial_small E v few inside =
    let most : slice_index E v ≤ sum E = get_or-le-sum_by (λ (x : ℕ). x) E v 0 inside in
    omega arith

pub left_small : (E : List ℕ) (B F : Amounts) (v : ℕ) → sum E ≤ 1000 → v < length E →
    unsigned_abs (B v) ≤ 1999000 → F v ≡ minus B (amounts_of_trial E) v → unsigned_abs (F v) ≤ 2000000
left_small E B F v total inside small left =
    let few : slice_index E v ≤ 1000 = trial_small E v total inside in
    let (low, high) = within_abs (B v) 1999000 small in
    abs_within (F v) 2000000 (omega (arith, ints)) (omega (arith, ints))
