-- The first loss of the trials that hold nothing before a place.
--   from_few         none of these holds more than their degree
--   all_last         amounts that are 0 before the last vertex hold their degree there
--   IsOther g A B p a == A less a dollars at p can be fired to B
--   some_less, some_more   trials less a dollars at p, and with them
--   from_more        a trial with a dollars more is one of as much more
--   first_above      the first loss of B with a dollars more at p is that of A among those that hold as much there
--   none_or_some     a trial holds nothing up to p, or a dollar there
--   first_with       if those win that hold nothing up to p, the first loss with a dollar at p is the first of all
--   at_last, none_before, first_at_last   the trial that holds all at the last place comes before all others
--   held_few         no trial holds more than its degree
use Rattle.dg_rank.proofs.Common.{◌≡◌, ◌≢◌, ℕ, ◌+◌, ◌-◌, ◌<◌, ◌≤◌, List, length, arith, sym, ap, ◌∙◌, ⊎_elim, ◌⊎◌, inl, inr, set, length-set, get_or-set_same, get_or-set_other, slice_index, ◌≤ℤ◌, cases_eq, cases_lt, ints, ℤ, pos, ◌-ℤ◌, natural, Multigraph, Amounts, degree, only_at, AreEquivalent, IsWinnable, minus, degree-less, degree-only_at, only_at-here, only_at-other, sum_below-one, sum_below-cong, equivalent-winnable, amounts_of_trial, WinsWithout, IsTrialFrom, TrialsWinFrom, IsFirstLossFrom, IsFirstTrialIf, IsNotBefore, HoldsAt}
use Rattle.std.proofs.Math.IntN.{◌+ℤ◌}

as_much_or_more : (a b : ℤ) → a ≤ℤ b → (b ≡ a) ⊎ ((a +ℤ pos 1) ≤ℤ b)
as_much_or_more a b low =
    let (n, is) = natural (b -ℤ a) (omega (arith, ints)) in
    ⊎_elim
    (λ (none : n ≡ 0). inl (omega (arith, ints)))
    (λ (some : n ≡ 0 → ⊥). inr (omega (arith, ints)))
    (cases_eq n 0)

pub from_few : (n r d v : ℕ) (F : Amounts) → IsTrialFrom n r d F → v < n → F v ≤ℤ pos r
from_few n r d v F from below =
    let most : F v ≤ℤ degree n F = sum_below-one n v F below (λ w inside _. from.effective w inside) in
    omega (arith, ints, from.of_degree)

pub all_last : (n r v : ℕ) (F : Amounts) → degree n F ≡ pos r → ((u : ℕ) → u + 1 < n → F u ≡ pos 0) → v < n →
    F v ≡ only_at (n - 1) (pos r) v
all_last n r v F of_degree empty inside =
    let alone : (u : ℕ) → u < n → F u ≡ only_at (n - 1) (F (n - 1)) u =
    λ u below. ⊎_elim
    (λ (last : u ≡ n - 1).
    ap F last ∙ sym (ap (only_at (n - 1) (F (n - 1))) last ∙ only_at-here (n - 1) (F (n - 1))))
    (λ (inner : u ≡ n - 1 → ⊥).
    empty u (omega arith) ∙ sym (only_at-other (n - 1) (F (n - 1)) u inner))
    (cases_eq u (n - 1)) in
    let held : degree n F ≡ F (n - 1) =
    sum_below-cong n F (only_at (n - 1) (F (n - 1))) alone ∙ degree-only_at n (n - 1) (F (n - 1)) (omega arith) in
    alone v inside ∙ ap (λ (x : ℤ). only_at (n - 1) x v) (sym held ∙ of_degree)

abbrev pub IsOther : Multigraph → Amounts → Amounts → ℕ → ℕ → Type 0
IsOther g A B p a = AreEquivalent g (minus A (only_at p (pos a))) B

pub wins_other : (g : Multigraph) (A B F : Amounts) (p a : ℕ) → IsOther g A B p a →
    IsWinnable g (minus B (minus F (only_at p (pos a)))) → IsWinnable g (minus A F)
wins_other g A B F p a (s, leads) win =
    (equivalent-winnable g (minus A F) (minus B (minus F (only_at p (pos a))))
    (s, λ v below. omega (arith, ints, leads v below))).1 win

pub some_less : (n r p a : ℕ) (F : Amounts) → IsTrialFrom n r p F → p < n → HoldsAt p a F →
    IsTrialFrom n (r - a) p (minus F (only_at p (pos a)))
some_less n r p a F from inside some = record {
  effective = λ v below. ⊎_elim
      (λ (there : v ≡ p). rw there (omega (arith, ints, some, only_at-here p (pos a))))
      (λ (other : v ≡ p → ⊥). omega (arith, ints, from.effective v below, only_at-other p (pos a) v other))
      (cases_eq v p);
  of_degree = omega (
    arith,
    ints,
    degree-less n F (only_at p (pos a)),
    degree-only_at n p (pos a) inside,
    from.of_degree,
    from_few n r p p F from inside,
  );
  empty = λ v low.
      let other : v ≢ p = omega arith in
      omega (arith, ints, from.empty v low, only_at-other p (pos a) v other);
}

pub some_more : (E : List ℕ) (p a v : ℕ) → p < length E →
    amounts_of_trial (set E p (slice_index E p + a)) v ≡ amounts_of_trial E v +ℤ only_at p (pos a) v
some_more E p a v inside = ⊎_elim
    (λ (there : v ≡ p). rw there (omega
    (arith, ints, get_or-set_same E p (slice_index E p + a) 0 inside, only_at-here p (pos a))))
    (λ (apart : v ≡ p → ⊥). omega
    (arith, ints, get_or-set_other E p v (slice_index E p + a) 0 apart, only_at-other p (pos a) v apart))
    (cases_eq v p)

pub from_more : (n r p q a : ℕ) (L E : List ℕ) → p < n → a ≤ r → p ≤ q → IsTrialFrom n (r - a) q (amounts_of_trial L) →
    ((v : ℕ) → amounts_of_trial E v ≡ amounts_of_trial L v +ℤ only_at p (pos a) v) → IsTrialFrom n r p (amounts_of_trial E)
from_more n r p q a L E inside few past from more = record {
  effective = λ v below. omega (arith, ints);
  of_degree = omega (
    arith,
    ints,
    sum_below-cong n (amounts_of_trial L) (minus (amounts_of_trial E) (only_at p (pos a)))
        (λ v below. omega (arith, ints, more v)),
    degree-less n (amounts_of_trial E) (only_at p (pos a)),
    degree-only_at n p (pos a) inside,
    from.of_degree,
  );
  empty = λ v low.
      let apart : v ≢ p = omega arith in
      omega (arith, ints, more v, from.empty v (omega arith), only_at-other p (pos a) v apart);
}

pub first_above : (g : Multigraph) (A B : Amounts) (r p a : ℕ) (L E : List ℕ) → p < g.size → a ≤ r → IsOther g A B p a →
    IsFirstLossFrom g B (r - a) p L → E ≡ set L p (slice_index L p + a) → IsFirstTrialIf g A r p (HoldsAt p a) E
first_above g A B r p a L E inside few other loss is = record {
  places = ap length is ∙ length-set L p (slice_index L p + a) ∙ loss.places;
  from = from_more g.size r p p a L E inside few (omega arith) loss.from more;
  among = omega (arith, ints, more p, only_at-here p (pos a));
  loses = λ win. loss.loses ((equivalent-winnable g (minus A (amounts_of_trial E)) (minus B (amounts_of_trial L))
      (other.0, λ v below. omega (arith, ints, other.1 v below, more v))).0 win);
  first = λ F from held earlier. wins_other g A B F p a other
      (loss.first (minus F (only_at p (pos a))) (some_less g.size r p a F from inside held) (record {
        place = earlier.place;
        inside = earlier.inside;
        same = λ v low. omega (arith, ints, earlier.same v low, more v);
        smaller = omega (arith, ints, earlier.smaller, more earlier.place);
      }));
} where
  more : (v : ℕ) → amounts_of_trial E v ≡ amounts_of_trial L v +ℤ only_at p (pos a) v
  more v = ap (λ (T : List ℕ). amounts_of_trial T v) is ∙ some_more L p a v (omega (arith, loss.places))

pub none_or_some : (n r p : ℕ) (F : Amounts) → p < n → IsTrialFrom n r p F → IsTrialFrom n r (p + 1) F ⊎ HoldsAt p 1 F
none_or_some n r p F inside from = ⊎_elim
    (λ (none : F p ≡ pos 0). inl (record {
      effective = from.effective;
      of_degree = from.of_degree;
      empty = λ v low. ⊎_elim
          (λ (there : v ≡ p). rw there none)
          (λ (apart : v ≡ p → ⊥). from.empty v (omega arith))
          (cases_eq v p);
    }))
    (λ (held : (pos 0 +ℤ pos 1) ≤ℤ F p). inr (omega (arith, ints)))
    (as_much_or_more (pos 0) (F p) (from.effective p inside))

pub first_with : (g : Multigraph) (A B : Amounts) (r p : ℕ) (E E' : List ℕ) → p < g.size → 1 ≤ r → IsOther g A B p 1 →
    TrialsWinFrom g A r (p + 1) → IsFirstLossFrom g B (r - 1) p E' → E ≡ set E' p (slice_index E' p + 1) →
    IsFirstLossFrom g A r p E
first_with g A B r p E E' inside some other wins loss is =
    let above : IsFirstTrialIf g A r p (HoldsAt p 1) E = first_above g A B r p 1 E' E inside some other loss is in
    record {
      places = above.places;
      from = above.from;
      loses = above.loses;
      first = λ F from earlier. ⊎_elim
          (λ (none : IsTrialFrom g.size r (p + 1) F). wins F none)
          (λ (held : HoldsAt p 1 F). above.first F from held earlier)
          (none_or_some g.size r p F inside from);
    }

pub held_at_last : (n r : ℕ) (E : List ℕ) → slice_index E (n - 1) ≡ r → ((u : ℕ) → u + 1 < n → slice_index E u ≡ 0) →
    (v : ℕ) → v < n → amounts_of_trial E v ≡ only_at (n - 1) (pos r) v
held_at_last n r E held empty v below = ⊎_elim
    (λ (last : v ≡ n - 1).
    ap (amounts_of_trial E) last ∙ ap pos held ∙ sym (ap (only_at (n - 1) (pos r)) last ∙ only_at-here (n - 1) (pos r)))
    (λ (inner : v ≡ n - 1 → ⊥).
    ap pos (empty v (omega arith)) ∙ sym (only_at-other (n - 1) (pos r) v inner))
    (cases_eq v (n - 1))

pub at_last : (n r p : ℕ) (E : List ℕ) → p < n → slice_index E (n - 1) ≡ r →
    ((u : ℕ) → u + 1 < n → slice_index E u ≡ 0) → IsTrialFrom n r p (amounts_of_trial E)
at_last n r p E inside held empty = record {
  effective = λ v below. omega (arith, ints);
  of_degree = sum_below-cong n (amounts_of_trial E) (only_at (n - 1) (pos r)) (held_at_last n r E held empty)
      ∙ degree-only_at n (n - 1) (pos r) (omega arith);
  empty = λ v low. ap pos (empty v (omega arith));
}

pub none_before : (n r p : ℕ) (E : List ℕ) (F : Amounts) → slice_index E (n - 1) ≡ r →
    ((u : ℕ) → u + 1 < n → slice_index E u ≡ 0) → IsTrialFrom n r p F → IsNotBefore n E F
none_before n r p E F held empty from earlier =
    let u = earlier.place in
    ⊎_elim
    (λ (inner : u + 1 < n). omega (arith, ints, earlier.smaller, empty u inner, from.effective u earlier.inside))
    (λ (end : n ≤ u + 1).
    let below : u < n = earlier.inside in
    let last : u ≡ n - 1 = omega arith in
    let all : F u ≡ only_at (n - 1) (pos r) u =
    all_last n r u F from.of_degree (λ v low. earlier.same v (omega arith) ∙ ap pos (empty v low)) below in
    let here : only_at (n - 1) (pos r) u ≡ pos r = ap (only_at (n - 1) (pos r)) last ∙ only_at-here (n - 1) (pos r) in
    let there : slice_index E u ≡ r = ap (slice_index E) last ∙ held in
    omega (arith, ints, earlier.smaller))
    (cases_lt (u + 1) n)

pub first_at_last : (g : Multigraph) (B : Amounts) (r p : ℕ) (E : List ℕ) → p < g.size → length E ≡ g.size →
    slice_index E (g.size - 1) ≡ r → ((u : ℕ) → u + 1 < g.size → slice_index E u ≡ 0) → ¬ WinsWithout g B E →
    IsFirstLossFrom g B r p E
first_at_last g B r p E inside places held empty loses = record {
  places = places;
  from = at_last g.size r p E inside held empty;
  loses = loses;
  first = λ F from earlier. absurd (none_before g.size r p E F held empty from earlier);
}

pub held_few : (g : Multigraph) (A : Amounts) (r d v : ℕ) (E : List ℕ) → IsFirstLossFrom g A r d E → v < g.size →
    slice_index E v ≤ r
held_few g A r d v E loss inside = omega (arith, ints, from_few g.size r d v (amounts_of_trial E) loss.from inside)
