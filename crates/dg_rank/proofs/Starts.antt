-- The trials from one on.
--   IsFrom n r p S   == S is a trial of degree r on n places that holds nothing before place p
--   sum_from, trial_from, from_trial   it adds up to its degree
--   first_place      what comes before another holds no more at place p
--   on_all           if it holds all at its last place, no other comes before it
--   not_last         if it does not, place p is not the last
--   told_on          so what is told of all is told of those from it on
--   all_told         and the other way
--   start_lost       if what S holds at p can't be lost, S is the first loss from S on
--   IsStep g A B r p S   == A less what S holds at p can be fired to B
--   stepped          what does not come before S holds more at p, or as much, and then the rest does not come before that of S
--   loss_later, told_above   so the first loss is one of those that hold as much, or of those that hold more
--   told_same        what is told of a divisor is told of those that are equivalent to it
use Rattle.dg_rank.proofs.Common.{◌≡◌, ◌≢◌, ℕ, ◌+◌, ◌-◌, ◌<◌, ◌≤◌, List, Option, Some, None, MatchOption, length, arith, refl, sym, ap, ◌∙◌, ⊎_elim, set, length-set, get_or-set_same, get_or-set_other, slice_index, sum, cases_eq, cases_lt, ints, by_lt_z, pos, ◌-ℤ◌, ◌≤ℤ◌, ◌<ℤ◌, Multigraph, Amounts, only_at, AreEquivalent, IsWinnable, IsLexBefore, minus, only_at-here, only_at-other, sum_below-cong, sum_below-two, equivalent-winnable, win_more, amounts_of_trial, IsTrial, IsTrialFrom, TrialsWinFrom, IsFirstLossFrom, TrialsWinIf, IsFirstTrialIf, TellsFirstIf, IsNotBefore, HoldsAt}
use Rattle.std.proofs.Math.IntN.{◌+ℤ◌}
use Rattle.dg_rank.proofs.TrialLists.{degree-trial}
use Rattle.dg_rank.proofs.FirstFrom.{IsOther, all_last, from_few, from_more, none_before, some_less, some_more, wins_other}

pub trial_from : (n r d : ℕ) (E : List ℕ) → length E ≡ n → IsTrialFrom n r d (amounts_of_trial E) → IsTrial n r E
trial_from n r d E places from = record {
  places = places;
  amount = omega (arith, ints, degree-trial n (sum E) E (record { places = places; amount = refl }), from.of_degree);
}

pub from_trial : (n k : ℕ) (E : List ℕ) → IsTrial n k E → IsTrialFrom n k 0 (amounts_of_trial E)
from_trial n k E trial = record {
  effective = λ v below. omega (arith, ints);
  of_degree = degree-trial n k E trial;
  empty = λ v low. absurd (omega arith);
}

first_place : (n r t p : ℕ) (F G : Amounts) → p < n → IsTrialFrom n r p F → IsTrialFrom n t p G → IsLexBefore n F G →
    F p ≤ℤ G p
first_place n r t p F G inside from other before =
    let q = before.place in
    ⊎_elim
    (λ (low : q < p). absurd (omega (arith, ints, before.smaller, from.empty q low, other.empty q low)))
    (λ (high : p ≤ q). ⊎_elim
    (λ (there : p ≡ q). rw there (omega (arith, ints, before.smaller)))
    (λ (past : p ≡ q → ⊥). omega (arith, ints, before.same p (omega arith)))
    (cases_eq p q))
    (cases_lt q p)

pub on_all : (n r p : ℕ) (S : List ℕ) (F : Amounts) → slice_index S (n - 1) ≡ r → IsTrialFrom n r p (amounts_of_trial S) →
    IsTrialFrom n r p F → IsNotBefore n S F
on_all n r p S F held start from = none_before n r p S F held
    (λ u inner.
    let apart : u ≢ n - 1 = omega arith in
    omega (
      arith,
      ints,
      start.of_degree,
      sum_below-two n (n - 1) u (amounts_of_trial S) (omega arith) (omega arith) apart (λ w _ _. omega (arith, ints)),
    ))
    from

pub not_last : (n r p : ℕ) (S : List ℕ) → p < n → IsTrialFrom n r p (amounts_of_trial S) → slice_index S (n - 1) ≢ r → p + 1 < n
not_last n r p S inside start other = ⊎_elim
    (λ (inner : p + 1 < n). inner)
    (λ (end : n ≤ p + 1).
    let all = all_last n r (n - 1) (amounts_of_trial S) start.of_degree (λ u low. start.empty u (omega arith)) (omega arith) in
    absurd (other (omega (arith, ints, all, only_at-here (n - 1) (pos r)))))
    (cases_lt (p + 1) n)

pub told_on : (g : Multigraph) (A : Amounts) (r p : ℕ) (S : List ℕ) (found : Option (List ℕ)) →
    ((F : Amounts) → IsTrialFrom g.size r p F → IsNotBefore g.size S F) →
    MatchOption found (TrialsWinFrom g A r p) (IsFirstLossFrom g A r p) →
    TellsFirstIf g A r p (IsNotBefore g.size S) found
told_on g A r p S None none wins = λ F from _. wins F from
told_on g A r p S (Some E) none loss = record {
  places = loss.places;
  from = loss.from;
  among = none (amounts_of_trial E) loss.from;
  loses = loss.loses;
  first = λ F from _ earlier. loss.first F from earlier;
}

pub all_told : (g : Multigraph) (A : Amounts) (r p : ℕ) (S : List ℕ) (found : Option (List ℕ)) →
    ((F : Amounts) → IsTrialFrom g.size r p F → IsNotBefore g.size S F) →
    TellsFirstIf g A r p (IsNotBefore g.size S) found →
    MatchOption found (TrialsWinFrom g A r p) (IsFirstLossFrom g A r p)
all_told g A r p S None none wins = λ F from. wins F from (none F from)
all_told g A r p S (Some E) none loss = record {
  places = loss.places;
  from = loss.from;
  loses = loss.loses;
  first = λ F from earlier. loss.first F from (none F from) earlier;
}

pub start_lost : (g : Multigraph) (A : Amounts) (r p : ℕ) (S : List ℕ) → length S ≡ g.size →
    IsTrialFrom g.size r p (amounts_of_trial S) → (¬ IsWinnable g (minus A (amounts_of_trial S))) →
    IsFirstTrialIf g A r p (IsNotBefore g.size S) S
start_lost g A r p S places start lost = record {
  places = places;
  from = start;
  among = λ before. omega (arith, ints, before.smaller);
  loses = lost;
  first = λ F from on earlier. absurd (on earlier);
}

pub some_lost : (g : Multigraph) (A : Amounts) (p : ℕ) (S : List ℕ) →
    (¬ IsWinnable g (minus A (only_at p (pos (slice_index S p))))) → ¬ IsWinnable g (minus A (amounts_of_trial S))
some_lost g A p S lost win = lost (win_more g (minus A (amounts_of_trial S)) (minus A (only_at p (pos (slice_index S p))))
    (λ v inside. ⊎_elim
    (λ (there : v ≡ p). rw there (omega (arith, ints, only_at-here p (pos (slice_index S p)))))
    (λ (apart : v ≡ p → ⊥). omega (arith, ints, only_at-other p (pos (slice_index S p)) v apart))
    (cases_eq v p)) win)

pub record IsStep (g : Multigraph) (A B : Amounts) (r p : ℕ) (S : List ℕ) : Type 0 where
  pub inside : p < g.size
  pub places : length S ≡ g.size
  pub start : IsTrialFrom g.size r p (amounts_of_trial S)
  pub other : IsOther g A B p (slice_index S p)

module _ {g : Multigraph} {A B : Amounts} {r p : ℕ} {S : List ℕ} (step : IsStep g A B r p S) where
  later : (v : ℕ) → amounts_of_trial (set S p 0) v ≡ amounts_of_trial S v -ℤ only_at p (pos (slice_index S p)) v
  later v = ⊎_elim
      (λ (there : v ≡ p). rw there (omega
      (arith, ints, get_or-set_same S p 0 0 (omega (arith, step.places, step.inside)), only_at-here p (pos (slice_index S p)))))
      (λ (apart : v ≡ p → ⊥). omega
      (arith, ints, get_or-set_other S p v 0 0 apart, only_at-other p (pos (slice_index S p)) v apart))
      (cases_eq v p)

  pub one_later : (F : Amounts) → IsTrialFrom g.size r p F → F p ≡ amounts_of_trial S p →
      IsTrialFrom g.size (r - slice_index S p) (p + 1) (minus F (only_at p (pos (slice_index S p))))
  one_later F from all =
      let less = some_less g.size r p (slice_index S p) F from step.inside (omega (arith, ints)) in
      record {
        effective = less.effective;
        of_degree = less.of_degree;
        empty = λ v low. ⊎_elim
            (λ (there : v ≡ p). rw there (omega (arith, ints, only_at-here p (pos (slice_index S p)))))
            (λ (apart : v ≡ p → ⊥). less.empty v (omega arith))
            (cases_eq v p);
      }

  pub start_later : IsTrialFrom g.size (r - slice_index S p) (p + 1) (amounts_of_trial (set S p 0))
  start_later =
      let less = one_later (amounts_of_trial S) step.start refl in
      record {
        effective = λ v below. omega (arith, ints);
        of_degree = sum_below-cong g.size (amounts_of_trial (set S p 0)) _ (λ v below. later v) ∙ less.of_degree;
        empty = λ v low. later v ∙ less.empty v low;
      }

  stepped : {W : Type 0} (F : Amounts) → IsTrialFrom g.size r p F → IsNotBefore g.size S F →
      (HoldsAt p (slice_index S p + 1) F → W) →
      (IsTrialFrom g.size (r - slice_index S p) (p + 1) (minus F (only_at p (pos (slice_index S p)))) →
      IsNotBefore g.size (set S p 0) (minus F (only_at p (pos (slice_index S p)))) → W) → W
  stepped F from on above alike = by_lt_z (F p) (amounts_of_trial S p)
      (λ (less : F p <ℤ amounts_of_trial S p). absurd (on (record {
        place = p;
        inside = step.inside;
        same = λ u low. from.empty u low ∙ sym (step.start.empty u low);
        smaller = less;
      })))
      (λ (enough : amounts_of_trial S p ≤ℤ F p). by_lt_z (amounts_of_trial S p) (F p)
      (λ (more : amounts_of_trial S p <ℤ F p). above (omega (arith, ints)))
      (λ (most : F p ≤ℤ amounts_of_trial S p). alike (one_later F from (omega (arith, ints))) (λ before. on (record {
        place = before.place;
        inside = before.inside;
        same = λ u low. omega (arith, ints, before.same u low, later u);
        smaller = omega (arith, ints, before.smaller, later before.place);
      }))))

  wins_on : TrialsWinIf g B (r - slice_index S p) (p + 1) (IsNotBefore g.size (set S p 0)) →
      TrialsWinIf g A r p (HoldsAt p (slice_index S p + 1)) → TrialsWinIf g A r p (IsNotBefore g.size S)
  wins_on wins above F from on = stepped F from on (above F from)
      (λ less on'. wins_other g A B F p (slice_index S p) step.other (wins _ less on'))

  loss_above : (E : List ℕ) → TrialsWinIf g B (r - slice_index S p) (p + 1) (IsNotBefore g.size (set S p 0)) →
      IsFirstTrialIf g A r p (HoldsAt p (slice_index S p + 1)) E → IsFirstTrialIf g A r p (IsNotBefore g.size S) E
  loss_above E wins loss = record {
    places = loss.places;
    from = loss.from;
    among = λ before. omega (
      arith,
      ints,
      first_place g.size r r p (amounts_of_trial E) (amounts_of_trial S) step.inside loss.from step.start before,
      loss.among,
    );
    loses = loss.loses;
    first = λ F from on earlier. stepped F from on (λ above. loss.first F from above earlier)
        (λ less on'. wins_other g A B F p (slice_index S p) step.other (wins _ less on'));
  }

  pub loss_later : (L E : List ℕ) →
      IsFirstTrialIf g B (r - slice_index S p) (p + 1) (IsNotBefore g.size (set S p 0)) L →
      E ≡ set L p (slice_index L p + slice_index S p) → IsFirstTrialIf g A r p (IsNotBefore g.size S) E
  loss_later L E loss is = record {
    places = ap length is ∙ length-set L p (slice_index L p + slice_index S p) ∙ loss.places;
    from = from_E;
    among = λ before. loss.among (record {
      place = before.place;
      inside = before.inside;
      same = λ u low. omega (arith, ints, before.same u low, later u, more u);
      smaller = omega (arith, ints, before.smaller, later before.place, more before.place);
    });
    loses = λ win. loss.loses ((equivalent-winnable g (minus A (amounts_of_trial E)) (minus B (amounts_of_trial L))
        (step.other.0, λ v below. omega (arith, ints, step.other.1 v below, more v))).0 win);
    first = λ F from on earlier. stepped F from on
        (λ above. absurd (omega (
          arith,
          ints,
          first_place g.size r r p F (amounts_of_trial E) step.inside from from_E earlier,
          more p,
          loss.from.empty p (omega arith),
          only_at-here p (pos (slice_index S p)),
        )))
        (λ less on'. wins_other g A B F p (slice_index S p) step.other (loss.first _ less on' (record {
          place = earlier.place;
          inside = earlier.inside;
          same = λ u low. omega (arith, ints, earlier.same u low, more u);
          smaller = omega (arith, ints, earlier.smaller, more earlier.place);
        })));
  } where
    more : (v : ℕ) → amounts_of_trial E v ≡ amounts_of_trial L v +ℤ only_at p (pos (slice_index S p)) v
    more v = ap (λ (T : List ℕ). amounts_of_trial T v) is
        ∙ some_more L p (slice_index S p) v (omega (arith, loss.places, step.inside))

    from_E : IsTrialFrom g.size r p (amounts_of_trial E)
    from_E = from_more g.size r p (p + 1) (slice_index S p) L E step.inside
        (omega (arith, ints, from_few g.size r p p (amounts_of_trial S) step.start step.inside)) (omega arith) loss.from more

pub told_above : (g : Multigraph) (A B : Amounts) (r p : ℕ) (S : List ℕ) (found : Option (List ℕ)) → IsStep g A B r p S →
    TrialsWinIf g B (r - slice_index S p) (p + 1) (IsNotBefore g.size (set S p 0)) →
    TellsFirstIf g A r p (HoldsAt p (slice_index S p + 1)) found → TellsFirstIf g A r p (IsNotBefore g.size S) found
told_above g A B r p S None step wins above = wins_on step wins above
told_above g A B r p S (Some E) step wins loss = loss_above step E wins loss

pub told_same : (g : Multigraph) (D A : Amounts) (r p : ℕ) (P : Amounts → Type 0) (found : Option (List ℕ)) →
    AreEquivalent g D A → TellsFirstIf g A r p P found → TellsFirstIf g D r p P found
told_same g D A r p P found (s, leads) = told found where
  same : (F : Amounts) → AreEquivalent g (minus D F) (minus A F)
  same F = (s, λ v below. omega (arith, ints, leads v below))

  told : (x : Option (List ℕ)) → TellsFirstIf g A r p P x → TellsFirstIf g D r p P x
  told None wins = λ F from holds. (equivalent-winnable g (minus D F) (minus A F) (same F)).1 (wins F from holds)
  told (Some E) loss = record {
    places = loss.places;
    from = loss.from;
    among = loss.among;
    loses = λ win. loss.loses ((equivalent-winnable g _ _ (same (amounts_of_trial E))).0 win);
    first = λ F from holds earlier.
        (equivalent-winnable g (minus D F) (minus A F) (same F)).1 (loss.first F from holds earlier);
  }
