-- The numbering by the first amount is one of all trials, and so tells how many there are.
--   numbered         all trials have their numbers in order, each once
--   counted_before   as many trials as its number says come before each
--   limits_count     within the limits there are as many as the numbering gives
--   limits_trial     within the limits a number below that of all trials is the number of one
--   past_above       past the limits of a degree are all above it
--   past_within      no rank test is past the limits and within them
use Rattle.dg_rank.proofs.Common.{◌≡◌, ℕ, zero, suc, ◌+◌, ◌-◌, ◌<◌, ◌≤◌, List, [], ◌∷◌, length, arith, refl, sym, ap, subst, ◌∙◌, ⊎_elim, ◌⊎◌, inl, inr, slice_index, sum, cases_lt, cond_below, cond_above, IsTrial, IsTrialNumbering, AreTrialsCounted, AnyTrial, IsTrialBefore, MAX_TRIALS, HasTrials, IsPastLimits, IsTestable}
use Rattle.dg_rank.specs.Numbering.{count_with_place, trial_count, raised_first, with_trial_place, nth_trial}
use Rattle.dg_rank.proofs.Lists.{sum_cons, no_places, trial_cons, trial_tail, before_cons}
use Rattle.dg_rank.proofs.CountedOnce.{lower_number, counted_once}
use Rattle.dg_rank.proofs.Pascal.{count_grows_by_degree}

raised_trial : (n k : ℕ) (E : List ℕ) → IsTrial (suc n) k E → IsTrial (suc n) (suc k) (raised_first E)
unfolding raised_first
raised_trial n k [] trial = absurd (omega (arith, trial.places))
raised_trial n k (a ∷ E) trial = record {
  places = trial.places;
  amount = omega (arith, sum_cons (suc a) E, sum_cons a E, trial.amount);
}

-- one more at the first place of both
more_before : (a b : ℕ) (E F : List ℕ) (p : ℕ) → ((u : ℕ) → u < p → slice_index (a ∷ E) u ≡ slice_index (b ∷ F) u) →
    slice_index (a ∷ E) p < slice_index (b ∷ F) p → IsTrialBefore (suc a ∷ E) (suc b ∷ F)
more_before a b E F zero same smaller =
    record { place = 0; same = λ u low. absurd (omega arith); smaller = omega (arith, smaller) }
more_before a b E F (suc p) same smaller = record { place = suc p; same = same_at; smaller = smaller } where
  same_at : (u : ℕ) → u < suc p → slice_index (suc a ∷ E) u ≡ slice_index (suc b ∷ F) u
  same_at zero low = ap suc (same 0 (omega arith))
  same_at (suc u) low = same (suc u) low

raised_before : (E F : List ℕ) → 0 < length E → 0 < length F → IsTrialBefore E F → IsTrialBefore (raised_first E) (raised_first F)
unfolding raised_first
raised_before [] F some other before = absurd (omega arith)
raised_before (a ∷ E) [] some other before = absurd (omega arith)
raised_before (a ∷ E) (b ∷ F) some other before = more_before a b E F before.place before.same before.smaller

none_before : (E F : List ℕ) → 0 < length F → IsTrialBefore (0 ∷ E) (raised_first F)
unfolding raised_first
none_before E [] some = absurd (omega arith)
none_before E (b ∷ F) some = record { place = 0; same = λ u low. absurd (omega arith); smaller = omega arith }

-- with one place more and no dollar, the first amount is 0
broke_numbered : (n c : ℕ) (f h : ℕ → List ℕ) → IsTrialNumbering n 0 AnyTrial c f → ((i : ℕ) → h i ≡ 0 ∷ f i) →
    IsTrialNumbering (suc n) 0 AnyTrial c h
broke_numbered n c f h numbers is = record {
  each = λ i low. (
    subst (λ (E : List ℕ). IsTrial (suc n) 0 E) (sym (is i))
        (trial_cons n 0 0 0 (f i) (numbers.each i low).0 refl),
    tt,
  );
  all = λ E trial any. all E trial;
  ascending = λ i j less low.
      rw (is i, is j) (before_cons 0 (f i) (f j) (numbers.ascending i j less low));
} where
  all : (E : List ℕ) → IsTrial (suc n) 0 E → (i : ℕ) × (i < c) × (h i ≡ E)
  all [] trial = absurd (omega (arith, trial.places))
  all (zero ∷ E) trial =
      let (i, low, found) = numbers.all E (trial_tail n 0 0 0 E trial refl) tt in
      (i, low, is i ∙ ap (λ (F : List ℕ). 0 ∷ F) found)
  all (suc a ∷ E) trial = absurd (omega (arith, trial.amount, sum_cons (suc a) E))

-- a number is below another, or so much above it
parts : (c i : ℕ) → (i < c) ⊎ ((j : ℕ) × (c + j ≡ i))
parts c i = ⊎_elim (λ (low : i < c). inl low) (λ (high : c ≤ i). inr (i - c, omega arith)) (cases_lt i c)

-- h numbers first those that hold nothing at the first place, by f, and then those that hold something there, by g
record IsJoined (c : ℕ) (f g h : ℕ → List ℕ) : Type 0 where
  low : (i : ℕ) → i < c → h i ≡ 0 ∷ f i
  high : (i : ℕ) → h (c + i) ≡ raised_first (g i)

joined_each : (n k c d : ℕ) (f g h : ℕ → List ℕ) → IsTrialNumbering n (suc k) AnyTrial c f →
    IsTrialNumbering (suc n) k AnyTrial d g →
    IsJoined c f g h → (i : ℕ) → i < c + d → IsTrial (suc n) (suc k) (h i)
joined_each n k c d f g h first second whole i small = ⊎_elim
    (λ (low : i < c). rw (whole.low i low) (trial_cons n (suc k) 0 (suc k) (f i) (first.each i low).0 (omega arith)))
    (λ (high : (j : ℕ) × (c + j ≡ i)).
    let is : h i ≡ raised_first (g high.0) = ap h (sym high.1) ∙ whole.high high.0 in
    rw is (raised_trial n k (g high.0) (second.each high.0 (omega (arith, high.1))).0))
    (parts c i)

joined_all : (n k c d : ℕ) (f g h : ℕ → List ℕ) → IsTrialNumbering n (suc k) AnyTrial c f →
    IsTrialNumbering (suc n) k AnyTrial d g →
    IsJoined c f g h → (E : List ℕ) → IsTrial (suc n) (suc k) E → (i : ℕ) × (i < c + d) × (h i ≡ E)
unfolding raised_first
joined_all n k c d f g h first second whole [] trial = absurd (omega (arith, trial.places))
joined_all n k c d f g h first second whole (zero ∷ E) trial =
    let (i, low, found) = first.all E (trial_tail n (suc k) 0 (suc k) E trial (omega arith)) tt in
    (i, omega arith, whole.low i low ∙ ap (λ (F : List ℕ). 0 ∷ F) found)
joined_all n k c d f g h first second whole (suc a ∷ E) trial =
    let less : IsTrial (suc n) k (a ∷ E) =
    record { places = trial.places; amount = omega (arith, trial.amount, sum_cons (suc a) E, sum_cons a E) } in
    let (i, low, found) = second.all (a ∷ E) less tt in
    (c + i, omega arith, whole.high i ∙ ap raised_first found)

joined_ascending : (n k c d : ℕ) (f g h : ℕ → List ℕ) → IsTrialNumbering n (suc k) AnyTrial c f →
    IsTrialNumbering (suc n) k AnyTrial d g →
    IsJoined c f g h → (i j : ℕ) → i < j → j < c + d → IsTrialBefore (h i) (h j)
joined_ascending n k c d f g h first second whole i j less small = ⊎_elim
    (λ (low : j < c). rw (whole.low i (omega arith), whole.low j low)
    (before_cons 0 (f i) (f j) (first.ascending i j less low)))
    (λ (high : (m : ℕ) × (c + m ≡ j)).
    let below : high.0 < d = omega (arith, high.1) in
    let is : h j ≡ raised_first (g high.0) = ap h (sym high.1) ∙ whole.high high.0 in
    rw is (⊎_elim
    (λ (low : i < c). rw (whole.low i low)
    (none_before (f i) (g high.0) (omega (arith, (second.each high.0 below).0.places))))
    (λ (other : (l : ℕ) × (c + l ≡ i)).
    let lower : other.0 < high.0 = omega (arith, high.1, other.1) in
    let here : h i ≡ raised_first (g other.0) = ap h (sym other.1) ∙ whole.high other.0 in
    rw here (raised_before (g other.0) (g high.0)
    (omega (arith, (second.each other.0 (omega arith)).0.places))
    (omega (arith, (second.each high.0 below).0.places))
    (second.ascending other.0 high.0 lower below)))
    (parts c i)))
    (parts c j)

place_numbered : (n : ℕ) (c : ℕ → ℕ) (f : ℕ → ℕ → List ℕ) → ((k : ℕ) → IsTrialNumbering n k AnyTrial (c k) (f k)) →
    (k : ℕ) → IsTrialNumbering (suc n) k AnyTrial (count_with_place c k) (with_trial_place c f k)
unfolding count_with_place with_trial_place
place_numbered n c f numbers zero = broke_numbered n (c 0) (f 0) (with_trial_place c f 0) (numbers 0) (λ i. refl)
place_numbered n c f numbers (suc k) =
    let first : IsTrialNumbering n (suc k) AnyTrial (c (suc k)) (f (suc k)) = numbers (suc k) in
    let second : IsTrialNumbering (suc n) k AnyTrial (count_with_place c k) (with_trial_place c f k) =
    place_numbered n c f numbers k in
    let whole : IsJoined (c (suc k)) (f (suc k)) (with_trial_place c f k) (with_trial_place c f (suc k)) = record {
      low = λ i low. sym (cond_below i (c (suc k)) (0 ∷ f (suc k) i) (raised_first (with_trial_place c f k (i - c (suc k)))) low);
      high = λ i. sym (cond_above (c (suc k) + i) (c (suc k)) (0 ∷ f (suc k) (c (suc k) + i)) _
          (raised_first (with_trial_place c f k i))
          (omega arith) (ap (λ (j : ℕ). raised_first (with_trial_place c f k j)) (omega arith)));
    } in
    record {
      each = λ i low. (joined_each n k _ _ _ _ _ first second whole i low, tt);
      all = λ E trial any. joined_all n k _ _ _ _ _ first second whole E trial;
      ascending = joined_ascending n k _ _ _ _ _ first second whole;
    }

nowhere_numbered : (k : ℕ) → IsTrialNumbering 0 k AnyTrial (trial_count 0 k) (nth_trial 0 k)
unfolding trial_count nth_trial
nowhere_numbered zero = record {
  each = λ i low. (record { places = refl; amount = refl }, tt);
  all = λ E trial any. (0, omega arith, sym (no_places E trial.places));
  ascending = λ i j less low. absurd (omega arith);
}
nowhere_numbered (suc k) = record {
  each = λ i low. absurd (omega arith);
  all = λ E trial any. absurd (let none : sum E ≡ 0 = ap sum (no_places E trial.places) in omega (arith, trial.amount));
  ascending = λ i j less low. absurd (omega arith);
}

pub numbered : (n k : ℕ) → IsTrialNumbering n k AnyTrial (trial_count n k) (nth_trial n k)
unfolding trial_count nth_trial
numbered zero k = nowhere_numbered k
numbered (suc n) k = place_numbered n (trial_count n) (nth_trial n) (numbered n) k

pub counted_before : (n k i : ℕ) → i < trial_count n k → AreTrialsCounted n k (λ E. IsTrialBefore E (nth_trial n k i)) i
counted_before n k i small = (
  nth_trial n k,
  record {
    each = λ j low. ((all.each j (omega arith)).0, all.ascending j i low small);
    all = λ E trial before.
        let (j, within, found) = all.all E trial tt in (
          j,
          lower_number n k AnyTrial (trial_count n k) (nth_trial n k) j i all within
              (subst (λ (F : List ℕ). IsTrialBefore F (nth_trial n k i)) (sym found) before),
          found,
        );
    ascending = λ j l less small_l. all.ascending j l less (omega arith);
  },
) where
  all : IsTrialNumbering n k AnyTrial (trial_count n k) (nth_trial n k)
  all = numbered n k

pub limits_count : (n k c : ℕ) → HasTrials n k c → c ≡ trial_count n k
limits_count n k c limits = counted_once n k _ c (trial_count n k) limits.counted (nth_trial n k, numbered n k)

pub limits_trial : (n k c i : ℕ) → HasTrials n k c → i < c → IsTrial n k (nth_trial n k i)
limits_trial n k c i limits small =
    let all : c ≡ trial_count n k = limits_count n k c limits in
    ((numbered n k).each i (omega arith)).0

more_trials : (n j k : ℕ) → 0 < n → j ≤ k → (c : ℕ) × (MAX_TRIALS < c) × AreTrialsCounted n j AnyTrial c →
    (c : ℕ) × (MAX_TRIALS < c) × AreTrialsCounted n k AnyTrial c
more_trials n j k some less (c, many, counted) =
    let all : c ≡ trial_count n j = counted_once n j _ c (trial_count n j) counted (nth_trial n j, numbered n j) in
    (trial_count n k, omega (arith, count_grows_by_degree n j k some less), (nth_trial n k, numbered n k))

pub past_above : (n j k : ℕ) → 0 < n → j ≤ k → IsPastLimits n j → IsPastLimits n k
past_above n j k some less (inl none) = inl none
past_above n j k some less (inr (inl much)) = inr (inl much)
past_above n j k some less (inr (inr (inl high))) = inr (inr (inl (omega arith)))
past_above n j k some less (inr (inr (inr many))) = inr (inr (inr (more_trials n j k some less many)))

pub past_within : (n k : ℕ) → IsPastLimits n k → IsTestable n k → ⊥
past_within n k (inl none) (c, within) = omega (arith, none, within.some)
past_within n k (inr (inl many)) (c, within) = omega (arith, many, within.few)
past_within n k (inr (inr (inl large))) (c, within) = omega (arith, large, within.small)
past_within n k (inr (inr (inr (d, more, counted)))) (c, within) =
    omega (arith, more, within.limit, counted_once n k AnyTrial d c counted within.counted)
