-- Names have one fault at most, and none where they are names.
--   Stops names i     the names are names up to i, and no longer
--   stops-name        a text that is no name stops them, and so does
--   stops-twice       a name that stood before
--   stops-one         one place at which they stop
--   name-or-twice     a name is at fault in one way
use Rattle.dg_file.proofs.Common.{◌≡◌, ℕ, zero, suc, ◌<◌, true, false, List, [], ◌∷◌, length, take, Some, refl, sym, ◌∙◌, ⊎_elim, arith, bytes_eq, slice_get, AllByRecursion, false≢true, or_cases, take-take, take_all, All-get_or, slice_get_within, get_or_from_slice_get, IsName, AreNames, names_contain, IsNameFault, IsTwiceFault, bytes_eq-swap}
use Rattle.std.specs.List.{IsDistinct}
use Rattle.dg_file.proofs.OneContent.{found-once, first-once}

pub record Stops (names : List (List ℕ)) (i : ℕ) : Type 0 where
  pub before : AreNames (take i names)
  pub after : (j : ℕ) → i < j → ¬ AreNames (take j names)
  pub whole : ¬ AreNames names

slice_get-take : (names : List (List ℕ)) (i j : ℕ) → i < j → slice_get (take j names) i ≡ slice_get names i
slice_get-take [] i zero below = refl
slice_get-take [] i (suc j) below = refl
slice_get-take (x ∷ names) i zero below = absurd (omega arith)
slice_get-take (x ∷ names) zero (suc j) below = refl
slice_get-take (x ∷ names) (suc i) (suc j) below = slice_get-take names i j (omega arith)

is-name : (names : List (List ℕ)) (i : ℕ) (name : List ℕ) → AreNames names → slice_get names i ≡ Some name → IsName name
is-name names i name are there =
    rw (get_or_from_slice_get names i name [] there) at
    (All-get_or IsName names i [] (slice_get_within names i name there) are.each)

differs : (x : List ℕ) (names : List (List ℕ)) (i : ℕ) (name : List ℕ)
    → AllByRecursion (λ y. bytes_eq x y ≡ false) names → slice_get names i ≡ Some name → bytes_eq x name ≡ false
differs x [] i name others there = absurd (cc)
differs x (y ∷ names) zero name others there = let same : y ≡ name = cc in rw same at others.0
differs x (y ∷ names) (suc i) name others there = differs x names i name others.1 there

is-new : (names : List (List ℕ)) (i : ℕ) (name : List ℕ) → IsDistinct bytes_eq names → slice_get names i ≡ Some name
    → names_contain (take i names) name ≡ true → ⊥
unfolding IsDistinct
is-new [] i name distinct there old = absurd (cc)
is-new (x ∷ names) zero name distinct there old = false≢true old
is-new (x ∷ names) (suc i) name distinct there old =
    ⊎_elim
    (λ (same : bytes_eq name x ≡ true).
    false≢true (sym (bytes_eq-swap x name (differs x names i name distinct.0 there)) ∙ same))
    (λ (later : names_contain (take i names) name ≡ true). is-new names i name distinct.1 there later)
    (or_cases (bytes_eq name x) (names_contain (take i names) name) old)

module _ (names : List (List ℕ)) (i : ℕ) where
  stops : AreNames (take i names) → i < length names → ((j : ℕ) → i < j → ¬ AreNames (take j names)) → Stops names i
  stops before within after = record {
    before = before;
    after = after;
    whole = λ are. after (length names) within (rw (take_all (length names) names (omega arith)) are);
  }

  pub stops-name : IsNameFault names i → Stops names i
  stops-name fault =
      let name = fault.refused.0 in let there = fault.refused.1 in
      stops fault.before (slice_get_within names i name there)
      (λ j below are. fault.refused.2 (is-name (take j names) i name are (slice_get-take names i j below ∙ there)))

  pub stops-twice : IsTwiceFault names i → Stops names i
  stops-twice fault =
      let name = fault.refused.0 in let there = fault.refused.1 in
      stops fault.before (slice_get_within names i name there)
      (λ j below are. is-new (take j names) i name are.different (slice_get-take names i j below ∙ there)
      (rw (take-take i j names (omega arith)) fault.refused.2.1))

  pub name-or-twice : (j : ℕ) → i ≡ j → IsNameFault names i → IsTwiceFault names j → ⊥
  name-or-twice j same bad old =
      let name : bad.refused.0 ≡ old.refused.0 =
      found-once (slice_get names j) bad.refused.0 old.refused.0 (rw same at bad.refused.1) old.refused.1 in
      (rw name at bad.refused.2) old.refused.2.0

pub stops-one : (names : List (List ℕ)) (i j : ℕ) → Stops names i → Stops names j → i ≡ j
stops-one names i j a b =
    first-once i j (λ less. a.after j less b.before) (λ more. b.after i more a.before)
