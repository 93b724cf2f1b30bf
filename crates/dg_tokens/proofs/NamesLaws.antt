-- Names of vertices.
--   IsUtf8-name             a name is UTF-8
--   AreNames-nil            no names are names
--   AreNames-push           a new name after names gives names
--   AreNames-added          names stay names if a name is added
--   names_contain-no_name   what is no name is not among names
--   name_at-place_of        the vertex of a name has that name
--   place_of-name_at        the name of a vertex has that vertex
--   bytes_eq-swaps          comparing bytes is symmetric
use Rattle.dg_tokens.proofs.Common.{◌≡◌, ℕ, zero, suc, ◌<◌, Bool, true, false, not, List, [], ◌∷◌, ◌++◌, length, Some, IsTrue, refl, sym, subst, ◌||◌, ◌∙◌, arith, inl, inr, All, bytes_eq, leb, ◌==◌, IsUtf8, AllByRecursion, prefix_len, false≢true, false_from_ne_true, and_parts, leb-true, lt-ltb, eqb-true, cond_both, or_cases, All-nil, All-cons, All-head, All-tail, All-push, position-Some, bytes_eq-Decides, IsUtf8-from_ascii, IsAscii-from_all, IsName, AreNames, is_byte_between, is_name_byte, names_contain, names_inserted, name_at, place_of}
use Rattle.std.specs.List.{IsDistinct}

below : (low high b : ℕ) → is_byte_between low high b ≡ true → high < 128 → b < 128
below low high b within few =
    omega (arith, leb-true b high (and_parts (leb low b) (leb b high) within).1)

ascii : (b : ℕ) → IsTrue (is_name_byte b) → b < 128
ascii b is =
    elim (or_cases (is_byte_between 48 57 b || is_byte_between 65 90 b || is_byte_between 97 122 b) (b == 95) is) [
      | inl letter ↦
          elim (or_cases (is_byte_between 48 57 b || is_byte_between 65 90 b) (is_byte_between 97 122 b) letter) [
            | inl capital ↦
                elim (or_cases (is_byte_between 48 57 b) (is_byte_between 65 90 b) capital) [
                  | inl digit ↦ below 48 57 b digit (omega arith)
                  | inr other ↦ below 65 90 b other (omega arith)
                ]
            | inr small ↦ below 97 122 b small (omega arith)
          ]
      | inr line ↦ omega (arith, eqb-true b 95 line)
    ]

all-ascii : (bytes : List ℕ) → All (λ b. IsTrue (is_name_byte b)) bytes → All (λ b. b < 128) bytes
all-ascii [] each = All-nil (λ b. b < 128)
all-ascii (b ∷ bytes) each =
    All-cons (λ b. b < 128) b bytes (ascii b (All-head (λ b. IsTrue (is_name_byte b)) b bytes each))
    (all-ascii bytes (All-tail (λ b. IsTrue (is_name_byte b)) b bytes each))

pub IsUtf8-name : (bytes : List ℕ) → IsName bytes → IsUtf8 bytes
IsUtf8-name bytes is =
    IsUtf8-from_ascii bytes (IsAscii-from_all bytes (all-ascii bytes is.each))

pub AreNames-nil : AreNames []
unfolding IsDistinct
AreNames-nil = record { each = All-nil IsName; different = tt }

bytes_eq-refl : (xs : List ℕ) → bytes_eq xs xs ≡ true
bytes_eq-refl xs = (bytes_eq-Decides xs xs).1 refl

pub bytes_eq-swap : (xs ys : List ℕ) → bytes_eq xs ys ≡ false → bytes_eq ys xs ≡ false
bytes_eq-swap xs ys differ = false_from_ne_true (bytes_eq ys xs)
    (λ same. let e : ys ≡ xs = (bytes_eq-Decides ys xs).0 same in
    false≢true (sym differ ∙ (bytes_eq-Decides xs ys).1 (sym e)))

pub bytes_eq-swaps : (xs ys : List ℕ) → bytes_eq xs ys ≡ bytes_eq ys xs
bytes_eq-swaps xs ys = go (bytes_eq xs ys) refl
  where
    go : (t : Bool) → bytes_eq xs ys ≡ t → bytes_eq xs ys ≡ bytes_eq ys xs
    go true e = e ∙ sym ((bytes_eq-Decides ys xs).1 (sym ((bytes_eq-Decides xs ys).0 e)))
    go false e = e ∙ sym (bytes_eq-swap xs ys e)

others-push : (x : List ℕ) (names : List (List ℕ)) (name : List ℕ)
    → AllByRecursion (λ y. bytes_eq x y ≡ false) names → bytes_eq x name ≡ false
    → AllByRecursion (λ y. bytes_eq x y ≡ false) (names ++ name ∷ [])
others-push x [] name others differ = (differ, tt)
others-push x (y ∷ names) name others differ = (others.0, others-push x names name others.1 differ)

pub or-false : (a b : Bool) → (a || b) ≡ false → (a ≡ false) × (b ≡ false)
or-false true b e = absurd (false≢true (sym e))
or-false false b e = (refl, e)

distinct-push : (names : List (List ℕ)) (name : List ℕ) → IsDistinct bytes_eq names → names_contain names name ≡ false
    → IsDistinct bytes_eq (names ++ name ∷ [])
unfolding IsDistinct
distinct-push [] name distinct new = (tt, tt)
distinct-push (x ∷ names) name distinct new =
    let parts = or-false (bytes_eq name x) (names_contain names name) new in
    (others-push x names name distinct.0 (bytes_eq-swap name x parts.0), distinct-push names name distinct.1 parts.1)

pub AreNames-push : (names : List (List ℕ)) (name : List ℕ) → AreNames names → IsName name → names_contain names name ≡ false
    → AreNames (names ++ name ∷ [])
AreNames-push names name are is new = record {
  each = All-push IsName names name are.each is;
  different = distinct-push names name are.different new;
}

pub AreNames-added : (names : List (List ℕ)) (name : List ℕ) → AreNames names → IsName name
    → AreNames (names_inserted names name)
AreNames-added names name are is =
    cond_both (names_contain names name) names (names ++ name ∷ []) AreNames (λ old. are)
    (λ new. AreNames-push names name are is new)

pub names_contain-no_name : (names : List (List ℕ)) (name : List ℕ) → All IsName names → ¬ IsName name →
    names_contain names name ≡ false
names_contain-no_name [] name each bad = refl
names_contain-no_name (x ∷ names) name each bad =
    false_from_ne_true (bytes_eq name x || names_contain names name)
    (λ found. elim (or_cases (bytes_eq name x) (names_contain names name) found) [
      | inl same ↦ bad (subst IsName (sym ((bytes_eq-Decides name x).0 same)) (All-head IsName x names each))
      | inr later ↦ false≢true (sym (names_contain-no_name names name (All-tail IsName x names each) bad) ∙ later)
    ])

pub name_at-place_of : (names : List (List ℕ)) (name : List ℕ) (v : ℕ) → place_of names name ≡ Some v
    → name_at names v ≡ name
unfolding place_of
name_at-place_of names name v placed =
    (bytes_eq-Decides (name_at names v) name).0 (position-Some (λ own. bytes_eq own name) names v [] placed).1

differ-at : (x : List ℕ) (names : List (List ℕ)) (v : ℕ) → AllByRecursion (λ y. bytes_eq x y ≡ false) names
    → v < length names → bytes_eq x (name_at names v) ≡ false
differ-at x [] v others below = absurd (omega arith)
differ-at x (y ∷ names) zero others below = others.0
differ-at x (y ∷ names) (suc v) others below = differ-at x names v others.1 (omega arith)

first-at : (names : List (List ℕ)) (v : ℕ) → IsDistinct bytes_eq names → v < length names
    → prefix_len (λ own. not (bytes_eq own (name_at names v))) names ≡ v
unfolding IsDistinct
first-at [] v distinct below = absurd (omega arith)
first-at (x ∷ names) zero distinct below = rw (bytes_eq-refl x) refl
first-at (x ∷ names) (suc v) distinct below =
    let rest : prefix_len (λ own. not (bytes_eq own (name_at names v))) names ≡ v =
    first-at names v distinct.1 (omega arith) in
    rw (differ-at x names v distinct.0 (omega arith)) (omega arith)

pub place_of-name_at : (names : List (List ℕ)) (v : ℕ) → AreNames names → v < length names
    → place_of names (name_at names v) ≡ Some v
unfolding place_of
place_of-name_at names v are below =
    rw (first-at names v are.different below, lt-ltb v (length names) below) refl
