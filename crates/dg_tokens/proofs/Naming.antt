-- A set of texts seen as the list of their bytes: whether a name is in it, what `insert` leaves, and the place of a name.
--   has_text        a text is in the set just if its bytes are among the names
--   insert_text     the bytes of the texts after `insert`
--   position_text   the text of these bytes stands where the name does
--   no_place        what is no name has no place
use Rattle.dg_tokens.proofs.Common.{◌≡◌, ℕ, suc, ◌+◌, ◌||◌, cond, not, length, Option, Some, None, List, [], ◌∷◌, ◌++◌, Bool, true, false, refl, sym, ap, ◌∙◌, map, string_bytes, arith, bytes_eq, nat_lt, String, string_eq, position, is_some, list_any, prefix_len, false≢true, nat_tests, length-map, map-append, Global, insert_key, IsName, AreNames, names_contain, names_inserted, place_of}
use Rattle.dg_tokens.proofs.NamesLaws.{bytes_eq-swaps, names_contain-no_name}

abbrev pub bytes_of : List (String Global) → List (List ℕ)
bytes_of keys = map string_bytes keys

names_contain-bytes_of : (keys : List (String Global)) (name : List ℕ)
    → list_any (λ key. bytes_eq name (string_bytes key)) keys ≡ names_contain (bytes_of keys) name
names_contain-bytes_of [] name = refl
names_contain-bytes_of (key ∷ keys) name =
    ap (λ found. bytes_eq name (string_bytes key) || found) (names_contain-bytes_of keys name)

pub has_text : (keys : List (String Global)) (key : String Global) (names : List (List ℕ)) (name : List ℕ)
    → bytes_of keys ≡ names → string_bytes key ≡ name → list_any (string_eq key) keys ≡ names_contain names name
has_text keys key names name e f = rw (← e, ← f) (names_contain-bytes_of keys (string_bytes key))

pub insert_text : (keys : List (String Global)) (key : String Global) (names : List (List ℕ)) (name : List ℕ)
    → bytes_of keys ≡ names → string_bytes key ≡ name
    → bytes_of (insert_key string_eq keys key) ≡ names_inserted names name
insert_text keys key names name e f =
    rw (← has_text keys key names name e f)
    (elim (list_any (string_eq key) keys) as
    (λ t. bytes_of (cond t keys (keys ++ key ∷ [])) ≡ cond t names (names ++ name ∷ [])) [
      | true ↦ e
      | false ↦
          map-append string_bytes keys (key ∷ []) ∙ ap (λ front. front ++ string_bytes key ∷ []) e
          ∙ ap (λ last. names ++ last ∷ []) f
    ])

prefix_len-text : (keys : List (String Global)) (name : List ℕ)
    → prefix_len (λ key. not (bytes_eq name (string_bytes key))) keys
    ≡ prefix_len (λ own. not (bytes_eq own name)) (bytes_of keys)
prefix_len-text [] name = refl
prefix_len-text (key ∷ keys) name =
    rw (bytes_eq-swaps name (string_bytes key))
    (ap (λ n. cond (not (bytes_eq (string_bytes key) name)) (1 + n) 0) (prefix_len-text keys name))

pub position_text : (keys : List (String Global)) (names : List (List ℕ)) (text name : List ℕ)
    → bytes_of keys ≡ names → text ≡ name
    → position (λ own. bytes_eq text (string_bytes own)) keys ≡ place_of names name
unfolding place_of
position_text keys names text name e same =
    let size : length (bytes_of keys) ≡ length keys = length-map keys _ in
    rw (← e, ← same, prefix_len-text keys text, size) refl

one_less : (n m : ℕ) → nat_lt (1 + n) (suc m) ≡ nat_lt n m
one_less n m = grind (arith, nat_tests)

-- whether the search for a name ends before the last
found : (names : List (List ℕ)) (name : List ℕ)
    → nat_lt (prefix_len (λ own. not (bytes_eq own name)) names) (length names) ≡ names_contain names name
found [] name = refl
found (x ∷ names) name =
    rw (bytes_eq-swaps name x)
    (elim (bytes_eq x name) as
    (λ t. nat_lt (cond (not t) (1 + prefix_len (λ own. not (bytes_eq own name)) names) 0) (suc (length names))
    ≡ (t || names_contain names name)) [
      | true ↦ grind (arith, nat_tests)
      | false ↦ one_less (prefix_len (λ own. not (bytes_eq own name)) names) (length names) ∙ found names name
    ])

some-if : (t : Bool) (n : ℕ) → is_some (cond t (Some n) None) ≡ t
some-if true n = refl
some-if false n = refl

names_contain-place_of : (names : List (List ℕ)) (name : List ℕ) → is_some (place_of names name) ≡ names_contain names name
unfolding place_of
names_contain-place_of names name =
    some-if (nat_lt (prefix_len (λ own. not (bytes_eq own name)) names) (length names)) _ ∙ found names name

none-from : (place : Option ℕ) → is_some place ≡ false → place ≡ None
none-from None e = refl
none-from (Some v) e = absurd (false≢true (sym e))

pub no_place : (names : List (List ℕ)) (name : List ℕ) → AreNames names → ¬ IsName name → place_of names name ≡ None
no_place names name are bad =
    none-from (place_of names name) (names_contain-place_of names name ∙ names_contain-no_name names name are.each bad)
