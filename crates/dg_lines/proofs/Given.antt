-- The names that a word gives, and the set of the vertices that they name.
--   same_bytes       equality of byte lists is an equivalence
--   vertex_named     the place of a name is a vertex, and has that name
--   named_alone      a name that has a place is given rightly where it stands alone
--   none_given       so is no name
--   unnamed_among    names of which one has no place are not given rightly
--   one_set          the names that are given rightly have one set
--   other_name       the name of another vertex is another name
--   IsNamedNext names done name v == the vertex v of the names, all different, is named next
--   one_member       with one name more the set has one vertex more
--   HasTaken names given left set == `left` are the last of the names given, and the set has those before them
-- What a loop over the names does: none taken, one more, all, and where the next name refuses them.
use Rattle.dg_lines.proofs.Common.{◌≡◌, ◌≢◌, ℕ, ◌+◌, ◌*◌, ◌<◌, ◌==◌, ◌||◌, not, cond, Bool, true, false, List, [], ◌∷◌, ◌++◌, length, Some, None, refl, ap, sym, ◌∙◌, subst, arith, append_assoc, bytes_eq, IsTrue, All, IsEquivalence, bit_at, AllByRecursion, position_or_len, eqb-true, nat_tests, append-nil, All-nil, All-cons, All-head, All-tail, All-push, list_any-append, list_any_at, position-Some, IsDistinct-push, apart_from_distinct, bit_at-zero, bit_at-lt, same_from_bits, bytes_eq-Decides, names_contain, name_at, AreDistinctNames, IsSpelledSet}
use Rattle.std.specs.List.{IsDistinct}
use Rattle.dg_graph.specs.Sets.{in_set}
use Rattle.dg_tokens.specs.Names.{place_of}
use Rattle.dg_tokens.proofs.NamesLaws.{bytes_eq-swaps}

equal : (x y : List ℕ) → x ≡ y → bytes_eq x y ≡ true
equal x y e = (bytes_eq-Decides x y).1 e

is_equal : (x y : List ℕ) → bytes_eq x y ≡ true → x ≡ y
is_equal x y e = (bytes_eq-Decides x y).0 e

pub same_bytes : IsEquivalence bytes_eq
same_bytes = record {
  refl = λ x. equal x x refl;
  symm = bytes_eq-swaps;
  congr = λ x y z e. ap (λ w. bytes_eq w z) (is_equal x y e);
}

or_true : (t : Bool) → (t || true) ≡ true
or_true true = refl
or_true false = refl

or_false : (t : Bool) → (t || false) ≡ t
or_false true = refl
or_false false = refl

pub all_there : (P : List ℕ → Type 0) (done back : List (List ℕ)) (name : List ℕ) → All P (done ++ name ∷ back) → P name
all_there P [] back name each = All-head P name back each
all_there P (x ∷ done) back name each = all_there P done back name (All-tail P x (done ++ name ∷ back) each)

recursion_there : (P : List ℕ → Type 0) (done back : List (List ℕ)) (name : List ℕ)
    → AllByRecursion P (done ++ name ∷ back) → P name
recursion_there P [] back name each = each.0
recursion_there P (x ∷ done) back name each = recursion_there P done back name each.1

stands_before : (done back : List (List ℕ)) (name : List ℕ) → IsDistinct bytes_eq (done ++ name ∷ back)
    → names_contain done name ≡ false
unfolding IsDistinct
stands_before [] back name known = refl
stands_before (x ∷ done) back name known =
    let other : bytes_eq name x ≡ false =
    bytes_eq-swaps name x ∙ recursion_there (λ y. bytes_eq x y ≡ false) done back name known.0 in
    ap (λ t. t || names_contain done name) other ∙ stands_before done back name known.1

-- ---- names and their places
some_place : (names : List (List ℕ)) (name : List ℕ) → names_contain names name ≡ true
    → position_or_len (λ own. bytes_eq own name) names < length names
some_place [] name e = absurd (cc)
some_place (own ∷ names) name e =
    let n : ℕ = position_or_len (λ own. bytes_eq own name) names in
    let P : Bool → Type 0 = λ t. (t || names_contain names name) ≡ true → cond (not t) (1 + n) 0 < length (own ∷ names) in
    (elim (bytes_eq own name) as P [
      | true ↦ λ found. omega arith
      | false ↦ λ found. omega (arith, some_place names name found)
    ]) (ap (λ t. t || names_contain names name) (bytes_eq-swaps own name) ∙ e)

-- the first vertex is the lowest bit
unfoldable members : List (List ℕ) → List (List ℕ) → ℕ
members [] given = 0
members (name ∷ names) given = cond (names_contain given name) 1 0 + 2 * members names given

same_bit : (a b w : ℕ) → in_set a w ≡ in_set b w → bit_at a w ≡ bit_at b w
unfolding in_set
same_bit a b w same = grind (arith, nat_tests, bit_at-lt a w, bit_at-lt b w)

has_more : (done : List (List ℕ)) (name own : List ℕ)
    → names_contain (done ++ name ∷ []) own ≡ (names_contain done own || bytes_eq own name)
has_more done name own =
    list_any-append (bytes_eq own) done (name ∷ []) ∙ ap (λ t. names_contain done own || t) (or_false (bytes_eq own name))

-- the vertex v of the names, all different, that is named next
pub record IsNamedNext (names done : List (List ℕ)) (name : List ℕ) (v : ℕ) : Type 0 where
  pub distinct : IsDistinct bytes_eq names
  pub place : place_of names name ≡ Some v
  pub fresh : names_contain done name ≡ false

pub record HasTaken (names given left : List (List ℕ)) (set : ℕ) : Type 0 where
  pub done : List (List ℕ)
  pub whole : given ≡ done ++ left
  pub is_set : IsSpelledSet names done set

module _ (names : List (List ℕ)) where
  abbrev IsNamed : List ℕ → Type 0
  IsNamed name = IsTrue (names_contain names name)

  pub vertex_named : (name : List ℕ) (v : ℕ) → place_of names name ≡ Some v
      → (v < length names) × (name_at names v ≡ name)
  unfolding place_of
  vertex_named name v e =
      let found = position-Some (λ own. bytes_eq own name) names v [] e in
      (found.0, is_equal (name_at names v) name found.1)

  is_named : (name : List ℕ) (v : ℕ) → place_of names name ≡ Some v → names_contain names name ≡ true
  is_named name v e =
      let found = vertex_named name v e in
      list_any_at (bytes_eq name) names v [] found.0 (equal name (name_at names v) (sym found.1))

  not_named : (name : List ℕ) → place_of names name ≡ None → names_contain names name ≡ true → ⊥
  unfolding place_of
  not_named name e found =
      let less = some_place names name found in
      let n : ℕ = position_or_len (λ own. bytes_eq own name) names in
      let there : Rattle.std.proofs.Common.nat_lt n (length names) ≡ true = grind (arith, nat_tests) in
      let no : Some n ≡ None = sym (ap (λ t. cond t (Some n) None) there) ∙ e in
      cc

  pub none_given : AreDistinctNames names []
  unfolding IsDistinct
  none_given = record { each = All-nil IsNamed; different = tt }

  pub named_alone : (name : List ℕ) (v : ℕ) → place_of names name ≡ Some v → AreDistinctNames names (name ∷ [])
  unfolding IsDistinct
  named_alone name v e =
      record { each = All-cons IsNamed name [] (is_named name v e) (All-nil IsNamed); different = (tt, tt) }

  pub unnamed_among : (done back : List (List ℕ)) (name : List ℕ) → place_of names name ≡ None
      → AreDistinctNames names (done ++ name ∷ back) → ⊥
  unnamed_among done back name e known = not_named name e (all_there IsNamed done back name known.each)

  twice_among : (done back : List (List ℕ)) (name : List ℕ) → names_contain done name ≡ true
      → AreDistinctNames names (done ++ name ∷ back) → ⊥
  twice_among done back name there known =
      let no : true ≡ false = sym there ∙ stands_before done back name known.different in cc

  -- ---- sets of vertices
  pub one_set : (given : List (List ℕ)) (a b : ℕ) → IsSpelledSet names given a → IsSpelledSet names given b → a ≡ b
  one_set given a b first second = same_from_bits a b (λ v. same_bit a b v (go v (in_set a v) (in_set b v) refl refl))
    where
      member : (v : ℕ) → v < length names → in_set a v ≡ in_set b v
      member v less = first.members v less ∙ sym (second.members v less)

      go : (v : ℕ) (s t : Bool) → in_set a v ≡ s → in_set b v ≡ t → in_set a v ≡ in_set b v
      go v true t e f = member v (first.within v e)
      go v false true e f = member v (second.within v f)
      go v false false e f = e ∙ sym f

  pub no_members : IsSpelledSet names [] 0
  unfolding in_set
  no_members = record {
    are_given = none_given;
    members = λ v less. ap (λ k. k == 1) (bit_at-zero v);
    within = λ v e. absurd (let no : false ≡ true = sym (ap (λ k. k == 1) (bit_at-zero v)) ∙ e in cc);
  }

  pub other_name : (name : List ℕ) (v w : ℕ) → IsDistinct bytes_eq names → v < length names → w < length names
      → name_at names v ≡ name → w ≢ v → bytes_eq (name_at names w) name ≡ false
  other_name name v w distinct inside also named other = go (Rattle.std.proofs.Common.nat_lt w v) refl
    where
      go : (t : Bool) → Rattle.std.proofs.Common.nat_lt w v ≡ t → bytes_eq (name_at names w) name ≡ false
      go true before =
          let less : w < v = grind (arith, nat_tests) in
          ap (bytes_eq (name_at names w)) (sym named) ∙ apart_from_distinct bytes_eq names w v [] distinct less inside
      go false after =
          let less : v < w = grind (arith, nat_tests) in
          bytes_eq-swaps (name_at names w) name ∙ ap (λ own. bytes_eq own (name_at names w)) (sym named)
          ∙ apart_from_distinct bytes_eq names v w [] distinct less also

  pub is_next : (done : List (List ℕ)) (name : List ℕ) (set v : ℕ) → IsDistinct bytes_eq names
      → place_of names name ≡ Some v → IsSpelledSet names done set → in_set set v ≡ false → IsNamedNext names done name v
  is_next done name set v distinct place known absent =
      let found = vertex_named name v place in
      record {
        distinct = distinct;
        place = place;
        fresh = ap (names_contain done) (sym found.1) ∙ sym (known.members v found.0) ∙ absent;
      }

  pub one_member : (done : List (List ℕ)) (name : List ℕ) (set more v : ℕ) → IsNamedNext names done name v
      → IsSpelledSet names done set → in_set more v ≡ true
      → ((w : ℕ) → w ≢ v → in_set more w ≡ in_set set w) → IsSpelledSet names (done ++ name ∷ []) more
  one_member done name set more v next known here others = record {
    are_given = record {
      each = All-push IsNamed done name known.are_given.each (is_named name v next.place);
      different = IsDistinct-push same_bytes done name known.are_given.different next.fresh;
    };
    members = λ w less. member w less (w == v) refl;
    within = λ w e. inside w e (w == v) refl;
  }
    where
      found : (v < length names) × (name_at names v ≡ name)
      found = vertex_named name v next.place

      at_v : in_set more v ≡ names_contain (done ++ name ∷ []) (name_at names v)
      at_v =
          here ∙ sym (has_more done name (name_at names v)
          ∙ ap (λ t. names_contain done (name_at names v) || t) (equal (name_at names v) name found.1)
          ∙ or_true (names_contain done (name_at names v)))

      member : (w : ℕ) → w < length names → (t : Bool) → (w == v) ≡ t
          → in_set more w ≡ names_contain (done ++ name ∷ []) (name_at names w)
      member w less true same =
          subst (λ n. in_set more n ≡ names_contain (done ++ name ∷ []) (name_at names n)) (sym (eqb-true w v same)) at_v
      member w less false differs =
          let other : w ≢ v = grind (arith, nat_tests) in
          others w other ∙ known.members w less ∙ sym (has_more done name (name_at names w)
          ∙ ap (λ t. names_contain done (name_at names w) || t) (other_name name v w next.distinct found.0 less found.1 other)
          ∙ or_false (names_contain done (name_at names w)))

      inside : (w : ℕ) → in_set more w ≡ true → (t : Bool) → (w == v) ≡ t → w < length names
      inside w e true same = let is : w ≡ v = eqb-true w v same in omega (arith, found.0)
      inside w e false differs =
          let other : w ≢ v = grind (arith, nat_tests) in known.within w (sym (others w other) ∙ e)

  -- ---- the loop
  unfoldable pub none_taken : (given : List (List ℕ)) → HasTaken names given given 0
  none_taken given = record { done = []; whole = refl; is_set = no_members }

module _ (names given left : List (List ℕ)) (set : ℕ) (known : HasTaken names given left set) where
  pub all_taken : left ≡ [] → IsSpelledSet names given set
  all_taken e =
      let same : known.done ≡ given = sym (known.whole ∙ ap (λ rest. known.done ++ rest) e ∙ append-nil known.done) in
      subst (λ names_given. IsSpelledSet names names_given set) same known.is_set

module _ (names given left back : List (List ℕ)) (name : List ℕ) (set : ℕ) (e : left ≡ name ∷ back)
    (known : HasTaken names given left set) where
  pub cut_off : given ≡ known.done ++ name ∷ back
  cut_off = known.whole ∙ ap (λ rest. known.done ++ rest) e

  unfoldable pub one_taken : (more v : ℕ) → IsDistinct bytes_eq names → place_of names name ≡ Some v
      → in_set set v ≡ false → in_set more v ≡ true
      → ((w : ℕ) → w ≢ v → in_set more w ≡ in_set set w) → HasTaken names given back more
  one_taken more v distinct place absent here others = record {
    done = known.done ++ name ∷ [];
    whole = cut_off ∙ sym (append_assoc known.done (name ∷ []) back);
    is_set =
        one_member names known.done name set more v
        (is_next names known.done name set v distinct place known.is_set absent) known.is_set here others;
  }

  pub unnamed_taken : place_of names name ≡ None → AreDistinctNames names given → ⊥
  unnamed_taken place good = unnamed_among names known.done back name place (subst (AreDistinctNames names) cut_off good)

  pub twice_taken : (v : ℕ) → place_of names name ≡ Some v → in_set set v ≡ true → AreDistinctNames names given → ⊥
  twice_taken v place member good =
      let found = vertex_named names name v place in
      let there : names_contain known.done name ≡ true =
      ap (names_contain known.done) (sym found.1) ∙ sym (known.is_set.members v found.0) ∙ member in
      twice_among names known.done back name there (subst (AreDistinctNames names) cut_off good)
