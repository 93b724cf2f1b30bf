-- Scripts that words spell: the numbers of their items, and the number that each name is given.
--   IsEntryText text      == the text is the decimal of an entry of a script
--   IsSpelled text o      == o is the entry whose decimal the text is, where there is one
--   told_numbers          the texts of a list of such numbers are all decimals of entries
--   one_list              and of no other list
--   AreRead names given texts entries flag   == the entries hold, at each vertex, the number given for its
--                                               name; and the flag tells whether all texts are those of
--                                               entries
--   HasPairs names all left set entries flag == `left` are the last of the items, and so much is read of
--                                               those before
-- What a loop over the pairs does: none read, one more, all; and what it comes to.
use Rattle.dg_lines.proofs.Common.{◌≡◌, ◌≢◌, ℕ, ◌+◌, ◌<◌, ◌≤◌, ◌==◌, ◌&&◌, cond, Bool, true, false, ℤ, pos, negsuc, neg_ℤ, unsigned_abs, List, [], ◌∷◌, ◌++◌, length, take, map, Option, Some, None, refl, ap, sym, ◌∙◌, subst, arith, append_assoc, FitsSigned, w64, MatchOption, Bor, bytes_eq, All, is_some, replicate, signed_decimal, slice_index_or, slice_set, option_copied, eqb-true, nat_tests, signed_decimal_injective, ints, append-nil, map-append, length-append, length-take, length-set, get_or-set_same, get_or-set_other, get_or_past, get_or-take, get_or-replicate, length-replicate, All-nil, All-cons, All-head, All-tail, All-push, Vector, IsScriptVector, HoldsNumbers, MAX_ENTRY, names_contain, name_at, IsNumeralWithin, AreDistinctNames, item_name, item_number, IsSpelledScript}
use Rattle.std.proofs.Common.{◌≤ℤ◌}
use Rattle.std.specs.Prelude.{unwrap_or}
use Rattle.std.specs.List.{IsDistinct}
use Rattle.dg_graph.specs.Sets.{in_set}
use Rattle.dg_tokens.specs.Names.{place_of}
use Rattle.dg_tokens.proofs.NamesLaws.{or-false}
use Rattle.dg_lines.specs.Cuts.{after}
use Rattle.dg_lines.specs.CommandWords.{number_spelled_for}
use Rattle.dg_lines.proofs.Given.{same_bytes, vertex_named, IsNamedNext, is_next, other_name, HasTaken, none_taken, one_taken, all_there}

abbrev pub IsEntryText : List ℕ → Type 0
IsEntryText text = IsNumeralWithin (neg_ℤ (pos MAX_ENTRY)) (pos MAX_ENTRY) text

abbrev pub IsSpelled : List ℕ → Option ℤ → Type 0
IsSpelled text o = MatchOption o (IsEntryText text → ⊥) (λ z. (text ≡ signed_decimal z) × (unsigned_abs z ≤ MAX_ENTRY))

abbrev IsSmall : ℤ → Type 0
IsSmall x = unsigned_abs x ≤ MAX_ENTRY

-- ---- texts and entries
small_sides : (z : ℤ) → unsigned_abs z ≤ 1000000000 → (neg_ℤ (pos 1000000000) ≤ℤ z) × (z ≤ℤ pos 1000000000)
small_sides z small = (omega (arith, ints), omega (arith, ints))

small_fits : (z : ℤ) → unsigned_abs z ≤ 1000000000 → FitsSigned w64 z
small_fits (pos n) small = record { sfits = omega arith }
small_fits (negsuc n) small = record { sfits = omega arith }

pub told_numbers : (texts : List (List ℕ)) (numbers : List ℤ) → texts ≡ map signed_decimal numbers → All IsSmall numbers
    → All IsEntryText texts
told_numbers texts numbers e small = subst (All IsEntryText) (sym e) (go numbers small)
  where
    go : (xs : List ℤ) → All IsSmall xs → All IsEntryText (map signed_decimal xs)
    go [] within = All-nil IsEntryText
    go (x ∷ xs) within =
        let sides = small_sides x (All-head IsSmall x xs within) in
        All-cons IsEntryText (signed_decimal x) (map signed_decimal xs)
        (record { number = x; spelled = refl; not_less = sides.0; not_more = sides.1 })
        (go xs (All-tail IsSmall x xs within))

pub one_list : (xs ys : List ℤ) → map signed_decimal xs ≡ map signed_decimal ys → All IsSmall xs → All IsSmall ys
    → xs ≡ ys
one_list [] [] e first second = refl
one_list [] (y ∷ ys) e first second = absurd (cc)
one_list (x ∷ xs) [] e first second = absurd (cc)
one_list (x ∷ xs) (y ∷ ys) e first second =
    let heads : signed_decimal x ≡ signed_decimal y = cc in
    let tails : map signed_decimal xs ≡ map signed_decimal ys = cc in
    let small = small_fits x (All-head IsSmall x xs first) in
    let also = small_fits y (All-head IsSmall y ys second) in
    let head : x ≡ y = signed_decimal_injective x y small.sfits also.sfits heads in
    let tail : xs ≡ ys = one_list xs ys tails (All-tail IsSmall x xs first) (All-tail IsSmall y ys second) in
    cc

-- ---- the number that a name is given
either_within : (t : Bool) (x y : ℤ) → IsSmall x → IsSmall y → IsSmall (cond t x y)
either_within true x y first second = first
either_within false x y first second = second

given_within : (given : List (List ℕ)) (numbers : List ℤ) (name : List ℕ) → All IsSmall numbers
    → IsSmall (number_spelled_for given numbers name)
unfolding number_spelled_for
given_within [] numbers name within = omega arith
given_within (first ∷ given) [] name within = omega arith
given_within (first ∷ given) (x ∷ numbers) name within =
    either_within (bytes_eq first name) x (number_spelled_for given numbers name)
    (All-head IsSmall x numbers within) (given_within given numbers name (All-tail IsSmall x numbers within))

none_is_given : (numbers : List ℤ) (name : List ℕ) → number_spelled_for [] numbers name ≡ pos 0
unfolding number_spelled_for
none_is_given numbers name = refl

module _ (name own : List ℕ) (x : ℤ) where
  given_before : (done : List (List ℕ)) (numbers : List ℤ) → length done ≡ length numbers → bytes_eq name own ≡ false
      → number_spelled_for (done ++ name ∷ []) (numbers ++ x ∷ []) own ≡ number_spelled_for done numbers own
  unfolding number_spelled_for
  given_before [] [] count other = ap (λ t. cond t x (pos 0)) other
  given_before [] (y ∷ numbers) count other = absurd (omega arith)
  given_before (first ∷ done) [] count other = absurd (omega arith)
  given_before (first ∷ done) (y ∷ numbers) count other =
      ap (λ rest. cond (bytes_eq first own) y rest) (given_before done numbers (omega arith) other)

  given_last : (done : List (List ℕ)) (numbers : List ℤ) → length done ≡ length numbers → names_contain done own ≡ false
      → bytes_eq name own ≡ true → number_spelled_for (done ++ name ∷ []) (numbers ++ x ∷ []) own ≡ x
  unfolding number_spelled_for
  given_last [] [] count fresh same = ap (λ t. cond t x (pos 0)) same
  given_last [] (y ∷ numbers) count fresh same = absurd (omega arith)
  given_last (first ∷ done) [] count fresh same = absurd (omega arith)
  given_last (first ∷ done) (y ∷ numbers) count fresh same =
      let (differs, later) = or-false (bytes_eq own first) (names_contain done own) fresh in
      ap (λ t. cond t y (number_spelled_for (done ++ name ∷ []) (numbers ++ x ∷ []) own))
      (same_bytes.symm first own ∙ differs) ∙ given_last done numbers (omega arith) later same

-- ---- the loop
pub record AreRead (names given texts : List (List ℕ)) (entries : List ℤ) (flag : Bool) : Type 0 where
  pub numbers : List ℤ
  pub count : length given ≡ length numbers
  pub size : length entries ≡ 16
  pub entered : (v : ℕ) → v < length names
      → slice_index_or entries v (pos 0) ≡ number_spelled_for given numbers (name_at names v)
  pub within : All IsSmall numbers
  pub spelled : flag ≡ true → texts ≡ map signed_decimal numbers
  pub unspelled : flag ≡ false → All IsEntryText texts → ⊥

pub record HasPairs (names all left : List (List ℕ)) (set : ℕ) (entries : List ℤ) (flag : Bool) : Type 0 where
  pub taken : HasTaken names (map item_name all) (map item_name left) set
  pub told : List (List ℕ)
  pub whole : map item_number all ≡ told ++ map item_number left
  pub read : AreRead names taken.done told entries flag

pub no_pairs : (names all : List (List ℕ)) → HasPairs names all all 0 (replicate 16 (pos 0)) true
unfolding none_taken
no_pairs names all = record {
  taken = none_taken names (map item_name all);
  told = [];
  whole = refl;
  read = record {
    numbers = [];
    count = refl;
    size = length-replicate 16 (pos 0);
    entered = λ v less. zeros v ∙ sym (none_is_given [] (name_at names v));
    within = All-nil IsSmall;
    spelled = λ e. refl;
    unspelled = λ e. absurd (cc);
  };
}
  where
    zeros : (v : ℕ) → slice_index_or (replicate 16 (pos 0)) v (pos 0) ≡ pos 0
    zeros v = go (Rattle.std.proofs.Common.nat_lt v 16) refl
      where
        go : (t : Bool) → Rattle.std.proofs.Common.nat_lt v 16 ≡ t
            → slice_index_or (replicate 16 (pos 0)) v (pos 0) ≡ pos 0
        go true less = get_or-replicate 16 v (pos 0) (pos 0) (grind (arith, nat_tests))
        go false more =
            let past : 16 ≤ v = grind (arith, nat_tests) in
            get_or_past (replicate 16 (pos 0)) v (pos 0) (omega (arith, length-replicate 16 (pos 0)))

all_front : (P : List ℕ → Type 0) (done back : List (List ℕ)) → All P (done ++ back) → All P done
all_front P [] back each = All-nil P
all_front P (x ∷ done) back each =
    All-cons P x done (All-head P x (done ++ back) each) (all_front P done back (All-tail P x (done ++ back) each))

module _ (text : List ℕ) where
  value_small : (o : Option ℤ) → IsSpelled text o → IsSmall (unwrap_or o (pos 0))
  value_small None is = omega arith
  value_small (Some z) is = is.1

  more_spelled : (told : List (List ℕ)) (numbers : List ℤ) (o : Option ℤ) (flag : Bool) → IsSpelled text o
      → (flag ≡ true → told ≡ map signed_decimal numbers) → (flag && is_some o) ≡ true
      → told ++ text ∷ [] ≡ map signed_decimal (numbers ++ unwrap_or o (pos 0) ∷ [])
  more_spelled told numbers o false is known e = absurd (cc)
  more_spelled told numbers None true is known e = absurd (cc)
  more_spelled told numbers (Some z) true is known e =
      ap (λ front. front ++ text ∷ []) (known refl) ∙ ap (λ last. map signed_decimal numbers ++ last ∷ []) is.0
      ∙ sym (map-append signed_decimal numbers (z ∷ []))

  more_unspelled : (told : List (List ℕ)) (o : Option ℤ) (flag : Bool) → IsSpelled text o
      → (flag ≡ false → All IsEntryText told → ⊥) → (flag && is_some o) ≡ false
      → All IsEntryText (told ++ text ∷ []) → ⊥
  more_unspelled told o false is known e each = known refl (all_front IsEntryText told (text ∷ []) each)
  more_unspelled told None true is known e each = is (all_there IsEntryText told [] text each)
  more_unspelled told (Some z) true is known e each = absurd (cc)

module _ (names done told : List (List ℕ)) (entries : List ℤ) (flag : Bool)
    (known : AreRead names done told entries flag) where
  one_read : (name text : List ℕ) (o : Option ℤ) (v : ℕ) → IsNamedNext names done name v → length names ≤ 16
      → IsSpelled text o → AreRead names (done ++ name ∷ []) (told ++ text ∷ [])
      (slice_set entries v (unwrap_or o (pos 0))) (flag && is_some o)
  one_read name text o v next few is = record {
    numbers = known.numbers ++ x ∷ [];
    count = length-append done (name ∷ []) ∙ ap (λ n. n + 1) known.count ∙ sym (length-append known.numbers (x ∷ []));
    size = length-set entries v x ∙ known.size;
    entered = λ w less. number w less (w == v) refl;
    within = All-push IsSmall known.numbers x known.within (value_small text o is);
    spelled = more_spelled text told known.numbers o flag is known.spelled;
    unspelled = more_unspelled text told o flag is known.unspelled;
  }
    where
      x : ℤ
      x = unwrap_or o (pos 0)

      found : (v < length names) × (name_at names v ≡ name)
      found = vertex_named names name v next.place

      number : (w : ℕ) → w < length names → (t : Bool) → (w == v) ≡ t → slice_index_or (slice_set entries v x) w (pos 0)
          ≡ number_spelled_for (done ++ name ∷ []) (known.numbers ++ x ∷ []) (name_at names w)
      number w less true same =
          let is : w ≡ v = eqb-true w v same in
          let named : name_at names w ≡ name = ap (name_at names) is ∙ found.1 in
          let room : v < length entries = omega (arith, found.0, known.size) in
          ap (λ n. slice_index_or (slice_set entries v x) n (pos 0)) is ∙ get_or-set_same entries v x (pos 0) room
          ∙ sym (given_last name (name_at names w) x done known.numbers known.count
          (ap (names_contain done) named ∙ next.fresh) (ap (bytes_eq name) named ∙ same_bytes.refl name))
      number w less false differs =
          let other : w ≢ v = grind (arith, nat_tests) in
          get_or-set_other entries v w x (pos 0) other ∙ known.entered w less
          ∙ sym (given_before name (name_at names w) x done known.numbers known.count
          (same_bytes.symm name (name_at names w) ∙ other_name names name v w next.distinct found.0 less found.1 other))

  pub entries_within : (n : ℕ) → n ≡ length names → (v : ℕ) → v < length (take n entries)
      → IsSmall (slice_index_or (take n entries) v (pos 0))
  entries_within n same v less =
      let below : v < n = omega (arith, length-take n entries) in
      let inside : v < length names = omega arith in
      subst IsSmall (sym (get_or-take n entries v (pos 0) below ∙ known.entered v inside))
      (given_within done known.numbers (name_at names v) known.within)

  pub parse_script : (n : ℕ) (s : Vector) → AreDistinctNames names done → IsScriptVector s → n ≡ length names → n ≤ 16
      → HoldsNumbers (take n entries) s → IsSpelledScript names done known.numbers s
  parse_script n s given script same few held =
      let long : length (take n entries) ≡ length names = omega (arith, length-take n entries, known.size) in
      record {
        are_given = given;
        size = held.size ∙ long;
        entries = λ v less.
            held.numbers v (omega (arith, long)) ∙ get_or-take n entries v (pos 0) (omega arith) ∙ known.entered v less;
        within = script;
      }

module _ (names all left back : List (List ℕ)) (item : List ℕ) (set : ℕ) (entries : List ℤ) (flag : Bool)
    (e : left ≡ item ∷ back) (known : HasPairs names all left set entries flag) where
  pub one_pair : (o : Option ℤ) (more v : ℕ) → length names ≤ 16 → IsDistinct bytes_eq names
      → place_of names (item_name item) ≡ Some v → in_set set v ≡ false → in_set more v ≡ true
      → ((w : ℕ) → w ≢ v → in_set more w ≡ in_set set w) → IsSpelled (item_number item) o
      → HasPairs names all back more (slice_set entries v (unwrap_or o (pos 0))) (flag && is_some o)
  unfolding one_taken
  one_pair o more v few distinct place absent here others is = record {
    taken =
        one_taken names (map item_name all) (map item_name left) (map item_name back)
        (item_name item) set
        (ap (map item_name) e) known.taken more v distinct place absent here others;
    told = known.told ++ item_number item ∷ [];
    whole =
        known.whole ∙ ap (λ rest. known.told ++ map item_number rest) e
        ∙ sym (append_assoc known.told (item_number item ∷ []) (map item_number back));
    read =
        one_read names known.taken.done known.told entries flag known.read (item_name item) (item_number item) o v
        (is_next names known.taken.done (item_name item) set v distinct place known.taken.is_set absent) few is;
  }

module _ (names all left : List (List ℕ)) (set : ℕ) (entries : List ℤ) (flag : Bool)
    (known : HasPairs names all left set entries flag) where
  pub all_pairs : left ≡ [] → AreDistinctNames names (map item_name all)
      × AreRead names (map item_name all) (map item_number all) entries flag
  all_pairs e =
      let given : known.taken.done ≡ map item_name all =
      sym (known.taken.whole ∙ ap (λ rest. known.taken.done ++ map item_name rest) e ∙ append-nil known.taken.done) in
      let texts : known.told ≡ map item_number all =
      sym (known.whole ∙ ap (λ rest. known.told ++ map item_number rest) e ∙ append-nil known.told) in (
        subst (AreDistinctNames names) given known.taken.is_set.are_given,
        subst (λ ts. AreRead names (map item_name all) ts entries flag) texts
            (subst (λ gs. AreRead names gs known.told entries flag) given known.read),
      )

-- ---- what the code comes to
pub parse_vertex : (names : List (List ℕ)) (name item : List ℕ) (place v : ℕ) → name ≡ item_name item
    → Some place ≡ place_of names name → v ≡ place → place_of names (item_name item) ≡ Some v
parse_vertex names name item place v part there same = ap (place_of names) (sym part) ∙ sym there ∙ ap Some (sym same)

pub part_after : (item : List ℕ) (o : Option (Bor (List ℕ))) (other text : Bor (List ℕ)) → other.now ≡ []
    → option_copied o ≡ after 61 item → text ≡ unwrap_or o other → text.now ≡ item_number item
part_after item None other text none e is =
    ap (λ (t : Bor (List ℕ)). t.now) is ∙ none ∙ ap (λ (rest : Option (List ℕ)). unwrap_or rest []) e
part_after item (Some rest) other text none e is =
    ap (λ (t : Bor (List ℕ)). t.now) is ∙ ap (λ (back : Option (List ℕ)). unwrap_or back []) e
