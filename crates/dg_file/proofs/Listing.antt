-- Arrays and objects as they are read.
--   each-start     before the first item: nothing is read, and all items are left
--   each-more      one more item is read
--   each-failed    an item that cannot be read leaves nothing
--   each-all       after the last item: what is read is all
--   some-before    one more item that can be read
--   get-object     a member of an object
--   parts-given    an object of four members has the parts that are found in it
--   parts-counted  an object of another number of members has no parts
--   edge-three     an array of three values is an edge where they are two texts and a number of edges
--   edge-others    an array of another number of values is no edge
use Rattle.dg_file.proofs.Common.{◌≡◌, ◌≢◌, ℕ, suc, ◌+◌, ◌<◌, ◌≤◌, List, [], ◌∷◌, ◌++◌, length, get_or, drop, Option, Some, None, option_map, Bor, Vec, String, Global, refl, sym, ap, ◌∙◌, codes, inl, inr, arith, IsSome, option_and_then, cases_order, append_assoc, append-nil, drop_more, drop_all, Data, null, boolean, number, string, array, object, Members, get, get_member, get_item, as_object, as_array, as_str, view, items_view, members_view, Value, get_item_within, MemberValues, HasMemberValues, cons_some, edge_in_json, edge_from_json, count_in_json, listed_in_json, IsEdgeFault}
use Rattle.dg_file.specs.Content.{member_count, each, edge_of_items}

abbrev pub after : {A : Type 0} → List A → Option (List A) → Option (List A)
after xs rest = option_map (λ more. xs ++ more) rest

pub each-start : {A : Type 0} (read : Data → Option A) (vs : List Value)
    → each read (items_view vs) ≡ after [] (each read (items_view (drop 0 vs)))
each-start read vs = elim (each read (items_view vs)) as (λ o. o ≡ after [] o) [ None ↦ refl | Some more ↦ refl ]

after-item : {A : Type 0} (xs : List A) (x : A) (rest : Option (List A))
    → after xs (option_map (λ more. x ∷ more) rest) ≡ after (xs ++ x ∷ []) rest
after-item xs x None = refl
after-item xs x (Some more) = ap Some (sym (append_assoc xs (x ∷ []) more))

module _ {A : Type 0} (read : Data → Option A) (vs : List Value) (i : ℕ) (v : Value) (xs : List A) where
  left : i < length vs → v ≡ get_or vs i v → drop i vs ≡ v ∷ drop (i + 1) vs
  left below is = drop_more vs i v below ∙ ap (λ first. first ∷ drop (i + 1) vs) (sym is)

  pub each-more : (x : A) → i < length vs → v ≡ get_or vs i v → read (view v) ≡ Some x
      → each read (items_view vs) ≡ after xs (each read (items_view (drop i vs)))
      → each read (items_view vs) ≡ after (xs ++ x ∷ []) (each read (items_view (drop (i + 1) vs)))
  unfolding each
  each-more x below is some so_far =
      so_far ∙ ap (λ rest. after xs (each read (items_view rest))) (left below is)
      ∙ ap (λ first. after xs (cons_some first (each read (items_view (drop (i + 1) vs))))) some
      ∙ after-item xs x (each read (items_view (drop (i + 1) vs)))

  pub each-failed : i < length vs → v ≡ get_or vs i v → read (view v) ≡ None
      → each read (items_view vs) ≡ after xs (each read (items_view (drop i vs)))
      → each read (items_view vs) ≡ None
  unfolding each
  each-failed below is none so_far =
      so_far ∙ ap (λ rest. after xs (each read (items_view rest))) (left below is)
      ∙ ap (λ first. after xs (cons_some first (each read (items_view (drop (i + 1) vs))))) none

pub each-all : {A : Type 0} (read : Data → Option A) (vs : List Value) (i : ℕ) (xs : List A) → length vs ≤ i
    → each read (items_view vs) ≡ after xs (each read (items_view (drop i vs)))
    → each read (items_view vs) ≡ Some xs
unfolding each
each-all read vs i xs past so_far =
    so_far ∙ ap (λ rest. after xs (each read (items_view rest))) (drop_all i vs past) ∙ ap Some (append-nil xs)

pub some-before : {A : Type 0} (read : Data → Option A) (vs : List Value) (i : ℕ) (v : Value) (x : A) → i < length vs
    → v ≡ get_or vs i v → read (view v) ≡ Some x
    → ((k : ℕ) → k < i → (d : Data) → get_item k (items_view vs) ≡ Some d → IsSome (read d))
    → (k : ℕ) → k < i + 1 → (d : Data) → get_item k (items_view vs) ≡ Some d → IsSome (read d)
some-before read vs i v x below is some before k within d there = elim (cases_order k i) [
  | inl same ↦
      let at : Some (view v) ≡ get_item i (items_view vs) = rw (← is) at (get_item_within vs i v below) in
      let d_is : view v ≡ d = let e : Some (view v) ≡ Some d = at ∙ rw same at there in cc in
      rw (← d_is, some) refl
  | inr (inl less) ↦ before k less d there
  | inr (inr more) ↦ absurd (omega arith)
]

get-object : (k : List ℕ) (value : Data) (members : Members) → as_object value ≡ Some members
    → get k value ≡ get_member k members
get-object k null ms is = absurd (cc)
get-object k (boolean b) ms is = absurd (cc)
get-object k (number n) ms is = absurd (cc)
get-object k (string s) ms is = absurd (cc)
get-object k (array ds) ms is = absurd (cc)
get-object k (object own) ms is = ap (get_member k) (let e : own ≡ ms = cc in e)

abbrev Entry : Type 0
Entry = String Global × Value

member_count-view : (es : List Entry) → member_count (members_view es) ≡ length es
unfolding member_count
member_count-view [] = refl
member_count-view (e ∷ es) = ap suc (member_count-view es)

pub parts-given : (value : Data) (es : List Entry) (parts : MemberValues) → Some (members_view es) ≡ as_object value
    → length es ≡ 4 → Some parts.vertices ≡ get (codes "vertices") value → Some parts.edges ≡ get (codes "edges") value
    → Some parts.amounts ≡ get (codes "amounts") value → Some parts.q ≡ get (codes "q") value → HasMemberValues value parts
parts-given value es parts is four vertices edges amounts q = record {
  members = members_view es;
  object = sym is;
  four = member_count-view es ∙ four;
  vertices = sym (vertices ∙ get-object (codes "vertices") value (members_view es) (sym is));
  edges = sym (edges ∙ get-object (codes "edges") value (members_view es) (sym is));
  amounts = sym (amounts ∙ get-object (codes "amounts") value (members_view es) (sym is));
  q = sym (q ∙ get-object (codes "q") value (members_view es) (sym is));
}

pub parts-counted : (value : Data) (es : List Entry) (parts : MemberValues) → Some (members_view es) ≡ as_object value
    → (length es ≡ 4 → ⊥) → ¬ HasMemberValues value parts
parts-counted value es parts is other has =
    let both : Some (members_view es) ≡ Some has.members = is ∙ has.object in
    let same : members_view es ≡ has.members = cc in
    other (sym (member_count-view es) ∙ ap member_count same ∙ has.four)

three : (vs : List Value) (one other count : Value) → length vs ≡ 3 → one ≡ get_or vs 0 one → other ≡ get_or vs 1 other
    → count ≡ get_or vs 2 count → vs ≡ one ∷ other ∷ count ∷ []
three [] one other count size e f g = absurd (omega arith)
three (a ∷ []) one other count size e f g = absurd (omega arith)
three (a ∷ b ∷ []) one other count size e f g = absurd (omega arith)
three (a ∷ b ∷ c ∷ []) one other count size e f g = cc
three (a ∷ b ∷ c ∷ d ∷ vs) one other count size e f g = absurd (omega arith)

pub edge-three : (value : Data) (vs : List Value) (one other count : Value)
    → Some (items_view vs) ≡ as_array value → length vs ≡ 3
    → one ≡ get_or vs 0 one → other ≡ get_or vs 1 other → count ≡ get_or vs 2 count
    → edge_in_json value ≡ edge_from_json (as_str (view one)) (as_str (view other)) (count_in_json (view count))
unfolding edge_of_items
edge-three value vs one other count is size e f g = rw (← is, three vs one other count size e f g) refl

pub edge-others : (value : Data) (vs : List Value) → Some (items_view vs) ≡ as_array value → length vs ≢ 3
    → edge_in_json value ≡ None
unfolding edge_of_items
edge-others value [] is different = rw (← is) refl
edge-others value (a ∷ []) is different = rw (← is) refl
edge-others value (a ∷ b ∷ []) is different = rw (← is) refl
edge-others value (a ∷ b ∷ c ∷ []) is different = absurd (different refl)
edge-others value (a ∷ b ∷ c ∷ d ∷ vs) is different = rw (← is) refl

-- an array, read item by item
pub listed-each : {A : Type 0} (read : Data → Option A) (value : Data) (found : Option (Bor (Vec Value Global)))
    (vec : Bor (Vec Value Global)) (vs : List Value)
    → option_map (λ v. items_view v.now.items) found ≡ as_array value → found ≡ Some vec → vs ≡ vec.now.items
    → listed_in_json read value ≡ each read (items_view vs)
listed-each read value found vec vs gives is same =
    ap (option_and_then (each read))
    (sym gives ∙ ap (option_map (λ (v : Bor (Vec Value Global)). items_view v.now.items)) is)
    ∙ ap (λ items. each read (items_view items)) (sym same)

-- the first item that is no edge
pub edge-fault : (vs : List Value) (i : ℕ) (v : Value) → i < length vs → v ≡ get_or vs i v → edge_in_json (view v) ≡ None
    → ((k : ℕ) → k < i → (d : Data) → get_item k (items_view vs) ≡ Some d → IsSome (edge_in_json d))
    → IsEdgeFault (array (items_view vs)) i
edge-fault vs i v below at none before = record {
  items = items_view vs;
  array = refl;
  before = before;
  item = view v;
  there = sym (rw (← at) at (get_item_within vs i v below));
  no_edge = none;
}
