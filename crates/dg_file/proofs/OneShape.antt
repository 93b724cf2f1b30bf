-- A value is refused for one shape at most, and not where it says a content.
--   each-none     an item that cannot be read leaves nothing
--   shape-one     one shape at fault
--   shape-none    no shape at fault where there is a content
use Rattle.dg_file.proofs.Common.{◌≡◌, ℕ, zero, suc, ◌<◌, ◌⊎◌, inl, inr, Option, Some, None, refl, sym, ap, ◌∙◌, option_and_then, Data, Items, no_items, item, get_item, as_array, Content, MemberValues, HasMemberValues, IsContent, cons_some, edge_in_json, edges_in_json, IsEdgeFault, IsPartFault, IsShapeFault, Shape, Top, Vertices, Edges, Edge, Amounts, Q}
use Rattle.dg_file.specs.Content.{each}
use Rattle.dg_file.proofs.OneContent.{found-once, first-once, none-or-some, none-found, same-parts}

nothing : {A : Type 0} (o : Option A) → cons_some o None ≡ None
nothing None = refl
nothing (Some a) = refl

pub each-none : {A : Type 0} (read : Data → Option A) (items : Items) (i : ℕ) (d : Data) → get_item i items ≡ Some d
    → read d ≡ None → each read items ≡ None
unfolding each
each-none read no_items i d there none = absurd (cc)
each-none read (item first rest) zero d there none =
    let same : first ≡ d = cc in
    ap (λ o. cons_some o (each read rest)) (ap read same ∙ none)
each-none read (item first rest) (suc i) d there none =
    ap (cons_some (read first)) (each-none read rest i d there none)
    ∙ nothing (read first)

no-array : (value : Data) → as_array value ≡ None → edges_in_json value ≡ None
no-array value none = ap (option_and_then (each edge_in_json)) none

no-edge : (value : Data) (i : ℕ) → IsEdgeFault value i → edges_in_json value ≡ None
no-edge value i fault =
    ap (option_and_then (each edge_in_json)) fault.array
    ∙ each-none edge_in_json fault.items i fault.item fault.there fault.no_edge

edge-before : (value : Data) (i j : ℕ) → IsEdgeFault value i → IsEdgeFault value j → i < j → ⊥
edge-before value i j a b before =
    let items = found-once (as_array value) a.items b.items a.array b.array in
    none-or-some (edge_in_json a.item) (b.before i before a.item (rw items at a.there)) a.no_edge

edge-one : (value : Data) (i j : ℕ) → IsEdgeFault value i → IsEdgeFault value j → i ≡ j
edge-one value i j a b = first-once i j (edge-before value i j a b) (edge-before value j i b a)

of-one : (parts : MemberValues) (s t : Shape) → IsPartFault parts s → IsPartFault parts t → s ≡ t
of-one parts Top t a b = absurd a
of-one parts s Top a b = absurd b
of-one parts Vertices Vertices a b = refl
of-one parts Vertices Edges a b = absurd (none-or-some _ b.0 a)
of-one parts Vertices (Edge j) a b = absurd (none-or-some _ b.0 a)
of-one parts Vertices Amounts a b = absurd (none-or-some _ b.0 a)
of-one parts Vertices Q a b = absurd (none-or-some _ b.0 a)
of-one parts Edges Vertices a b = absurd (none-or-some _ a.0 b)
of-one parts Edges Edges a b = refl
of-one parts Edges (Edge j) a b = absurd (none-found _ b.1.items b.1.array a.1)
of-one parts Edges Amounts a b = absurd (none-or-some _ b.1 (no-array parts.edges a.1))
of-one parts Edges Q a b = absurd (none-or-some _ b.1 (no-array parts.edges a.1))
of-one parts (Edge i) Vertices a b = absurd (none-or-some _ a.0 b)
of-one parts (Edge i) Edges a b = absurd (none-found _ a.1.items a.1.array b.1)
of-one parts (Edge i) (Edge j) a b = ap Edge (edge-one parts.edges i j a.1 b.1)
of-one parts (Edge i) Amounts a b = absurd (none-or-some _ b.1 (no-edge parts.edges i a.1))
of-one parts (Edge i) Q a b = absurd (none-or-some _ b.1 (no-edge parts.edges i a.1))
of-one parts Amounts Vertices a b = absurd (none-or-some _ a.0 b)
of-one parts Amounts Edges a b = absurd (none-or-some _ a.1 (no-array parts.edges b.1))
of-one parts Amounts (Edge j) a b = absurd (none-or-some _ a.1 (no-edge parts.edges j b.1))
of-one parts Amounts Amounts a b = refl
of-one parts Amounts Q a b = absurd (none-or-some _ b.2 a.2)
of-one parts Q Vertices a b = absurd (none-or-some _ a.0 b)
of-one parts Q Edges a b = absurd (none-or-some _ a.1 (no-array parts.edges b.1))
of-one parts Q (Edge j) a b = absurd (none-or-some _ a.1 (no-edge parts.edges j b.1))
of-one parts Q Amounts a b = absurd (none-or-some _ a.2 b.2)
of-one parts Q Q a b = refl

abbrev AtParts : Data → Shape → Type 0
AtParts value shape = (parts : MemberValues) × HasMemberValues value parts × IsPartFault parts shape

kinds : (value : Data) (s : Shape) → IsShapeFault value s → (s ≡ Top) ⊎ AtParts value s
kinds value Top fault = inl refl
kinds value Vertices fault = inr fault
kinds value Edges fault = inr fault
kinds value (Edge i) fault = inr fault
kinds value Amounts fault = inr fault
kinds value Q fault = inr fault

no-parts : (value : Data) (s : Shape) → s ≡ Top → IsShapeFault value s → (parts : MemberValues) → ¬ HasMemberValues value parts
no-parts value s top fault = rw top at fault

pub shape-one : (value : Data) (s t : Shape) → IsShapeFault value s → IsShapeFault value t → s ≡ t
shape-one value s t a b = elim (kinds value s a) [
  | inl top ↦ elim (kinds value t b) [
    | inl also ↦ top ∙ sym also
    | inr at ↦ absurd (no-parts value s top a at.0 at.1)
  ]
  | inr here ↦ elim (kinds value t b) [
    | inl top ↦ absurd (no-parts value t top b here.0 here.1)
    | inr there ↦
        let same : here.0 ≡ there.0 = same-parts value here.0 there.0 here.1 there.1 in
        of-one there.0 s t (rw same at here.2) there.2
  ]
]

of-none : (value : Data) (content : Content) (says : IsContent value content) (s : Shape)
    → IsPartFault says.parts s → ⊥
of-none value content says Top fault = fault
of-none value content says Vertices fault = none-found _ content.vertices says.vertices fault
of-none value content says Edges fault = none-found _ content.edges says.edges (no-array says.parts.edges fault.1)
of-none value content says (Edge i) fault = none-found _ content.edges says.edges (no-edge says.parts.edges i fault.1)
of-none value content says Amounts fault = none-found _ content.amounts says.amounts fault.2
of-none value content says Q fault = none-found _ content.q says.q fault.3

pub shape-none : (value : Data) (content : Content) → IsContent value content → (s : Shape) → IsShapeFault value s → ⊥
shape-none value content says s fault = elim (kinds value s fault) [
  | inl top ↦ no-parts value s top fault says.parts says.has
  | inr at ↦
      let same : at.0 ≡ says.parts = same-parts value at.0 says.parts at.1 says.has in
      of-none value content says s (rw same at at.2)
]
