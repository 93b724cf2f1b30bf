-- What bytes say is one thing: one value, its four parts, one content.
--   found-once     what is found is one
--   none-or-some   nothing is found, or something, and not both
--   first-once     two numbers of which none is below the other are one
--   same-value     the value of bytes
--   same-parts     the parts of a value
--   same-content   the content of a value
use Rattle.dg_file.proofs.Common.{◌≡◌, ℕ, ◌<◌, List, Option, Some, None, inl, inr, sym, ◌∙◌, codes, IsSome, false≢true, cases_order, Data, get_member, as_object, as_str, Content, MemberValues, ReadsJson, HasMemberValues, IsContent, texts_in_json, edges_in_json, numbers_in_json}

pub found-once : {A : Type 0} (o : Option A) (x y : A) → o ≡ Some x → o ≡ Some y → x ≡ y
found-once o x y a b = let e : Some x ≡ Some y = sym a ∙ b in cc

pub none-or-some : {A : Type 0} (o : Option A) → IsSome o → o ≡ None → ⊥
none-or-some None some none = false≢true some
none-or-some (Some x) some none = cc

pub none-found : {A : Type 0} (o : Option A) (x : A) → o ≡ Some x → o ≡ None → ⊥
none-found o x a b = let e : Some x ≡ None = sym a ∙ b in cc

pub first-once : (i j : ℕ) → (i < j → ⊥) → (j < i → ⊥) → i ≡ j
first-once i j before after = elim (cases_order i j) [
  | inl same ↦ same
  | inr (inl less) ↦ absurd (before less)
  | inr (inr more) ↦ absurd (after more)
]

pub same-value : (bytes : List ℕ) (u v : Data) → ReadsJson bytes u → ReadsJson bytes v → u ≡ v
same-value bytes u v a b = found-once _ u v a.1 b.1

parts-equal : (o p : MemberValues) → o.vertices ≡ p.vertices → o.edges ≡ p.edges → o.amounts ≡ p.amounts → o.q ≡ p.q → o ≡ p
parts-equal o p a b c d = λ i. record { vertices = a i; edges = b i; amounts = c i; q = d i }

pub same-parts : (value : Data) (o p : MemberValues) → HasMemberValues value o → HasMemberValues value p → o ≡ p
same-parts value o p a b =
    let members : a.members ≡ b.members = found-once (as_object value) a.members b.members a.object b.object in
    parts-equal o p
    (found-once (get_member (codes "vertices") b.members) o.vertices p.vertices (rw members at a.vertices) b.vertices)
    (found-once (get_member (codes "edges") b.members) o.edges p.edges (rw members at a.edges) b.edges)
    (found-once (get_member (codes "amounts") b.members) o.amounts p.amounts (rw members at a.amounts) b.amounts)
    (found-once (get_member (codes "q") b.members) o.q p.q (rw members at a.q) b.q)

content-equal : (o p : Content) → o.vertices ≡ p.vertices → o.edges ≡ p.edges → o.amounts ≡ p.amounts → o.q ≡ p.q
    → o ≡ p
content-equal o p a b c d = λ i. record { vertices = a i; edges = b i; amounts = c i; q = d i }

pub same-content : (value : Data) (o p : Content) → IsContent value o → IsContent value p → o ≡ p
same-content value o p a b =
    let parts : a.parts ≡ b.parts = same-parts value a.parts b.parts a.has b.has in
    content-equal o p
    (found-once (texts_in_json b.parts.vertices) o.vertices p.vertices (rw parts at a.vertices) b.vertices)
    (found-once (edges_in_json b.parts.edges) o.edges p.edges (rw parts at a.edges) b.edges)
    (found-once (numbers_in_json b.parts.amounts) o.amounts p.amounts (rw parts at a.amounts) b.amounts)
    (found-once (as_str b.parts.q) o.q p.q (rw parts at a.q) b.q)
