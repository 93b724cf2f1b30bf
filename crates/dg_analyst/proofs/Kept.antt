-- What a seat keeps of a look that it just took.
--   look_kept    where the last of a seat's entries is a look, the seat keeps something, which is that look's
use Rattle.dg_analyst.proofs.Common.{◌≡◌, ℕ, List, [], ◌∷◌, ◌++◌, Option, Some, None, MatchOption, ap, subst, ◌∙◌, Entry, Look, LookData, IsLookOf, IsLastLook, last_look, last_after}

look_last : (ps qs : List (ℕ × Entry)) (p : ℕ × Entry) → p.1.request ≡ Look → qs ≡ ps ++ p ∷ [] → last_look qs ≡ Some p
look_last ps qs p look more = ap last_look more ∙ last_after ps p look

pub look_kept : (ps qs : List (ℕ × Entry)) (p : ℕ × Entry) (look : Option LookData) → p.1.request ≡ Look →
    qs ≡ ps ++ p ∷ [] → IsLastLook qs look → MatchOption look ⊥ (IsLookOf p)
look_kept ps qs p None asks more none =
    let last : last_look qs ≡ Some p = look_last ps qs p asks more in
    cc
look_kept ps qs p (Some x) asks more kept =
    let (q, found, of) = kept in
    let last : last_look qs ≡ Some p = look_last ps qs p asks more in
    let same : q ≡ p = cc in
    subst (λ (r : ℕ × Entry). IsLookOf r x) same of
