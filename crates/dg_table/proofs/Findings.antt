-- Findings on older looks, and the last look of a seat.
--   last_after       after a look, that look is the last
--   look_seen        what is kept of a look, once it is the last entry of a seat
--   look_of          what is kept of the last of entries, where that is a look
--   look_asked       who is shown a position has asked for a look
--   looked_vertices  a right reply to a look shows the vertices of the start
--   stale_both       the reply to a finding on an entry is stale just where a gift was accepted after it
--   carried_over     where none was, the finding is carried to the position now
--   look_stands      what is kept of an entry of a legal history that is a look, is of a look of it
use Rattle.dg_table.proofs.Common.{◌≡◌, ◌≢◌, ◌↔◌, ℕ, Bool, true, cond, List, [], ◌∷◌, ◌++◌, take, slice_get, Option, Some, None, refl, sym, ap, subst, ◌∙◌, filter, last_or, same_Some, filter-append, Multigraph, StartData, Vector, position_after, gifts_in, IsLegal, IsLookAt, request_for_finding, KeepsFinding, Replies, Entry, Request, Look, Reply, Looked, Verdict, Stale, Finding, Judged, Ranked, LookData, legal_looks, vertices_stay, IsKeptLook, KeepsLastLook, IsSizedLook, IsLastLook, IsLookOf, is_look, asks_for_look, IsSettledReply, RankReply}

last_or-snoc : {A : Type 0} (o : Option A) (xs : List A) (x : A) → last_or o (xs ++ x ∷ []) ≡ Some x
last_or-snoc o [] x = refl
last_or-snoc o (y ∷ xs) x = last_or-snoc (Some y) xs x

pub last_after : KeepsLastLook
last_after ps p look =
    let test : is_look p ≡ true = ap asks_for_look look in
    ap (last_or None) (filter-append is_look ps (p ∷ [])
    ∙ ap (λ (b : Bool). filter is_look ps ++ cond b (p ∷ []) []) test)
    ∙ last_or-snoc None (filter is_look ps) p

pub look_seen : (o : StartData) (ps : List (ℕ × Entry)) (p : ℕ × Entry) (x : LookData) → IsLookOf p x →
    IsSizedLook o.graph.size x →
    IsKeptLook o (ps ++ p ∷ []) (Some x)
look_seen o ps p x of vertices = record { last = (p, last_after ps p of.look, of); vertices = vertices }

pub look_of : (ps : List (ℕ × Entry)) (p : ℕ × Entry) (x : LookData) → p.1.request ≡ Look →
    IsLastLook (ps ++ p ∷ []) (Some x) → IsLookOf p x
look_of ps p x look (q, last, of) =
    subst (λ (r : ℕ × Entry). IsLookOf r x) (same_Some q p (sym last ∙ last_after ps p look)) of

pub look_asked : (o : StartData) (H : List Entry) (request : Request) (n : ℕ) (d : Vector) (g : Multigraph) →
    Replies o H request (Looked n d g) → request ≡ Look
look_asked o H Look n d g right = refl
look_asked o H request n d g right = absurd right

pub looked_vertices : (o : StartData) (H : List Entry) (x : LookData) →
    Replies o H Look (Looked x.gifts x.position x.graph) →
    IsSizedLook o.graph.size x
looked_vertices o H x right =
    let (count, shows, graph) = right in
    let size : x.graph.size ≡ o.graph.size = ap (λ (g : Multigraph). g.size) graph ∙ vertices_stay o H in
    (size, shows.size ∙ vertices_stay o H)

pub stale_both : (o : StartData) (H : List Entry) (i : ℕ) (f : Finding) (reply : Reply) →
    Replies o H (request_for_finding i f) reply →
    (gifts_in (take i H) ≢ gifts_in H) ↔ (reply ≡ Stale (gifts_in H))
stale_both o H i (Judged v) (Verdict w) right = ((λ other. absurd (other right.0)), (λ is. absurd (cc)))
stale_both o H i (Judged v) (Stale count) right = ((λ other. ap Stale right.1), (λ is. right.0))
stale_both o H i (Ranked v) (RankReply w) right = ((λ other. absurd (other right.0)), (λ is. absurd (cc)))
stale_both o H i (Ranked v) (Stale count) right = ((λ other. ap Stale right.1), (λ is. right.0))
stale_both o H i f reply right = absurd right

pub carried_over : (o : StartData) (H : List Entry) (i : ℕ) (f : Finding) (reply : Reply) → KeepsFinding f reply →
    Replies o H (request_for_finding i f) reply → gifts_in (take i H) ≡ gifts_in H
    → IsSettledReply (position_after o H) o.q f reply
carried_over o H i (Judged v) (Verdict w) kept right same = (right.1, rw kept.0 at right.1.led)
carried_over o H i (Judged v) (Stale count) kept right same = right.0 same
carried_over o H i (Ranked v) (RankReply w) kept right same = right.1
carried_over o H i (Ranked v) (Stale count) kept right same = right.0 same
carried_over o H i f reply kept right same = absurd right

pub look_stands : (o : StartData) (H : List Entry) (p : ℕ × Entry) (x : LookData) → IsLegal o H → IsLookOf p x →
    slice_get H p.0 ≡ Some p.1 → IsLookAt o H x
look_stands o H p x legal of stands =
    legal_looks o H p.1 x legal (ap (slice_get H) of.number ∙ stands) of.look of.shown
