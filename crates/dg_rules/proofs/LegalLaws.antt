-- Legal histories.
--   legal_none         the empty history is legal
--   legal_more         a legal history with one more entry that is a seat's, looks back and is answered rightly is
--                      legal
--   legal_take         the first entries of a legal history are legal
--   legal_part         the first part of a legal history is legal
--   right_here         the reply of each entry of a legal history is right after those before it
--   back_asked         a call of the game looks back to nothing
--   back_for           what is entered on a look of the history looks back to that look
--   back_on            and so does a question on it
--   sized_reply        a right reply has the size of the graph
--   legal_sized        each reply of a legal history has the size of the start
--   legal_looks        each look of a legal history is what is kept of it
use Rattle.dg_rules.proofs.Common.{◌≡◌, ℕ, ◌<◌, ◌≤◌, List, [], ◌∷◌, ◌++◌, length, take, slice_get, Some, arith, ap, subst, ◌∙◌, inl, inr, take-append_seam, take-append-le, take-take, length-take, slice_get_within, Multigraph, StartData, AtLeast, Below, Replies, IsSeatNumber, LooksBack, IsLegal, IsSizedReply, LegalIsSized, LegalLooksShow, IsLookAt, request_for_finding, request_for_question, call_request, Entry, Plain, Request, Move, Gift, Join, Look, Claim, Judge, Reply, Moved, Given, Joined, Looked, Verdict, Stale, Won, NotWon, Refused, Finding, Judged, Ranked, Question, LookData}
use Rattle.dg_rules.specs.History.{position_after}
use Rattle.dg_rules.specs.declared.entry.Plain.TheVariants as plain
use Rattle.dg_rules.specs.declared.entry.Request.TheVariants.{Rank as RankRequest}
use Rattle.dg_rules.specs.declared.entry.Reply.TheVariants.{Rank as RankReply}
use Rattle.dg_rules.specs.declared.finding.Question.TheVariants as question
use Rattle.dg_rules.proofs.ListLaws.{more_holds, slice_get-seam, slice_get_taken}
use Rattle.dg_rules.proofs.StepLaw.{vertices_stay}

pub legal_none : (o : StartData) → IsLegal o []
legal_none o k e at = absurd (cc)

pub legal_more : (o : StartData) (H : List Entry) (e : Entry) → IsLegal o H → IsSeatNumber e.seat → LooksBack H e.request →
    Replies o H e.request e.reply → IsLegal o (H ++ e ∷ [])
legal_more o H e legal seat back right k x at = elim (more_holds H e k x at) [
  | inl old ↦
      let before : k ≤ length H = omega arith in
      rw (take-append-le k H (e ∷ []) before) (legal k x old.1)
  | inr new ↦
      let start : take k (H ++ e ∷ []) ≡ H = ap (λ n. take n (H ++ e ∷ [])) new.0 ∙ take-append_seam H (e ∷ []) in
      rw (new.1, start) (seat, back, right)
]

pub legal_take : (o : StartData) (H : List Entry) (k : ℕ) → IsLegal o H → IsLegal o (take k H)
legal_take o H k legal i e at =
    let inside : i < length (take k H) = slice_get_within (take k H) i e at in
    let few : i ≤ k = omega (arith, length-take k H) in
    let there : slice_get H i ≡ Some e = slice_get_taken k H i e at in
    rw (take-take i k H few) (legal i e there)

pub legal_part : (o : StartData) (K L : List Entry) → IsLegal o (K ++ L) → IsLegal o K
legal_part o K L legal = subst (IsLegal o) (take-append_seam K L) (legal_take o (K ++ L) (length K) legal)

pub right_here : (o : StartData) (K : List Entry) (e : Entry) (H : List Entry) → IsLegal o (K ++ e ∷ H) →
    Replies o K e.request e.reply
right_here o K e H legal =
    subst (λ (L : List Entry). Replies o L e.request e.reply) (take-append_seam K (e ∷ H))
    (legal (length K) e (slice_get-seam K e H)).2

pub back_asked : (H : List Entry) (p : Plain) → LooksBack H (call_request p)
back_asked H plain.Look = tt
back_asked H p = tt

pub back_for : (o : StartData) (H : List Entry) (x : LookData) (f : Finding) → IsLookAt o H x →
    LooksBack H (request_for_finding x.number f)
back_for o H x (Judged v) look = look.look
back_for o H x (Ranked v) look = look.look

pub back_on : (o : StartData) (H : List Entry) (x : LookData) (asks : Question) → IsLookAt o H x →
    LooksBack H (request_for_question x.number asks)
back_on o H x question.Judge look = look.look
back_on o H x (question.Rank k) look = look.look

sized_reply : (o : StartData) (H : List Entry) (n : ℕ) (request : Request) (reply : Reply) →
    (position_after o H).graph.size ≡ n →
    Replies o H request reply → IsSizedReply n reply
sized_reply o H n (Move m) (Moved d) size right = right.size ∙ size
sized_reply o H n (Move m) (Refused r) size right = tt
sized_reply o H n (Gift v x) (Given count d) size right = right.size ∙ size
sized_reply o H n (Gift v x) (Refused r) size right = tt
sized_reply o H n (Join u v) (Joined count d) size right = right.amounts.size ∙ size
sized_reply o H n (Join u v) (Refused r) size right = tt
sized_reply o H n Look (Looked count d graph) size right =
    (right.1.size ∙ size, ap (λ (g : Multigraph). g.size) right.2 ∙ size)
sized_reply o H n Claim Won size right = tt
sized_reply o H n Claim NotWon size right = tt
sized_reply o H n (Judge i) (Verdict x) size right = (right.1.script_size ∙ size, right.1.reduced_size ∙ size)
sized_reply o H n (Judge i) (Stale count) size right = tt
sized_reply o H n (RankRequest i k) (RankReply (AtLeast j)) size right = tt
sized_reply o H n (RankRequest i k) (RankReply (Below j d)) size right = right.1.1 ∙ size
sized_reply o H n (RankRequest i k) (Stale count) size right = tt
sized_reply o H n request reply size right = absurd right

pub legal_sized : LegalIsSized
legal_sized o H i e legal at =
    sized_reply o (take i H) o.graph.size e.request e.reply (vertices_stay o (take i H)) (legal i e at).2

pub legal_looks : LegalLooksShow
legal_looks o H e x legal at asks shows =
    let right : Replies o (take x.number H) e.request e.reply = (legal x.number e at).2 in
    let (gifts, amounts, graph) = rw (asks, shows) at right in
    record { look = (e, at, asks); gifts = gifts; graph = graph; amounts = amounts }
