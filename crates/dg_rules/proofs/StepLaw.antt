-- The laws of histories. Those of the empty history and of one more entry open the definition of the position, and the
-- others follow from these two.
--   no_entry            the empty history leads to the start
--   one_more_entry      one more entry, by the cases of the request and the reply
--   since_change        entries without a change fire the position by their scripts
--   since_start         from the start on,
--   since_last          and from the last change on
--   vertices_stay       entries neither add nor remove vertices
use Rattle.dg_rules.proofs.Common.{refl, ◌≡◌, ℕ, Bool, true, false, List, [], ◌∷◌, ◌++◌, reverse, append_assoc, append-nil, arith, sym, ap, ◌∙◌, cond, false≢true, reverse-append, pos, ◌+ℤ◌, Multigraph, Amounts, fired-fired, fired-constant, size_stays, StartData, Position, start_position, fired_position, accepted_script, scripts_played, is_change, after_change, scripts_since, position_after_change, after_reply, EmptyHistoryPosition, OneMoreEntry, PositionSinceChange, PlayedSinceStart, PlayedSinceChange, VerticesStay, Entry, Request, Move, Gift, Join, Reply, Moved, Given, Joined}
use Rattle.dg_rules.specs.History.{position_after}

abbrev placed : Multigraph → Amounts → Position
placed g D = record { graph = g; amounts = D }

placed-cong : (g : Multigraph) (D E : Amounts) → ((v : ℕ) → D v ≡ E v) → placed g D ≡ placed g E
placed-cong g D E same = λ i. placed g (λ v. same v i)

-- to fire by nothing leaves a position as it is, and to fire twice is to fire by the sum
still : (p : Position) → p ≡ fired_position p (λ v. pos 0)
still p = sym (placed-cong p.graph _ p.amounts (λ v. fired-constant p.graph p.amounts (pos 0) v))

fired_on : (p : Position) (s t : Amounts) → fired_position (fired_position p s) t ≡ fired_position p (λ v. s v +ℤ t v)
fired_on p s t = placed-cong p.graph _ _ (λ v. fired-fired p.graph p.amounts s t v)

pub no_entry : EmptyHistoryPosition
unfolding position_after
no_entry o = sym (still (start_position o))

-- an entry that is no change fires by its script, which is 0 where it is no accepted move; one that is, changes
fires : (p : Position) (request : Request) (reply : Reply) → is_change reply ≡ false →
    after_reply p request reply ≡ fired_position p (accepted_script request reply)
fires p (Move m) (Moved d) none = refl
fires p request (Given g d) none = absurd (false≢true (sym none))
fires p request (Joined g d) none = absurd (false≢true (sym none))
fires p request reply none = still p

changes : (p : Position) (request : Request) (reply : Reply) → is_change reply ≡ true →
    after_reply p request reply ≡ after_change p request reply
changes p (Move m) (Moved d) change = absurd (false≢true change)
changes p request reply change = refl

-- the position after entries that stand the latest first
abbrev ahead : StartData → List Entry → Position
ahead o R = fired_position (position_after_change o R) (scripts_since R)

ahead_more : (o : StartData) (R : List Entry) (seat : ℕ) (request : Request) (reply : Reply) →
    ahead o (record { seat = seat; request = request; reply = reply } ∷ R) ≡ after_reply (ahead o R) request reply
ahead_more o R seat request (Given g d) =
    sym (still (after_change (ahead o R) request (Given g d))) ∙ sym (changes (ahead o R) request (Given g d) refl)
ahead_more o R seat request (Joined g d) =
    sym (still (after_change (ahead o R) request (Joined g d))) ∙ sym (changes (ahead o R) request (Joined g d) refl)
ahead_more o R seat request reply =
    sym (fired_on (position_after_change o R) (scripts_since R) (accepted_script request reply))
    ∙ sym (fires (ahead o R) request reply refl)

pub one_more_entry : OneMoreEntry
unfolding position_after
one_more_entry o H e = ap (ahead o) (reverse-append H (e ∷ [])) ∙ ahead_more o (reverse H) e.seat e.request e.reply

not_counted : (change : Bool) → cond {A = ℕ} change 1 0 ≡ 0 → change ≡ false
not_counted true none = absurd (omega (arith, none))
not_counted false none = refl

pub since_change : PositionSinceChange
since_change o K [] none = ap (position_after o) (append-nil K) ∙ still (position_after o K)
since_change o K (e ∷ L) none =
    let p : Position = position_after o K in
    let parts : position_after o (K ++ (e ∷ L)) ≡ position_after o ((K ++ e ∷ []) ++ L) =
    ap (position_after o) (sym (append_assoc K (e ∷ []) L)) in
    let more : position_after o (K ++ e ∷ []) ≡ fired_position p (accepted_script e.request e.reply) =
    one_more_entry o K e ∙ fires p e.request e.reply (not_counted (is_change e.reply) (omega (arith, none))) in
    parts ∙ since_change o (K ++ e ∷ []) L (omega (arith, none))
    ∙ ap (λ (q : Position). fired_position q (scripts_played L)) more
    ∙ fired_on p (accepted_script e.request e.reply) (scripts_played L)

pub since_start : PlayedSinceStart
since_start o L none = since_change o [] L none ∙ ap (λ (p : Position). fired_position p (scripts_played L)) (no_entry o)

pub since_last : PlayedSinceChange
since_last o K L c change none =
    ap (position_after o) (sym (append_assoc K (c ∷ []) L)) ∙ since_change o (K ++ c ∷ []) L none
    ∙ ap (λ (p : Position). fired_position p (scripts_played L))
    (one_more_entry o K c ∙ changes (position_after o K) c.request c.reply change)

size_same : (p : Position) (request : Request) (reply : Reply) → (after_reply p request reply).graph.size ≡ p.graph.size
size_same p (Move m) (Moved d) = refl
size_same p (Gift v x) (Given g d) = refl
size_same p (Join u v) (Joined g d) = size_stays p.graph u v
size_same p request reply = refl

size_since : (o : StartData) (K L : List Entry) → (position_after o (K ++ L)).graph.size ≡ (position_after o K).graph.size
size_since o K [] = ap (λ (H : List Entry). (position_after o H).graph.size) (append-nil K)
size_since o K (e ∷ L) =
    ap (λ (H : List Entry). (position_after o H).graph.size) (sym (append_assoc K (e ∷ []) L))
    ∙ size_since o (K ++ e ∷ []) L
    ∙ ap (λ (p : Position). p.graph.size) (one_more_entry o K e) ∙ size_same (position_after o K) e.request e.reply

pub vertices_stay : VerticesStay
vertices_stay o H = size_since o [] H ∙ ap (λ (p : Position). p.graph.size) (no_entry o)
