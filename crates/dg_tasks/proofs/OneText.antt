-- A history is printed in one way.
--   counts H          how each entry of H counts
--   counts_more       with one more entry
--   counted_first     the gift count of the first entries of a history, by its counts
--   counted_all       and that of all
--   seen_on           histories that go on from one position, and ask for the same, have one text
--   legal_have_one_text   so have legal histories
--   asked_alike       histories whose requests are the same at each place ask for the same
--   kept_once         a seat keeps one look
--   asked_once        so a step makes one request
--   rehearsal_text_is_unique   histories of the same steps have one text
--   greedy_has_one_text   what is printed of a greedy game
use Rattle.dg_tasks.proofs.Common.{◌≡◌, ℕ, zero, suc, ◌+◌, ◌<◌, ◌≤◌, Bool, List, [], ◌∷◌, ◌++◌, length, take, slice_get, Some, arith, refl, sym, ap, subst, ◌∙◌, append_assoc, ⊎_elim, codes, decimal, slice_get_within, cases_lt, StartData, IsStart, position_after, gifts_in, change_count, IsLegal, Position, Replies, RepliesAt, after_reply, Entry, Request, Reply, Command, Call, Commit, Step, graphs_hold, legal_part, right_here, one_more_entry, vertices_stay, KeepsLookAt, IsStepRequest, IsStepEntry, greedy_game_is_one, entry_text, turns_text, requests_of, HistoryTextIsUnique, RehearsalsHaveOneText, GreedyHasOneText}
use Rattle.dg_rules.specs.declared.entry.Request.TheVariants as request
use Rattle.dg_rules.specs.declared.step.Command.TheVariants.{Rank}
use Rattle.dg_lines.specs.Texts.{history_text}
use Rattle.dg_tasks.proofs.OneReply.{Alike, reply_once}

pub counts : List Entry → List ℕ
counts [] = []
counts (e ∷ H) = change_count e.reply ∷ counts H

counts_more : (H : List Entry) (e : Entry) → counts (H ++ e ∷ []) ≡ counts H ++ change_count e.reply ∷ []
unfolding counts
counts_more [] e = refl
counts_more (x ∷ H) e = ap (λ (ns : List ℕ). change_count x.reply ∷ ns) (counts_more H e)

added : List ℕ → ℕ
added [] = 0
added (n ∷ ns) = n + added ns

counted_first : (i : ℕ) (H : List Entry) → gifts_in (take i H) ≡ added (take i (counts H))
unfolding counts added
counted_first zero H = refl
counted_first (suc i) [] = refl
counted_first (suc i) (e ∷ H) = omega (arith, counted_first i H)

counted_all : (H : List Entry) → gifts_in H ≡ added (counts H)
unfolding counts added
counted_all [] = refl
counted_all (e ∷ H) = omega (arith, counted_all H)

module _ (o : StartData) (start : IsStart o) (names : List (List ℕ)) (fit : length names ≡ o.graph.size) where
  -- replies after histories that lead to one position, and count alike
  alike_after : (K L : List Entry) (r : Request) (a b : Reply) → position_after o K ≡ position_after o L →
      counts K ≡ counts L → IsLegal o K → Replies o K r a → Replies o L r b → Alike names (position_after o K) r a b
  alike_after K L r a b same counted legal right right' =
      reply_once names (position_after o K) (fit ∙ sym (vertices_stay o K)) o.q (graphs_hold o K start.graph legal)
      (subst (λ (n : ℕ). o.q < n) (sym (vertices_stay o K)) start.vertex)
      (λ i. gifts_in (take i K)) (λ i. gifts_in (take i L))
      (λ i. counted_first i K ∙ ap (λ (ns : List ℕ). added (take i ns)) counted ∙ sym (counted_first i L))
      (gifts_in K) r a b right
      (subst (λ (n : ℕ). RepliesAt (position_after o K) o.q (λ i. gifts_in (take i L)) n r b)
      (sym (counted_all K ∙ ap added counted ∙ sym (counted_all L)))
      (subst (λ (p : Position). RepliesAt p o.q (λ i. gifts_in (take i L)) (gifts_in L) r b) (sym same) right'))

  seen_on : (K L H M : List Entry) (n : ℕ) → position_after o K ≡ position_after o L → counts K ≡ counts L →
      IsLegal o (K ++ H) → IsLegal o (L ++ M) → requests_of H ≡ requests_of M →
      history_text names n H ≡ history_text names n M
  unfolding history_text
  seen_on K L [] [] n same counted legal legal' asks = refl
  seen_on K L [] (e ∷ M) n same counted legal legal' asks = absurd (cc)
  seen_on K L (d ∷ H) [] n same counted legal legal' asks = absurd (cc)
  seen_on K L (d ∷ H) (e ∷ M) n same counted legal legal' asks =
      ap (λ (text : List ℕ). entry_line text ++ history_text names (n + 1) H) alike.text
      ∙ ap (λ (rest : List ℕ). entry_text names n e.reply ++ rest)
      (seen_on (K ++ d ∷ []) (L ++ e ∷ []) H M (n + 1) next counted'
      (subst (IsLegal o) (sym (append_assoc K (d ∷ []) H)) legal)
      (subst (IsLegal o) (sym (append_assoc L (e ∷ []) M)) legal') (ap rest_of asks))
    where
      entry_line : List ℕ → List ℕ
      entry_line text = decimal n ++ codes " " ++ text ++ codes "\n"

      rest_of : List Request → List Request
      rest_of [] = []
      rest_of (r ∷ rs) = rs

      first_of : List Request → Request
      first_of [] = d.request
      first_of (r ∷ rs) = r

      request' : d.request ≡ e.request
      request' = ap first_of asks

      alike : Alike names (position_after o K) d.request d.reply e.reply
      alike = alike_after K L d.request d.reply e.reply same counted (legal_part o K (d ∷ H) legal)
          (right_here o K d H legal)
          (subst (λ (r : Request). Replies o L r e.reply) (sym request') (right_here o L e M legal'))

      next : position_after o (K ++ d ∷ []) ≡ position_after o (L ++ e ∷ [])
      next =
          one_more_entry o K d ∙ alike.leads
          ∙ ap (λ (r : Request). after_reply (position_after o K) r e.reply) request'
          ∙ ap (λ (p : Position). after_reply p e.request e.reply) same ∙ sym (one_more_entry o L e)

      counted' : counts (K ++ d ∷ []) ≡ counts (L ++ e ∷ [])
      counted' =
          counts_more K d ∙ ap (λ (ns : List ℕ). ns ++ change_count d.reply ∷ []) counted
          ∙ ap (λ (i : ℕ). counts L ++ i ∷ []) alike.counted ∙ sym (counts_more L e)

pub legal_have_one_text : HistoryTextIsUnique
legal_have_one_text o names H K start fit legal legal' asks =
    seen_on o start names fit [] [] H K 0 refl refl legal legal' asks

asked_alike : (H K : List Entry) → length H ≡ length K →
    ((i : ℕ) (d e : Entry) → slice_get H i ≡ Some d → slice_get K i ≡ Some e → d.request ≡ e.request) →
    requests_of H ≡ requests_of K
asked_alike [] [] count same = refl
asked_alike [] (e ∷ K) count same = absurd (omega (arith, count))
asked_alike (d ∷ H) [] count same = absurd (omega (arith, count))
asked_alike (d ∷ H) (e ∷ K) count same =
    ap (λ (r : Request). r ∷ requests_of H) (same 0 d e refl refl)
    ∙ ap (λ (rs : List Request). e.request ∷ rs)
    (asked_alike H K (omega (arith, count)) (λ i x y here there. same (suc i) x y here there))

-- of two looks that a seat would keep, none is the earlier
not_earlier : (steps : List Step) (seat j i k : ℕ) → KeepsLookAt steps seat j i → KeepsLookAt steps seat j k → i < k → ⊥
not_earlier steps seat j i k first second earlier = first.last k _ earlier second.before second.look refl tt

kept_once : (steps : List Step) (seat j i k : ℕ) → KeepsLookAt steps seat j i → KeepsLookAt steps seat j k → i ≡ k
kept_once steps seat j i k first second = ⊎_elim
    (λ (earlier : i < k). absurd (not_earlier steps seat j i k first second earlier))
    (λ (least : k ≤ i). ⊎_elim
    (λ (later : k < i). absurd (not_earlier steps seat j k i second first later))
    (λ (most : i ≤ k). omega (arith, least, most))
    (cases_lt k i))
    (cases_lt i k)

asked_once : (steps : List Step) (seat j : ℕ) (c : Command) (r s : Request) → IsStepRequest steps seat j c r →
    IsStepRequest steps seat j c s → r ≡ s
asked_once steps seat j (Call p) r s first second = first ∙ sym second
asked_once steps seat j Commit r s (i, kept, is) (k, kept', is') =
    is ∙ ap request.Judge (kept_once steps seat j i k kept kept') ∙ sym is'
asked_once steps seat j (Rank n) r s (i, kept, is) (k, kept', is') =
    is ∙ ap (λ (l : ℕ). request.Rank l n) (kept_once steps seat j i k kept kept') ∙ sym is'

step_at : (steps : List Step) (i : ℕ) → i < length steps → (step : Step) × (slice_get steps i ≡ Some step)
step_at [] i inside = absurd (omega (arith, inside))
step_at (step ∷ steps) zero inside = (step, refl)
step_at (step ∷ steps) (suc i) inside = step_at steps i (omega (arith, inside))

pub rehearsal_text_is_unique : RehearsalsHaveOneText
rehearsal_text_is_unique o names steps H K start fit first second =
    legal_have_one_text o names H K start fit first.legal second.legal
    (asked_alike H K (first.length' ∙ sym second.length') (λ i d e here there.
    let inside : i < length steps = omega (arith, slice_get_within H i d here, first.length') in
    let (step, at) = step_at steps i inside in
    let one : IsStepEntry steps i step d = first.entries i step d at here in
    let other : IsStepEntry steps i step e = second.entries i step e at there in
    asked_once steps step.seat i step.command d.request e.request one.request other.request))

pub greedy_has_one_text : GreedyHasOneText
greedy_has_one_text o names n text other start fit first second =
    let (same, ended) = greedy_game_is_one o n first.history second.history first.settled second.settled first.game
    second.game in
    first.printed ∙ ap (λ (H : List Entry). history_text names 0 H ++ turns_text first.settled) same
    ∙ ap (λ (b : Bool). history_text names 0 second.history ++ turns_text b) ended ∙ sym second.printed
