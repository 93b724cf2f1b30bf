-- Histories as texts.
--   legal_named      each reply of a legal history has as many amounts as there are vertices
--   history_more     the text of a history with one more entry ends with that entry's line
use Rattle.dg_lines.proofs.Common.{◌≡◌, ℕ, ◌+◌, List, [], ◌∷◌, ◌++◌, length, arith, sym, subst, ap, ◌∙◌, append_assoc, StartData, IsLegal, IsSizedReply, Entry, legal_sized, entry_text, RepliesHaveNames}
use Rattle.std.proofs.Common.{append-nil}
use Rattle.dg_lines.specs.Texts.{history_text}

pub legal_named : (names : List (List ℕ)) (o : StartData) (H : List Entry) → length names ≡ o.graph.size → IsLegal o H →
    RepliesHaveNames names H
legal_named names o H fit legal k e at = subst (λ (n : ℕ). IsSizedReply n e.reply) (sym fit) (legal_sized o H k e legal at)

pub history_more : (names : List (List ℕ)) (n : ℕ) (H : List Entry) (e : Entry) →
    history_text names n (H ++ e ∷ []) ≡ history_text names n H ++ entry_text names (n + length H) e.reply
unfolding history_text
history_more names n [] e =
    let number : n ≡ n + 0 = omega arith in
    append-nil (entry_text names n e.reply) ∙ ap (λ (k : ℕ). entry_text names k e.reply) number
history_more names n (x ∷ H) e =
    let number : (n + 1) + length H ≡ n + length (x ∷ H) = omega arith in
    ap (λ (rest : List ℕ). entry_text names n x.reply ++ rest) (history_more names (n + 1) H e)
    ∙ sym (append_assoc (entry_text names n x.reply) (history_text names (n + 1) H)
    (entry_text names ((n + 1) + length H) e.reply))
    ∙ ap (λ (k : ℕ). (entry_text names n x.reply ++ history_text names (n + 1) H) ++ entry_text names k e.reply) number
