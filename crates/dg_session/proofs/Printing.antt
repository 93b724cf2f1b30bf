-- What is printed, one line more at the end.
--   entries_more     the text of one entry more ends with its line
--   entries_step     so do texts that go on with these lines
--   calls_more       the text of one seat more ends with its line
--   calls_step       so do texts that go on with these lines
use Rattle.std.proofs.Common.{◌≡◌, ℕ, ◌+◌, ◌<◌, List, [], ◌∷◌, ◌++◌, length, take, arith, sym, ap, ◌∙◌, append_assoc, append-nil}
use Rattle.std.proofs.lemmas.List.{length-take-le}
use Rattle.dg_rules.specs.declared.entry.Entry.{Entry}
use Rattle.dg_session.specs.Printed.{numbered_entry_text, numbered_entries_text, seat_text, calls_text}

pub entries_more : (names : List (List ℕ)) (n : ℕ) (H : List Entry) (e : Entry) →
    numbered_entries_text names n (H ++ e ∷ []) ≡ numbered_entries_text names n H ++ numbered_entry_text names (n + length H) e
unfolding numbered_entries_text
entries_more names n [] e =
    let number : n ≡ n + 0 = omega arith in
    append-nil (numbered_entry_text names n e) ∙ ap (λ (k : ℕ). numbered_entry_text names k e) number
entries_more names n (x ∷ H) e =
    let number : (n + 1) + length H ≡ n + length (x ∷ H) = omega arith in
    ap (λ (rest : List ℕ). numbered_entry_text names n x ++ rest) (entries_more names (n + 1) H e)
    ∙ sym (append_assoc (numbered_entry_text names n x) (numbered_entries_text names (n + 1) H)
    (numbered_entry_text names ((n + 1) + length H) e))
    ∙ ap (λ (k : ℕ). (numbered_entry_text names n x ++ numbered_entries_text names (n + 1) H) ++ numbered_entry_text names k e)
    number

pub entries_step : (names : List (List ℕ)) (H : List Entry) (n : ℕ) (e : Entry) (start text next : List ℕ)
    → n < length H
    → take (n + 1) H ≡ take n H ++ e ∷ [] → text ≡ start ++ numbered_entries_text names 0 (take n H)
    → next ≡ text ++ numbered_entry_text names n e → next ≡ start ++ numbered_entries_text names 0 (take (n + 1) H)
entries_step names H n e start text next within longer before written =
    let number : 0 + length (take n H) ≡ n = omega (arith, length-take-le n H) in
    written ∙ ap (λ (t : List ℕ). t ++ numbered_entry_text names n e) before
    ∙ append_assoc start (numbered_entries_text names 0 (take n H)) (numbered_entry_text names n e)
    ∙ ap (λ (t : List ℕ). start ++ t)
    (ap (λ (k : ℕ). numbered_entries_text names 0 (take n H) ++ numbered_entry_text names k e) (sym number)
    ∙ sym (entries_more names 0 (take n H) e) ∙ ap (numbered_entries_text names 0) (sym longer))

pub calls_more : (s : ℕ) (calls : List ℕ) (count : ℕ) →
    calls_text s (calls ++ count ∷ []) ≡ calls_text s calls ++ seat_text (s + length calls) count
unfolding calls_text
calls_more s [] count =
    let number : s ≡ s + 0 = omega arith in
    append-nil (seat_text s count) ∙ ap (λ (k : ℕ). seat_text k count) number
calls_more s (x ∷ calls) count =
    let number : (s + 1) + length calls ≡ s + length (x ∷ calls) = omega arith in
    ap (λ (rest : List ℕ). seat_text s x ++ rest) (calls_more (s + 1) calls count)
    ∙ sym (append_assoc (seat_text s x) (calls_text (s + 1) calls) (seat_text ((s + 1) + length calls) count))
    ∙ ap (λ (k : ℕ). (seat_text s x ++ calls_text (s + 1) calls) ++ seat_text k count) number

pub calls_step : (calls : List ℕ) (n count : ℕ) (start text next : List ℕ) → n < length calls
    → take (n + 1) calls ≡ take n calls ++ count ∷ [] → text ≡ start ++ calls_text 1 (take n calls)
    → next ≡ text ++ seat_text (n + 1) count → next ≡ start ++ calls_text 1 (take (n + 1) calls)
calls_step calls n count start text next within longer before written =
    let number : 1 + length (take n calls) ≡ n + 1 = omega (arith, length-take-le n calls) in
    written ∙ ap (λ (t : List ℕ). t ++ seat_text (n + 1) count) before
    ∙ append_assoc start (calls_text 1 (take n calls)) (seat_text (n + 1) count)
    ∙ ap (λ (t : List ℕ). start ++ t)
    (ap (λ (k : ℕ). calls_text 1 (take n calls) ++ seat_text k count) (sym number)
    ∙ sym (calls_more 1 (take n calls) count) ∙ ap (calls_text 1) (sym longer))
