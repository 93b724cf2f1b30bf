use Rattle.dg_run.proofs.Common.{rules, ◌≡◌, ℕ, ◌+◌, ◌<◌, List, [], ◌∷◌, ◌++◌, length, take, sym, ap, ◌∙◌, take_more, Result, Ok, Err, SessionEnd, early}
use Rattle.dg_run.proofs.Ends.{early_taken}
use Rattle.dg_run.proofs.parties.early_ends.Goals.{in-Err+in_ok-push, in_default}
use Rattle.dg_run.proofs.parties.early_ends.Goals as goal

longer : (ends : List (Result ℕ SessionEnd)) (place : ℕ) (default end : Result ℕ SessionEnd) → place < length ends →
    take (place + 1) ends ≡ take place ends ++ default ∷ [] → default ≡ end →
    early 1 (take (place + 1) ends) ≡ early 1 (take place ends) ++ early (place + 1) (end ∷ [])
longer ends place default end within more same =
    early_taken place ends end within (more ∙ ap (λ (x : Result ℕ SessionEnd). take place ends ++ x ∷ []) same)

pub ends-preserved : goal.ends-preserved
ends-preserved c = elim c.match-end.branch [
  | in-Err+in_ok-push w ↦
      let taken = longer c.args.ends.now c.ends.place _ (Err w.in-Err.end) c.ends-test.true
      (take_more c.args.ends.now c.ends.place (Ok 0) c.ends-test.true) w.in-Err.is in
      rw w.all-is (w.in_ok-push.ensures.items
      ∙ ap (λ (all : List (ℕ × SessionEnd)). all ++ (c.ends.place + 1, w.in-Err.end) ∷ []) c.ends.invariant
      ∙ sym taken)
  | in_default w ↦
      let taken = longer c.args.ends.now c.ends.place _ (Ok w.in_default.field-0) c.ends-test.true
      (take_more c.args.ends.now c.ends.place (Ok 0) c.ends-test.true) w.in_default.is in
      rw w.all-is (c.ends.invariant ∙ sym (taken ∙ search rules))
]
