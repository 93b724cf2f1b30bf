-- What one more entry does to what was read.
--   folds_more     a step more from the state of a fold is a fold with the entry last
--   numbered_more  an entry whose number is how many were read keeps them numbered from 0 on
use Rattle.dg_observer.proofs.Common.{◌≡◌, ℕ, List, [], ◌∷◌, ◌++◌, length, refl, ap, sym, subst, ◌∙◌, inl, inr, FoldsTo, more_holds, Entry, Folds, AreNumbered}

steps_more : {S : Type 0} (R : S → Entry → S → Type 0) (first : S) (entries : List Entry) (last : S) (e : Entry)
    (next : S) → FoldsTo R first entries last → R last e next → FoldsTo R first (entries ++ e ∷ []) next
steps_more R first [] last e next same step = (next, subst (λ s. R s e next) (sym same) step, refl)
steps_more R first (x ∷ entries) last e next steps step =
    (steps.0, steps.1, steps_more R steps.0 entries last e next steps.2 step)

pub folds_more : {S : Type 0} (B : S → Type 0) (R : S → Entry → S → Type 0) (entries : List Entry) (last : S)
    (e : Entry) (next : S) → Folds B R entries last → R last e next → Folds B R (entries ++ e ∷ []) next
folds_more B R entries last e next known step = record {
  first = known.first;
  begun = known.begun;
  steps = steps_more R known.first entries last e next known.steps step;
}

pub numbered_more : (ps : List (ℕ × Entry)) (p : ℕ × Entry) → AreNumbered ps → p.0 ≡ length ps →
    AreNumbered (ps ++ p ∷ [])
numbered_more ps p known number i x at = elim (more_holds ps p i x at) [
  | inl old ↦ known i x old.1
  | inr new ↦ ap (λ (y : ℕ × Entry). y.0) new.1 ∙ number ∙ sym new.0
]
