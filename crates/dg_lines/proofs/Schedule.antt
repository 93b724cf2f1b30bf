-- Lines read one after another: the steps so far are those of the lines so far, and the lines so far with the lines
-- that are left are all the lines.
--   AreRead names all left steps == the lines before those that are left spell the steps
--   none_read, one_more, all_read   at first, with one more line, and at the end
--   steps_seated                    steps that lines spell have seats
use Rattle.dg_lines.proofs.Common.{◌≡◌, ℕ, zero, suc, ◌+◌, length, List, [], ◌∷◌, ◌++◌, Some, refl, ap, sym, ◌∙◌, subst, append_assoc, slice_get, arith, append-nil, length-append, Step, IsStepLine, AreStepsOf, StepsHaveSeats}

pub record AreRead (names : List (List ℕ)) (all left : List (List ℕ)) (steps : List Step) : Type 0 where
  pub front : List (List ℕ)
  pub whole : all ≡ front ++ left
  pub accepted : AreStepsOf names steps front

pub none_read : (names all : List (List ℕ)) → AreRead names all all []
none_read names all =
    record { front = []; whole = refl; accepted = record { count = refl; each = λ k step line e f. cc } }

pub all_read : (names all left : List (List ℕ)) (steps : List Step) → left ≡ [] → AreRead names all left steps →
    AreStepsOf names steps all
all_read names all left steps none known =
    let same : known.front ≡ all = sym (known.whole ∙ ap (λ back. known.front ++ back) none ∙ append-nil known.front) in
    subst (AreStepsOf names steps) same known.accepted

last_more : (names : List (List ℕ)) (steps : List Step) (front : List (List ℕ)) (step : Step) (line : List ℕ) →
    length steps ≡ length front
    → ((k : ℕ) (s : Step) (l : List ℕ) → slice_get steps k ≡ Some s → slice_get front k ≡ Some l →
    IsStepLine names s l) → IsStepLine names step line
    → (k : ℕ) (s : Step) (l : List ℕ) → slice_get (steps ++ step ∷ []) k ≡ Some s →
    slice_get (front ++ line ∷ []) k ≡ Some l → IsStepLine names s l
last_more names [] [] step line count each good zero s l e f =
    let same_step : step ≡ s = cc in
    let same_line : line ≡ l = cc in
    subst (λ x. IsStepLine names x l) same_step (subst (IsStepLine names step) same_line good)
last_more names [] [] step line count each good (suc k) s l e f = cc
last_more names [] (x ∷ front) step line count each good k s l e f = absurd (omega arith)
last_more names (t ∷ steps) [] step line count each good k s l e f = absurd (omega arith)
last_more names (t ∷ steps) (x ∷ front) step line count each good zero s l e f = each zero s l e f
last_more names (t ∷ steps) (x ∷ front) step line count each good (suc k) s l e f =
    last_more names steps front step line (omega arith) (λ j. each (suc j)) good k s l e f

pub one_more : (names all left back : List (List ℕ)) (line : List ℕ) (steps : List Step) (step : Step)
    → left ≡ line ∷ back → IsStepLine names step line → AreRead names all left steps →
    AreRead names all back (steps ++ step ∷ [])
one_more names all left back line steps step next accepted known = record {
  front = known.front ++ line ∷ [];
  whole = known.whole ∙ ap (λ more. known.front ++ more) next ∙ sym (append_assoc known.front (line ∷ []) back);
  accepted = record {
    count = length-append steps (step ∷ []) ∙ ap (λ n. n + 1) known.accepted.count
        ∙ sym (length-append known.front (line ∷ []));
    each = last_more names steps known.front step line known.accepted.count known.accepted.each accepted;
  };
}

some_line : (steps : List Step) (lines : List (List ℕ)) (k : ℕ) (step : Step) → length steps ≡ length lines →
    slice_get steps k ≡ Some step
    → (line : List ℕ) × (slice_get lines k ≡ Some line)
some_line [] lines k step count e = cc
some_line (s ∷ steps) [] k step count e = absurd (omega arith)
some_line (s ∷ steps) (line ∷ lines) zero step count e = (line, refl)
some_line (s ∷ steps) (line ∷ lines) (suc k) step count e = some_line steps lines k step (omega arith) e

pub steps_seated : (names : List (List ℕ)) (steps : List Step) (lines : List (List ℕ)) → AreStepsOf names steps lines →
    StepsHaveSeats steps
steps_seated names steps lines known k step e =
    let line = some_line steps lines k step known.count e in
    let spelled = known.each k step line.0 e line.1 in
    (spelled.seated.first, spelled.seated.last)
