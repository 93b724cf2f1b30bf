-- A line spells no two steps, has no two faults, and never both.
--   step_meaning_is_unique
use Rattle.dg_lines.proofs.Common.{◌≡◌, ℕ, ◌⊎◌, inl, inr, List, Some, refl, sym, ◌∙◌, subst, Step, LineFault, Seat, Word, Form, Name, Number, SpellsCommand, IsLineFault, StepMeaningIsUnique, IsSeatedLine, IsStepLine, IsTextFault, IsStepFault}
use Rattle.dg_lines.proofs.Meaning.{line_meaning_is_unique}
use Rattle.dg_lines.proofs.Stepping.{IsUnseated, seated_parts}

module _ (names : List (List ℕ)) (line : List ℕ) where
  -- a line is that of one seat and one text
  one_seat : (s t : ℕ) (a b : List ℕ) → IsSeatedLine s a line → IsSeatedLine t b line → (s ≡ t) × (a ≡ b)
  one_seat s t a b first second =
      let one = seated_parts line s a first in
      let other = seated_parts line t b second in
      let seats : Some s ≡ Some t = sym one.2 ∙ other.2 in
      let texts : Some a ≡ Some b = sym one.1 ∙ other.1 in
      (cc, cc)

  -- a fault is that of the seat or that of the text
  abbrev IsEither : LineFault → Type 0
  IsEither fault = ((fault ≡ Seat) × IsUnseated line) ⊎ IsTextFault names fault line

  which : (fault : LineFault) → IsStepFault names fault line → IsEither fault
  which Seat refused = inl (refl, refused)
  which Word refused = inr refused
  which Form refused = inr refused
  which Name refused = inr refused
  which Number refused = inr refused

  not_both : (step : Step) (fault : LineFault) → IsStepLine names step line → IsEither fault → ⊥
  not_both step fault known (inl (is, never)) = never step.seat known.text known.seated
  not_both step fault known (inr refused) =
      let same = one_seat step.seat refused.seat known.text refused.text known.seated refused.seated in
      line_meaning_is_unique.not_both names refused.text step.command fault
      (subst (SpellsCommand names step.command) same.1 known.means) refused.refused

  one_fault : (one other : LineFault) → IsEither one → IsEither other → one ≡ other
  one_fault one other (inl (is, never)) (inl (also, neither)) = is ∙ sym also
  one_fault one other (inl (is, never)) (inr refused) = absurd (never refused.seat refused.text refused.seated)
  one_fault one other (inr refused) (inl (is, never)) = absurd (never refused.seat refused.text refused.seated)
  one_fault one other (inr first) (inr second) =
      let same = one_seat first.seat second.seat first.text second.text first.seated second.seated in
      line_meaning_is_unique.fault names second.text one other
      (subst (IsLineFault names one) same.1 first.refused) second.refused

  one_step : (c d : Step) → IsStepLine names c line → IsStepLine names d line
      → c ≡ d
  one_step c d first second =
      let same = one_seat c.seat d.seat first.text second.text first.seated second.seated in
      let means = subst (SpellsCommand names c.command) same.1 first.means in
      let command = line_meaning_is_unique.command names second.text c.command d.command means second.means in
      λ i. record { seat = same.0 i; command = command i }

pub step_meaning_is_unique : StepMeaningIsUnique
step_meaning_is_unique = record {
  not_both = λ names line step fault known refused.
      not_both names line step fault known (which names line fault refused);
  step = one_step;
  fault = λ names line one other first second.
      one_fault names line one other (which names line one first) (which names line other second);
}
