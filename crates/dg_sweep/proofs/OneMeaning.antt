-- A line of amounts has one meaning.
--   spelled_once      numbers are spelled in one way
--   amounts_meaning_is_unique
use Rattle.dg_sweep.proofs.Common.{◌≡◌, ◌≢◌, ℕ, ℤ, List, [], ◌∷◌, length, map, All, FitsSigned, w64, refl, sym, ap, ◌∙◌, arith, subst, signed_decimal, signed_decimal_injective, All-head, All-tail, StartData, Vector, HoldsNumbers, IsChipFault, held_once, FileFault, AmountsMeaningIsUnique, SpellsAmounts, LineStandsFor, IsAmountsFault}
use Rattle.dg_lines.proofs.Meaning.{same_words}
use Rattle.dg_file.proofs.OneTable.{chip-one, chip-none}
use Rattle.dg_file.specs.declared.fault.FileFault.TheVariants as fault
use Rattle.dg_file.specs.declared.fault.Shape.TheVariants as shape

abbrev Fits : ℤ → Type 0
Fits = FitsSigned w64

spelled_once : (xs ys : List ℤ) → map signed_decimal xs ≡ map signed_decimal ys → All Fits xs → All Fits ys → xs ≡ ys
spelled_once [] [] e first second = refl
spelled_once [] (y ∷ ys) e first second = absurd (omega (arith, ap length e))
spelled_once (x ∷ xs) [] e first second = absurd (omega (arith, ap length e))
spelled_once (x ∷ xs) (y ∷ ys) e first second =
    let (head, tail) =
    same_words (signed_decimal x) (signed_decimal y) (map signed_decimal xs) (map signed_decimal ys) e in
    let same : x ≡ y =
    signed_decimal_injective x y (All-head Fits x xs first).sfits (All-head Fits y ys second).sfits head in
    let rest : xs ≡ ys = spelled_once xs ys tail (All-tail Fits x xs first) (All-tail Fits y ys second) in
    ap (λ (z : ℤ). z ∷ xs) same ∙ ap (λ (zs : List ℤ). y ∷ zs) rest

line_once : (line : List ℕ) (xs ys : List ℤ) → SpellsAmounts line xs → SpellsAmounts line ys → xs ≡ ys
line_once line xs ys first second =
    spelled_once xs ys (sym first.spelled ∙ second.spelled) first.held second.held

fault_once : (n : ℕ) (line : List ℕ) (f h : FileFault) → f ≢ fault.OutOfMemory → h ≢ fault.OutOfMemory
    → IsAmountsFault n line f → IsAmountsFault n line h → f ≡ h
fault_once n line fault.OutOfMemory h known known' a b = absurd (known refl)
fault_once n line f fault.OutOfMemory known known' a b = absurd (known' refl)
fault_once n line (fault.Shape shape.Amounts) (fault.Shape shape.Amounts) known known' a b = refl
fault_once n line (fault.Shape shape.Amounts) (fault.Chip d) known known' a (ys, spells, b) = absurd (a ys spells)
fault_once n line (fault.Chip c) (fault.Shape shape.Amounts) known known' (xs, spells, a) b = absurd (b xs spells)
fault_once n line (fault.Chip c) (fault.Chip d) known known' (xs, spells, a) (ys, spells', b) =
    let same : xs ≡ ys = line_once line xs ys spells spells' in
    ap fault.Chip (chip-one n ys c d (subst (λ (zs : List ℤ). IsChipFault n zs c) same a) b)
fault_once n line (fault.Shape shape.Amounts) h known known' a b = absurd b
fault_once n line (fault.Chip c) h known known' a b = absurd b
fault_once n line f h known known' a b = absurd a

no_start : (o p : StartData) (line : List ℕ) (f : FileFault) → f ≢ fault.OutOfMemory
    → IsAmountsFault o.graph.size line f → LineStandsFor o line p → ⊥
no_start o p line fault.OutOfMemory known a has = known refl
no_start o p line (fault.Shape shape.Amounts) known a has = a has.xs has.spelled
no_start o p line (fault.Chip c) known (xs, spells, a) has =
    let same : xs ≡ has.xs = line_once line xs has.xs spells has.spelled in
    chip-none o.graph.size has.xs has.divisor has.size has.amounts has.within c
    (subst (λ (zs : List ℤ). IsChipFault o.graph.size zs c) same a)
no_start o p line f known a has = absurd a

start_once : (o p r : StartData) (line : List ℕ) → LineStandsFor o line p → LineStandsFor o line r → p ≡ r
start_once o p r line a b =
    let same : a.xs ≡ b.xs = line_once line a.xs b.xs a.spelled b.spelled in
    let amounts : HoldsNumbers b.xs a.divisor = subst (λ (zs : List ℤ). HoldsNumbers zs a.divisor) same a.amounts in
    let divisor : a.divisor ≡ b.divisor =
    held_once 1_000_000 b.xs a.divisor b.divisor amounts b.amounts a.within b.within in
    a.rest ∙ ap {B = StartData} (λ (d : Vector). record o { divisor = d }) divisor ∙ sym b.rest

pub amounts_meaning_is_unique : AmountsMeaningIsUnique
amounts_meaning_is_unique = record {
  start = start_once;
  refused = no_start;
  fault = fault_once;
}
