-- Steps: a line is that of a seat and a text where a seat stands before its first space, and the text after it.
--   seated         such a line is that of the seat and the text
--   seated_parts   a line of a seat and a text has the seat before its first space and the text after it
--   no_seat_before, no_space_after   where there is no such seat, or no space, the line is that of no seat
use Rattle.dg_lines.proofs.Common.{◌≡◌, ℕ, ◌<◌, ◌≤◌, ◌^◌, List, ◌∷◌, ◌++◌, Some, None, ap, sym, ◌∙◌, arith, codes, decimal, append_assoc, digits_value, decimal_is_IsNumeral, IsSeatedLine}
use Rattle.dg_lines.specs.Cuts.{before, after}
use Rattle.dg_lines.proofs.Joining.{cut_joined, before_joined, after_joined, no_space_in_digits}

spaced : (front back : List ℕ) → front ++ 32 ∷ back ≡ front ++ codes " " ++ back
spaced front back = sym (simp append_assoc)

abbrev pub IsNoSeat : List ℕ → Type 0
IsNoSeat text = (seat : ℕ) → 1 ≤ seat → seat ≤ 64 → text ≡ decimal seat → ⊥

pub seated : (line : List ℕ) (seat : ℕ) (text : List ℕ) → (1 ≤ seat) × (seat ≤ 64) × (before 32 line ≡ decimal seat)
    → after 32 line ≡ Some text → IsSeatedLine seat text line
seated line seat text front back = record {
  whole = cut_joined 32 line text back ∙ ap (λ first. first ++ 32 ∷ text) front.2 ∙ spaced (decimal seat) text;
  first = front.0;
  last = front.1;
}

pub seated_parts : (line : List ℕ) (seat : ℕ) (text : List ℕ) → IsSeatedLine seat text line
    → (before 32 line ≡ decimal seat) × (after 32 line ≡ Some text)
    × (Some (digits_value 10 (before 32 line)) ≡ Some seat)
seated_parts line seat text known =
    let small : seat < 2 ^ 64 = omega (arith, known.last) in
    let digits = decimal_is_IsNumeral seat small in
    let no_space = no_space_in_digits (decimal seat) digits.0.1 in
    let whole : line ≡ decimal seat ++ 32 ∷ text = known.whole ∙ sym (spaced (decimal seat) text) in
    let front : before 32 line ≡ decimal seat = ap (before 32) whole ∙ before_joined 32 (decimal seat) text no_space in
    let back : after 32 line ≡ Some text = ap (after 32) whole ∙ after_joined 32 (decimal seat) text no_space in
    (front, back, ap (λ ds. Some (digits_value 10 ds)) front ∙ ap Some digits.1)

abbrev pub IsUnseated : List ℕ → Type 0
IsUnseated line = (seat : ℕ) (text : List ℕ) → IsSeatedLine seat text line → ⊥

pub no_seat_before : (line : List ℕ) → IsNoSeat (before 32 line) → IsUnseated line
no_seat_before line none seat text known =
    none seat known.first known.last (seated_parts line seat text known).0

pub no_space_after : (line : List ℕ) → after 32 line ≡ None → (seat : ℕ) (text : List ℕ) → IsSeatedLine seat text line → ⊥
no_space_after line none seat text known =
    let parts = seated_parts line seat text known in
    let no : Some text ≡ None = sym parts.1 ∙ none in
    cc
