-- A seat has one digit, or two of which the first is not 0.
use Rattle.dg_lines.proofs.Common.{inl, inr, arith}
use Rattle.dg_lines.proofs.SeatDigits.{one_digit, two_digits, seat_one, seat_two, seat_length, told_weaker}
use Rattle.dg_lines.proofs.number.seat_from_decimal.Goals as goal

pub returns-then-text-eq48 : goal.returns-then-text-eq48
returns-then-text-eq48 c n first last e =
    let (many, tens, ones) = seat_two c.args.text.now n last e c.in-2.is in
    omega (arith, many, tens, c.if-text-eq48.true)

pub returns-in-1 : goal.returns-in-1
returns-in-1 c =
    told_weaker c.seat_of_digits.result _ _ _ _ c.seat_of_digits.ensures
    (λ none n first last e.
    let (tens, ones) = seat_one c.args.text.now n last e c.in-1.is in none n first last tens ones)
    (λ n known. (known.0, known.1, one_digit c.args.text.now n c.in-1.is known.2 known.3))

pub returns-else-text-eq48 : goal.returns-else-text-eq48
returns-else-text-eq48 c =
    told_weaker c.seat_of_digits-in-2.result _ _ _ _ c.seat_of_digits-in-2.ensures
    (λ none n first last e.
    let (many, tens, ones) = seat_two c.args.text.now n last e c.in-2.is in none n first last tens ones)
    (λ n known. (
      known.0,
      known.1,
      two_digits c.args.text.now n c.in-2.is (omega (arith, known.1)) known.2 known.3
          (λ zero. omega (arith, zero, c.if-text-eq48.false)),
    ))

pub returns-in_default : goal.returns-in_default
returns-in_default c n first last e = elim (seat_length c.args.text.now n last e) [
  | inl one ↦ absurd (omega (arith, one, c.in_default))
  | inr two ↦ absurd (omega (arith, two, c.in_default))
]
