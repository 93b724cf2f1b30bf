-- The digits, and the sign before them where the number is below 0.
use Rattle.dg_lines.proofs.Common.{◌≡◌, ◌<◌, ◌+◌, ◌-◌, ◌++◌, List, ℕ, drop, ap, arith, rules, to_z-of_z, ints, length-decimal-le, drop-set}
use Rattle.std.specs.Int.RustNames.{unsigned_abs}
use Rattle.dg_lines.proofs.Signs.{minus_first, one_digit}
use Rattle.dg_lines.proofs.digits.write_number.Goals as goal

pub returns-then-number-lt10-clause-written : goal.returns-then-number-lt10-clause-written
returns-then-number-lt10-clause-written c =
    let back = to_z-of_z c.ranges.number in
    let few : unsigned_abs c.args.number < 10 = omega (arith, ints) in
    let e : c.args.end - 1 + 1 ≡ c.args.end = omega arith in
    rw (drop-set c.args.line.now (c.args.end - 1) _ (omega arith), e, back)
    (ap (λ (digits : List ℕ). digits ++ drop c.args.end c.args.line.now)
    (one_digit c.args.number (rw back at c.if-number-ge0.true) few))

pub write_digits-start-requires : goal.write_digits-start-requires
write_digits-start-requires c =
    (omega (arith, length-decimal-le 19 c.unsigned_abs.result (omega arith) (omega arith) (omega arith)), search rules)

pub returns-then-number-ge0-2-clause-short : goal.returns-then-number-ge0-2-clause-short
returns-then-number-ge0-2-clause-short c =
    omega (arith, length-decimal-le 19 c.unsigned_abs.result (omega arith) (omega arith) (omega arith))

pub overflow_sub-line-2 : goal.overflow_sub-line-2
overflow_sub-line-2 c =
    omega (arith, length-decimal-le 19 c.unsigned_abs.result (omega arith) (omega arith) (omega arith))

pub overflow_sub-result-2 : goal.overflow_sub-result-2
overflow_sub-result-2 c =
    omega (arith, length-decimal-le 19 c.unsigned_abs.result (omega arith) (omega arith) (omega arith))

pub returns-clause-short : goal.returns-clause-short
returns-clause-short c =
    omega (arith, length-decimal-le 19 c.unsigned_abs.result (omega arith) (omega arith) (omega arith))

pub returns-clause-written : goal.returns-clause-written
returns-clause-written c =
    let w = c.write_digits-start in
    let long = length-decimal-le 19 c.unsigned_abs.result (omega arith) (omega arith) (omega arith) in
    let e : w.result - 1 + 1 ≡ w.result = omega arith in
    let back = to_z-of_z c.ranges.number in
    rw (drop-set w.new.buf (w.result - 1) 45 (omega arith), e, w.ensures.written, c.unsigned_abs.ensures.value, back)
    (ap (λ (digits : List ℕ). digits ++ drop c.args.end c.args.line.now)
    (minus_first c.args.number (rw back at c.if-number-ge0-2.false)))
