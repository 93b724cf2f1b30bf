-- What is handed on is the number itself, since it fits 32 bits.
use Rattle.dg_chips.proofs.Common.{arith, w32, to_z-of_z}
use Rattle.dg_chips.proofs.firing.lend.Goals as goal

pub returns-then-v-size : goal.returns-then-v-size
returns-then-v-size c = omega arith

pub after_lending-requires-clause-times : goal.after_lending-requires-clause-times
after_lending-requires-clause-times c = rw (to_z-of_z w32 c.args.times c.ranges.times) c.requires.times

pub returns-in-Some : goal.returns-in-Some
returns-in-Some c =
    let (size, amounts, divisor) = rw (to_z-of_z w32 c.args.times c.ranges.times) at c.in-Some.ensures in
    record { vertex = omega arith; size = size; divisor = divisor; amounts = amounts }

pub returns-in-None : goal.returns-in-None
returns-in-None c = (omega arith, rw (to_z-of_z w32 c.args.times c.ranges.times) at c.in-None.ensures)
