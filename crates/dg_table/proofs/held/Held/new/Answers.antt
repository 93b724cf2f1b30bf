use Rattle.dg_table.proofs.Common.{ℕ, arith, get_or-replicate, length-replicate}
use Rattle.dg_table.proofs.Steps.{held_none}
use Rattle.dg_table.proofs.held.Held.new.Goals as goal

pub invariant_of-result : goal.invariant_of-result
invariant_of-result g c =
    let zero : ℕ = 0 in (
      rw c.requires.pen (held_none g.N.Name.table.seats _ (rw c.requires.start at c.new.ensures) (length-replicate 64 zero)
          (λ s below. get_or-replicate 64 s zero zero below) (omega (arith, c.requires.seats, c.requires.count))),
      c.requires.seats,
      c.requires.roll.0,
      rw c.requires.pen c.requires.roll.1,
    )
