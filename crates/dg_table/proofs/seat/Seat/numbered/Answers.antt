use Rattle.dg_table.proofs.Rolls.{roll_none}
use Rattle.dg_table.proofs.Common.{◌≡◌, ◌+◌, [], ◌∷◌, ◌++◌, length, arith, ap, ◌∙◌, inl, inr, length_push, more_holds}
use Rattle.dg_table.proofs.seat.Seat.numbered.Goals as goal

pub loop-i-preserved : goal.loop-i-preserved
loop-i-preserved g c =
    let items : c.push.new.self.items ≡ c.loop-i.seats.items ++ c.new.result ∷ [] =
    (rw c.unwrap.ensures at c.push.ensures.items) in
    record {
      count = ap length items ∙ omega (arith, length_push c.loop-i.seats.items c.new.result, c.loop-i.invariant.count);
      fresh = λ k x at. elim (more_holds c.loop-i.seats.items c.new.result k x (rw items at at)) [
        | inl old ↦ c.loop-i.invariant.fresh k x old.1
        | inr last ↦
            let number : c.new.result.number ≡ k + 1 =
            omega (arith, c.new.ensures.number, last.0, c.loop-i.invariant.count) in
            rw last.1 (number, c.new.ensures.mine, c.new.ensures.told, c.new.ensures.prefix, c.new.ensures.met)
      ];
      room = omega (arith, c.push.ensures.capacity, c.loop-i.invariant.room);
      names = c.enroll-claim.ensures.0 ∙ c.loop-i.invariant.names;
      tallies = c.enroll-claim.ensures.1 ∙ c.loop-i.invariant.tallies;
      claimed = c.enroll-claim.ensures.2 ∙ ap (λ k. k + 1) c.loop-i.invariant.claimed;
    }

pub new-requires-clause-claim : goal.new-requires-clause-claim
new-requires-clause-claim g c = (
  c.enroll-claim.ensures.3 ∙ c.loop-i.invariant.names ∙ c.requires.roll.0,
  omega (arith, c.enroll-claim.ensures.4, c.loop-i.invariant.claimed),
  c.enroll-claim.ensures.5,
)

pub returns-clause-roll : goal.returns-clause-roll
returns-clause-roll g c = (
  c.loop-i.invariant.names ∙ c.requires.roll.0,
  rw (c.loop-i.invariant.tallies, c.requires.roll.1.zeros) (roll_none c.args.roll.names),
)

pub enroll-claim-requires : goal.enroll-claim-requires
enroll-claim-requires g c =
    let seats = ap length c.loop-i.invariant.names ∙ c.requires.roll.1.seats in
    omega (arith, seats, c.loop-i.invariant.claimed, c.requires.seats)
