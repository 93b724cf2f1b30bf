-- The step that is next has the seat, whatever its command.
use Rattle.dg_game.proofs.Common.{◌≡◌, ◌∙◌, arith, length}
use Rattle.std.proofs.Common.{ℕ, ◌<◌, ◌≤◌, inl, inr, ◌⊎◌}
use Rattle.dg_game.proofs.schedule.Rehearsal.seat_fault.Goals as goal

no_seat : (s : ℕ) → (s < 1) ⊎ ((1 ≤ s) × (64 < s)) → (1 ≤ s) × (s ≤ 64) → ⊥
no_seat s (inl low) (least, most) = omega arith
no_seat s (inr (some, high)) (least, most) = omega arith

pub returns-then-seat-lt1 : goal.returns-then-seat-lt1
returns-then-seat-lt1 c = λ command. (
  λ no. cc,
  λ o H steps playing there.
      let here : c.entries-i.result ≡ length H = c.entries-i.ensures.entries ∙ playing.leads.entries in (
        c.entries-i.ensures.limit,
        rw here playing.good,
        (
          record { seat = c.args.seat; command = command },
          rw here there,
          no_seat c.args.seat c.then-seat-lt1.either,
        ),
      ),
)

pub returns-then-i-eq-MAX_ENTRIES : goal.returns-then-i-eq-MAX_ENTRIES
returns-then-i-eq-MAX_ENTRIES c = λ command. (
  λ no. cc,
  λ o H steps playing there.
      let here : c.entries-i.result ≡ length H = c.entries-i.ensures.entries ∙ playing.leads.entries in (
        c.if-i-eq-MAX_ENTRIES.true,
        rw here playing.good,
        (
          record { seat = c.args.seat; command = command },
          rw here there,
          (c.if-seat-lt1.false, c.if-seat-gt-MAX_SEATS.false),
        ),
      ),
)
