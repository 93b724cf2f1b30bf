-- Lines that a seat hears.
--   heard       a line has the outcome of its command
--   bad_heard   a line with a fault is answered by it
use Rattle.dg_session.proofs.Common.{inl, inr, ℕ, List, Result, Ok, Err, refl, Command, SpellsCommand, IsLineFault, LineFault, Setup, Seated, Answer, BadLine, Hears, Obeys, OfCommand, OfLine, SessionEnd, Memory, made_by, said_by, Entry, Option, SeatView}
use Rattle.dg_session.proofs.Made.{gains_same}

line_of : (t : Setup) (line : List ℕ) (command : Command) (y : SeatView) (look : Option ℕ) (made : List (ℕ × Entry))
    (after : Option ℕ) (o : Result (List ℕ) SessionEnd) → SpellsCommand t.names command line
    → OfCommand t command y look made after o → OfLine t line y look made after o
line_of t line command y look made after (Ok text) spelled h = inr (command, spelled, h)
line_of t line command y look made after (Err Memory) spelled h = absurd h.1
line_of t line command y look made after (Err end) spelled h = (h.0, command, spelled, h.1)

pub heard : {N : Type 0} {t : Setup} {line : List ℕ} {command : Command} {old new : Seated}
    {result : Result (Answer N) SessionEnd} → SpellsCommand t.names command line
    → Obeys t command old new result → Hears t line old new result
heard {t = t} {line} {command} {old} {new} {result} spelled h = record {
  does = line_of t line command new.seat old.look (made_by result) new.look (said_by t.names result) spelled h.does;
  gained = h.gained;
  named = h.named;
}

pub bad_heard : {N : Type 0} {t : Setup} {line : List ℕ} {old : Seated} (fault : LineFault) → IsLineFault t.names fault line
    → Hears {N = N} t line old old (Ok (BadLine fault))
bad_heard {old = old} fault bad =
    record { does = inl (fault, bad, (refl, refl, refl)); gained = gains_same old.seat; named = tt }
