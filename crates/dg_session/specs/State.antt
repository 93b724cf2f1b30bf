-- The state of a session: its seats, in order, and for each the number of the look that it keeps, if it
-- keeps one. A seat that is not spoken for stays as it is.
--   State                       == the seats, and the looks that they keep; the history as the last line left
--                                  it; and what all lines have entered, in their order
--   EntriesSoFarView            == of a state the history and what was entered
--   begun xs                    == the seats, and no look is kept; there was no line
--   IsFor how n line i words    == of n seats, the line is for that at the place i, from 0, and the words are
--                                  its command line: the line begins with the number i + 1 and a space; or it
--                                  names no seat, and is for the first
--   IsForNobody how n line      == the line is for none of n seats
--   ReplacesAt i xs ys x y      == the list xs has x at the place i, and ys is the same with y there
--   Turn t i words s z outcome   == the command line, taken by the seat at the place i, has this outcome. No other
--                                  seat or look changes. What it enters comes after the whole history that the
--                                  line before left, and it leaves the history that its seat has met then
--   Does t s line z outcome     == the line, in the state s, has this outcome, and the state is z then: it is
--                                  for nobody, and answered by `bad seat`; or memory is refused to it; or it
--                                  is a turn of the seat that it is for
--   Answers t s ls z text       == the lines ls are answered one after another, from the state s to the state
--                                  z, with the text
--   AreInOrder s                == what the lines have entered has ascending numbers, and stands in the history
--                                  that the last line left. That history is empty, or one of the seats has met it
use Rattle.std.specs.Prelude.{◌≡◌, ℕ, ◌+◌, ◌<◌, ◌⊎◌, List, [], ◌∷◌, ◌++◌, length, map, Option, None, Some, slice_get, Result, Ok, Err}
use Rattle.std.specs.List.{slice_set}
use Rattle.dg_session.specs.Common.{Entry, SeatView, IsSeatedLine, line_fault_text, Seat, StandIn}
use Rattle.dg_session.specs.Commands.{Setup, Ascend, ComesAfter, Gains, OfLine}
use Rattle.dg_session.specs.declared.line_format.LineFormat.{LineFormat}
use Rattle.dg_session.specs.declared.line_format.LineFormat.TheVariants.{OneSeat, BySeat}
use Rattle.dg_session.specs.declared.ends.SessionEnd.{SessionEnd}
use Rattle.dg_session.specs.declared.ends.SessionEnd.TheVariants.{Memory}

pub record State : Type 0 where
  pub seats : List SeatView
  pub looks : List (Option ℕ)
  pub history : List Entry
  pub entered : List (ℕ × Entry)

pub record EntriesSoFarView : Type 0 where
  pub history : List Entry
  pub entered : List (ℕ × Entry)

abbrev pub begun : List SeatView → State
begun xs = record { seats = xs; looks = map (λ x. None) xs; history = []; entered = [] }

abbrev pub IsFor : LineFormat → ℕ → List ℕ → ℕ → List ℕ → Type 0
IsFor OneSeat n line i words = (i ≡ 0) × (words ≡ line)
IsFor BySeat n line i words = IsSeatedLine (i + 1) words line × (i < n)

abbrev pub IsForNobody : LineFormat → ℕ → List ℕ → Type 0
IsForNobody how n line = (i : ℕ) (words : List ℕ) → ¬ IsFor how n line i words

pub record ReplacesAt {A : Type 0} (i : ℕ) (xs ys : List A) (x y : A) : Type 0 where
  pub old : slice_get xs i ≡ Some x
  pub new : ys ≡ slice_set xs i y

pub record Turn (t : Setup) (i : ℕ) (words : List ℕ) (s z : State) (outcome : Result (List ℕ) SessionEnd)
    : Type 0 where
  pub x : SeatView
  pub y : SeatView
  pub look : Option ℕ
  pub after : Option ℕ
  pub seat : ReplacesAt i s.seats z.seats x y
  pub kept : ReplacesAt i s.looks z.looks look after
  pub made : List (ℕ × Entry)
  pub does : OfLine t words y look made after outcome
  pub gained : Gains x y made
  pub order : ComesAfter s.history made y.met
  pub history : z.history ≡ y.met
  pub entered : z.entered ≡ s.entered ++ made

abbrev pub Does : Setup → State → List ℕ → State → Result (List ℕ) SessionEnd → Type 0
Does t s line z outcome =
    (IsForNobody t.how (length s.seats) line × (z ≡ s) × (outcome ≡ Ok (line_fault_text Seat)))
    ⊎ ((outcome ≡ Err Memory) × (z ≡ s))
    ⊎ ((i : ℕ) × (words : List ℕ) × IsFor t.how (length s.seats) line i words × Turn t i words s z outcome)

unfoldable pub Answers : Setup → State → List (List ℕ) → State → List ℕ → Type 0
Answers t s [] z text = (z ≡ s) × (text ≡ [])
Answers t s (line ∷ ls) z text = (m : State) × (front back : List ℕ) ×
    Does t s line m (Ok front) × Answers t m ls z back × (text ≡ front ++ back)

pub record AreInOrder (s : State) : Type 0 where
  pub ascend : Ascend 0 s.entered
  pub stand : StandIn s.history s.entered
  pub met : (s.history ≡ [])
      ⊎ ((i : ℕ) × (x : SeatView) × (slice_get s.seats i ≡ Some x) × (s.history ≡ x.met))
