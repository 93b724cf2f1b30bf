-- How a session ends. s is the state after the n lines that are answered, the rest what follows them in the
-- stream, `no_more` says that no more is to come, and z is the state at the end.
--   Stops t no_more n rest s z end         == the next line has this end as its outcome
--   Ends t no_more n rest s z result       == what each end says. `Ok`: nothing is left, and the lines are counted.
--                                             `Read`: the rest has no whole line. `LongLine`, `Turns`: the rest
--                                             begins with what is too long or too much. `Memory`: the next line has
--                                             this end, or nothing more was entered. `Write`: nothing more was
--                                             entered, or the session stops at the next line. `Table`, `Spawn`: it
--                                             stops there
--   IsAllRead result left                  == nothing is left to read, and no read failed: all lines have come
--   WritesFront t s ls z output text       == the writer took no more: the answers to the lines `done` are written,
--                                             and of those to the others a front, perhaps all; the others have no
--                                             more bytes than one read and one line
--   Writes t s ls z output text result     == the writer took the text, which answers the lines ls from s to z;
--                                             or it took no more
--   IsOver t input output xs ys result     == the session of the seats xs is over, and they are ys. A stream was
--                                             taken from the front of the reader's bytes, if these are known. Its
--                                             first lines are answered, one after another, and the answers are what
--                                             was written. Then it ended so
--   IsSession t input output xs ys result  == a session is over. Each seat has kept its number, and what it knows is
--                                             of a history of the table; what the lines entered comes in their
--                                             order; and a seat that is alone has made just that
use Rattle.std.specs.Prelude.{◌≡◌, ℕ, ◌+◌, ◌<◌, ◌≤◌, ◌⊎◌, List, [], ◌∷◌, ◌++◌, length, All, map, flat_map, Option, Result, Ok, Err, OnOk}
use Rattle.std.specs.Io.KnownBytes.{Appends, Consumes, IsAtEnd}
use Rattle.dg_session.specs.Common.{HasPrefix, SeatView, lines, with_newline, AppendsFront}
use Rattle.dg_session.specs.Streams.{IsLine, IsTooLong, Cuts, Passage}
use Rattle.dg_session.specs.Commands.{Setup}
use Rattle.dg_session.specs.State.{State, begun, Does, Answers, AreInOrder}
use Rattle.dg_session.specs.declared.ends.TheConstants.{MAX_LINE, MAX_LINES, READ_SIZE}
use Rattle.dg_session.specs.declared.ends.SessionEnd.{SessionEnd}
use Rattle.dg_session.specs.declared.ends.SessionEnd.TheVariants.{Read, Write, LongLine, Turns, Memory}

abbrev pub Stops : Setup → Type 0 → ℕ → List ℕ → State → State → SessionEnd → Type 0
Stops t no_more n rest s z end =
    (line more : List ℕ) × Cuts no_more rest (line ∷ []) more × (n < MAX_LINES) × Does t s line z (Err end)

abbrev pub Ends : Setup → Type 0 → ℕ → List ℕ → State → State → Result ℕ SessionEnd → Type 0
Ends t no_more n rest s z (Ok count) = (z ≡ s) × no_more × (rest ≡ []) × (count ≡ n)
Ends t no_more n rest s z (Err Read) = (z ≡ s) × IsLine rest
Ends t no_more n rest s z (Err Write) = (z ≡ s) ⊎ ((end : SessionEnd) × Stops t no_more n rest s z end)
Ends t no_more n rest s z (Err LongLine) = (z ≡ s) × (n < MAX_LINES) × IsTooLong rest
Ends t no_more n rest s z (Err Turns) = (z ≡ s) × (n ≡ MAX_LINES) × (1 ≤ length rest)
Ends t no_more n rest s z (Err Memory) = (z ≡ s) ⊎ Stops t no_more n rest s z Memory
Ends t no_more n rest s z (Err end) = Stops t no_more n rest s z end

abbrev pub IsAllRead : Result ℕ SessionEnd → Option (List ℕ) → Type 0
IsAllRead (Err Read) left = ⊥
IsAllRead result left = IsAtEnd left

pub record WritesFront (t : Setup) (s : State) (ls : List (List ℕ)) (z : State) (output : Passage) (text : List ℕ)
    : Type 0 where
  pub done : List (List ℕ)
  pub others : List (List ℕ)
  pub parts : ls ≡ done ++ others
  pub few : length (flat_map with_newline others) ≤ READ_SIZE + MAX_LINE + 1
  pub middle : State
  pub said : List ℕ
  pub more : List ℕ
  pub all : text ≡ said ++ more
  pub first : Answers t s done middle said
  pub second : Answers t middle others z more
  pub written : AppendsFront output.before output.after said more

abbrev pub Writes : Setup → State → List (List ℕ) → State → Passage → List ℕ → Result ℕ SessionEnd → Type 0
Writes t s ls z output text (Err Write) = WritesFront t s ls z output text
Writes t s ls z output text result = Appends output.before output.after text

pub record IsOver (t : Setup) (input output : Passage) (xs ys : List SeatView) (result : Result ℕ SessionEnd)
    : Type 0 where
  pub stream : List ℕ
  pub read : Consumes input.before input.after stream
  pub answered : List (List ℕ)
  pub rest : List ℕ
  pub cut : Cuts (IsAllRead result input.after) stream answered rest
  pub whole : OnOk result (answered ≡ lines stream)
  pub few : length answered ≤ MAX_LINES
  pub after : State
  pub text : List ℕ
  pub answers : Answers t (begun xs) answered after text
  pub written : Writes t (begun xs) answered after output text result
  pub end : State
  pub ends : Ends t (IsAllRead result input.after) (length answered) rest after end result
  pub seats : end.seats ≡ ys

pub record IsSession (t : Setup) (input output : Passage) (xs ys : List SeatView)
    (result : Result ℕ SessionEnd) : Type 0 where
  pub over : IsOver t input output xs ys result
  pub numbers : map (λ (y : SeatView). y.number) ys ≡ map (λ (x : SeatView). x.number) xs
  pub found : All (HasPrefix t.table) ys
  pub order : AreInOrder over.end
  pub own : (x : SeatView) → xs ≡ x ∷ [] → All (λ (y : SeatView). y.mine ≡ x.mine ++ over.end.entered) ys
