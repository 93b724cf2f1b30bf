-- How far a session is, and what each floor promises of its states before and after, from one command up to
-- the bytes that are read. No public contract speaks of it.
--   heard text                     == what was said, if it is kept: nobody hears the others
--   look_of look                   == the number of the look
--   state_of xs looks entries      == the state of a session with these seats and looks
--   Seated                         == how far a seat is: the seat, and the number of the look that it keeps
--   answer_entries a               == the entries that the answer says were made, at most one
--   answer_text names a            == its line
--   Obeys t command old new result == the seat has gained the entries of the answer, which are the command's, as
--                                     is what it says, or the end
--   Hears t line old new result    == so it is with a line
--   Tells words said result        == the words are said; or memory is refused, and nothing is
--   Handles t line old new said result == the line has an outcome, and what it says is said
--   SoFar                          == what came after the last newline, how many lines are answered, and the
--                                     state
--   IsReady at                     == the session can go on: what is pending may be of a line, and a look may
--                                     be kept for each seat
--   Goes t over old bytes rest new text == of the bytes all but the rest are taken: the lines that end in them
--                                     are answered with the text
--   Says t over old bytes rest new said == so they are, and the text is said
--   Halts t over n rest s z end    == the session ends so by itself, by no read and no write
--   Takes t over old bytes new said result == they are all taken, or the session halts at a rest
--   RefusesPart pending count part end == the part of a line is not taken, for its length or as one of a line
--                                     too many
--   IsWritten taken text old new result == all that was said is written, and it ends as the taking did; or a
--                                     front of it is, and the writer took no more
use Rattle.std.specs.Prelude.{◌≡◌, ◌≢◌, ℕ, ◌+◌, ◌<◌, ◌≤◌, ◌⊎◌, List, [], ◌∷◌, ◌++◌, length, map, true, codes, Option, None, Some, Result, Ok, Err, OnOk, IfOk, IfErr, ⊤}
use Rattle.std.specs.Global.{Vec}
use Rattle.std.specs.Io.KnownBytes.{Appends}
use Rattle.dg_session.specs.Common.{Command, Entry, SeatView, LookView, StreamWriting, AppendsFront, entry_text, line_fault_text, HasNames}
use Rattle.dg_session.specs.Streams.{IsLine, Cuts, Passage}
use Rattle.dg_session.specs.Commands.{Setup, Gains, OfCommand, OfLine}
use Rattle.dg_session.specs.State.{State, EntriesSoFarView, begun, Does, Answers}
use Rattle.dg_session.specs.Ends.{Ends}
use Rattle.dg_session.specs.declared.answering.Answer.{Answer}
use Rattle.dg_session.specs.declared.answering.Answer.TheVariants.{Made, NoLook, TooMany, BadLine}
use Rattle.dg_session.specs.declared.taking.SessionProgress.{SessionProgress}
use Rattle.dg_session.specs.declared.ends.TheConstants.{MAX_LINE, MAX_LINES}
use Rattle.dg_session.specs.declared.ends.SessionEnd.{SessionEnd}
use Rattle.dg_session.specs.declared.ends.SessionEnd.TheVariants.{Read, Write, LongLine, Turns, Memory}

abbrev pub heard : Option (Vec ℕ) → Option (List ℕ)
heard None = None
heard (Some text) = Some text.items

abbrev pub look_of : Option LookView → Option ℕ
look_of None = None
look_of (Some look) = Some look.receipt.0

abbrev pub state_of : List SeatView → List (Option LookView) → EntriesSoFarView → State
state_of xs looks entries =
    record { seats = xs; looks = map look_of looks; history = entries.history; entered = entries.entered }

pub record Seated : Type 0 where
  pub seat : SeatView
  pub look : Option ℕ

abbrev pub seated : Option ℕ → SeatView → Seated
seated look x = record { seat = x; look = look }

abbrev pub answer_entries : {N : Type 0} → Answer N → List (ℕ × Entry)
answer_entries (Made r) = r ∷ []
answer_entries answer = []

abbrev pub answer_text : {N : Type 0} → List (List ℕ) → Answer N → List ℕ
answer_text names (Made r) = entry_text names r.0 r.1.reply
answer_text names NoLook = codes "bad look\n"
answer_text names TooMany = codes "bad trials\n"
answer_text names (BadLine fault) = line_fault_text fault

abbrev pub AnswerHasNames : {N : Type 0} → List (List ℕ) → Answer N → Type 0
AnswerHasNames names (Made r) = HasNames names r.1.reply
AnswerHasNames names answer = ⊤

abbrev pub made_by : {N : Type 0} → Result (Answer N) SessionEnd → List (ℕ × Entry)
made_by (Ok answer) = answer_entries answer
made_by (Err end) = []

abbrev pub said_by : {N : Type 0} → List (List ℕ) → Result (Answer N) SessionEnd → Result (List ℕ) SessionEnd
said_by names (Ok answer) = Ok (answer_text names answer)
said_by names (Err end) = Err end

pub record Obeys {N : Type 0} (t : Setup) (command : Command) (old new : Seated) (result : Result (Answer N) SessionEnd)
    : Type 0 where
  pub does : OfCommand t command new.seat old.look (made_by result) new.look (said_by t.names result)
  pub gained : Gains old.seat new.seat (made_by result)
  pub named : IfOk result (AnswerHasNames t.names)

pub record Hears {N : Type 0} (t : Setup) (line : List ℕ) (old new : Seated) (result : Result (Answer N) SessionEnd)
    : Type 0 where
  pub does : OfLine t line new.seat old.look (made_by result) new.look (said_by t.names result)
  pub gained : Gains old.seat new.seat (made_by result)
  pub named : IfOk result (AnswerHasNames t.names)

abbrev pub Tells : {B : Type 0} → List ℕ → Passage → Result B SessionEnd → Type 0
Tells words said (Ok b) = Appends said.before said.after words
Tells words said (Err end) = (end ≡ Memory) × (said.after ≡ said.before)

abbrev pub Handles : {B : Type 0} → Setup → List ℕ → State → State → Passage → Result B SessionEnd → Type 0
Handles t line old new said (Ok b) =
    (text : List ℕ) × Does t old line new (Ok text) × Appends said.before said.after text
Handles t line old new said (Err end) = Does t old line new (Err end) × (said.after ≡ said.before)

pub record SoFar : Type 0 where
  pub pending : List ℕ
  pub count : ℕ
  pub state : State

abbrev pub so_far : {N : Type 0} → SessionProgress N → List SeatView → SoFar
so_far p xs = record {
  pending = p.pending.items;
  count = p.count;
  state = state_of xs p.kept.items p.entries_so_far;
}

abbrev pub beginning : List SeatView → SoFar
beginning xs = record { pending = []; count = 0; state = begun xs }

pub record IsReady (at : SoFar) : Type 0 where
  pub line : IsLine at.pending
  pub few : at.count ≤ MAX_LINES
  pub full : at.count ≡ MAX_LINES → at.pending ≡ []
  pub some : 1 ≤ length at.state.seats
  pub each : length at.state.looks ≡ length at.state.seats

pub record Goes (t : Setup) (over : Type 0) (old : SoFar) (bytes rest : List ℕ) (new : SoFar) (text : List ℕ)
    : Type 0 where
  pub ls : List (List ℕ)
  pub came : Cuts over (old.pending ++ bytes) ls (new.pending ++ rest)
  pub counted : new.count ≡ old.count + length ls
  pub answers : Answers t old.state ls new.state text
  pub ready : IsReady new

pub record Says (t : Setup) (over : Type 0) (old : SoFar) (bytes rest : List ℕ) (new : SoFar) (said : Passage)
    : Type 0 where
  pub text : List ℕ
  pub grown : Appends said.before said.after text
  pub goes : Goes t over old bytes rest new text

abbrev pub Halts : Setup → Type 0 → ℕ → List ℕ → State → State → SessionEnd → Type 0
Halts t over n rest s z end = (end ≢ Read) × (end ≢ Write) × Ends t over n rest s z (Err end)

pub record Takes {B : Type 0} (t : Setup) (over : Type 0) (old : SoFar) (bytes : List ℕ) (new : SoFar)
    (said : Passage) (result : Result B SessionEnd) : Type 0 where
  pub at : SoFar
  pub rest : List ℕ
  pub says : Says t over old bytes rest at said
  pub done : OnOk result ((rest ≡ []) × (at ≡ new))
  pub halted : IfErr result (Halts t over at.count (at.pending ++ rest) at.state new.state)

abbrev pub RefusesPart : List ℕ → ℕ → List ℕ → SessionEnd → Type 0
RefusesPart pending count part Turns = count ≡ MAX_LINES
RefusesPart pending count part LongLine = (count ≢ MAX_LINES) × (MAX_LINE < length pending + length part)
RefusesPart pending count part end = ⊥

abbrev pub IsWritten : {B : Type 0} → Result B SessionEnd → List ℕ → StreamWriting → StreamWriting
    → Result B SessionEnd → Type 0
IsWritten taken text old new result =
    ((taken ≡ result) × Appends old.contents new.contents text)
    ⊎ ((result ≡ Err Write) × AppendsFront old.contents new.contents [] text
    × (new.has_failed ≡ true))
