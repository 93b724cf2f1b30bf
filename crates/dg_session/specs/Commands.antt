-- What a command and a line come to at one seat. An entry that is made stands, with its number, in the history
-- that the seat has met. That this is one legal history, where the game answers each entry, is said where a
-- session ends (`IsSession`). `look` is the number of the look that is kept, if one is; an outcome is a text, or
-- an end of the session.
--   Setup                                      == what holds for a whole session: how lines name the seats, the
--                                                 table, the names of its vertices, and how many workers a rank
--                                                 test has
--   setup_of how table names workers           == that of these
--   look_after look n request                  == the look that is kept after an entry with the number n: that
--                                                 number, if it is a look; none, if it enters a verdict or a
--                                                 rank test; otherwise the one that was kept before
--   kept_after look p                          == so it is after the entry p, with its number
--   OnlySays look words made after text        == no entry is made, and these words are said
--   Enters names look request made after text  == one entry is made, that of the request, and its line is
--                                                 said
--   AnswersCommand t look command made after text == the command, with that look kept, makes these entries,
--                                                 leaves that look, and is answered with the text
--   AnswersLine t look line made after text    == so is the line: with its fault, or as the command that it spells
--   CallsTable n look command                  == the command makes an entry, if the table takes it: with
--                                                 that look kept, on n vertices
--   TriesRank n look command                   == the command tries a rank on the look that is kept
--   RefusesCommand t y look command end        == the command ends the session so: the table refused its call,
--                                                 after which the seat is y; or a thread of its rank test did not
--                                                 start, which needs two workers or more
--   OfCommand t command y look made after outcome == the command of the seat, which is y then, has this outcome
--   OfLine t line y look made after outcome    == so has the line; after a refusal of memory it may have made its
--                                                 entry, though its answer was not told
--   Ascend n ps                                == the numbers of the entries ps ascend, and are n or more
--   ComesAfter K made H                        == the history H begins with K, and has the entries made after
--                                                 it, in order
--   looks_named request                        == the number of the look that the request is about, if it is
--                                                 about one
--   Gains x y made                             == the seat x becomes y by making these entries: it keeps its
--                                                 number, has made them after what it had made, and is told of
--                                                 the looks that they are about. What it has found and what it
--                                                 has met only grow; the entries come after what it had met.
--                                                 Without an entry it has found nothing new
use Rattle.std.specs.Prelude.{◌≡◌, ℕ, ◌+◌, ◌≤◌, ◌⊎◌, List, [], ◌∷◌, ◌++◌, length, map, flat_map, Option, Some, None, Result, Ok, Err, codes, ⊤}
use Rattle.dg_session.specs.Common.{IsTestable, call_request, Entry, Request, Look, Judge, Command, Call, Commit, Rank, IsPrefixOf, SeatView, StandIn, RefusesCall, SpellsCommand, IsLineFault, line_fault_text, entry_text, LineFault, TableData}
use Rattle.dg_rules.specs.declared.entry.Request.TheVariants.{Rank as RankRequest}
use Rattle.dg_session.specs.declared.line_format.LineFormat.{LineFormat}
use Rattle.dg_session.specs.declared.ends.SessionEnd.{SessionEnd}
use Rattle.dg_session.specs.declared.ends.SessionEnd.TheVariants.{Table, Memory, Spawn}

pub record Setup : Type 0 where
  pub how : LineFormat
  pub table : TableData
  pub names : List (List ℕ)
  pub workers : ℕ

abbrev pub setup_of : LineFormat → TableData → List (List ℕ) → ℕ → Setup
setup_of how table names workers = record { how = how; table = table; names = names; workers = workers }

abbrev pub look_after : Option ℕ → ℕ → Request → Option ℕ
look_after kept number Look = Some number
look_after kept number (Judge i) = None
look_after kept number (RankRequest i k) = None
look_after kept number request = kept

abbrev pub kept_after : Option ℕ → ℕ × Entry → Option ℕ
kept_after kept p = look_after kept p.0 p.1.request

abbrev pub OnlySays : Option ℕ → List ℕ → List (ℕ × Entry) → Option ℕ → List ℕ → Type 0
OnlySays kept words made after text = (made ≡ []) × (after ≡ kept) × (text ≡ words)

abbrev pub Enters : List (List ℕ) → Option ℕ → Request → List (ℕ × Entry) → Option ℕ → List ℕ
    → Type 0
Enters names kept request made after text =
    (p : ℕ × Entry) × (p.1.request ≡ request) × (made ≡ p ∷ []) × (after ≡ kept_after kept p)
    × (text ≡ entry_text names p.0 p.1.reply)

abbrev pub AnswersCommand : Setup → Option ℕ → Command → List (ℕ × Entry) → Option ℕ → List ℕ
    → Type 0
AnswersCommand t kept (Call plain) made after text =
    Enters t.names kept (call_request plain) made after text
AnswersCommand t None Commit made after text = OnlySays None (codes "bad look\n") made after text
AnswersCommand t (Some i) Commit made after text = Enters t.names (Some i) (Judge i) made after text
AnswersCommand t None (Rank k) made after text = OnlySays None (codes "bad look\n") made after text
AnswersCommand t (Some i) (Rank k) made after text =
    ((¬ IsTestable t.table.start.graph.size k) × OnlySays (Some i) (codes "bad trials\n") made after text)
    ⊎ (IsTestable t.table.start.graph.size k
    × Enters t.names (Some i) (RankRequest i k) made after text)

abbrev pub AnswersLine : Setup → Option ℕ → List ℕ → List (ℕ × Entry) → Option ℕ → List ℕ → Type 0
AnswersLine t kept line made after text =
    ((fault : LineFault) × IsLineFault t.names fault line
    × OnlySays kept (line_fault_text fault) made after text)
    ⊎ ((command : Command) × SpellsCommand t.names command line
    × AnswersCommand t kept command made after text)

abbrev pub CallsTable : ℕ → Option ℕ → Command → Type 0
CallsTable n look (Call plain) = ⊤
CallsTable n None Commit = ⊥
CallsTable n (Some i) Commit = ⊤
CallsTable n None (Rank k) = ⊥
CallsTable n (Some i) (Rank k) = IsTestable n k

abbrev pub TriesRank : ℕ → Option ℕ → Command → Type 0
TriesRank n (Some i) (Rank k) = IsTestable n k
TriesRank n look command = ⊥

abbrev pub RefusesCommand : Setup → SeatView → Option ℕ → Command → SessionEnd → Type 0
RefusesCommand t y look command (Table fault) =
    CallsTable t.table.start.graph.size look command × RefusesCall t.table y fault
RefusesCommand t y look command Spawn = (2 ≤ t.workers) × TriesRank t.table.start.graph.size look command
RefusesCommand t y look command end = ⊥

abbrev pub OfCommand : Setup → Command → SeatView → Option ℕ → List (ℕ × Entry) → Option ℕ
    → Result (List ℕ) SessionEnd → Type 0
OfCommand t command y look made after (Ok text) = AnswersCommand t look command made after text
OfCommand t command y look made after (Err end) = (made ≡ []) × RefusesCommand t y look command end

abbrev pub OfLine : Setup → List ℕ → SeatView → Option ℕ → List (ℕ × Entry) → Option ℕ
    → Result (List ℕ) SessionEnd → Type 0
OfLine t line y look made after (Ok text) = AnswersLine t look line made after text
OfLine t line y look made after (Err Memory) =
    (made ≡ []) ⊎ ((other : Option ℕ) × (text : List ℕ) × AnswersLine t look line made other text)
OfLine t line y look made after (Err end) =
    (made ≡ []) × (command : Command) × SpellsCommand t.names command line × RefusesCommand t y look command end

abbrev pub Ascend : ℕ → List (ℕ × Entry) → Type 0
Ascend n [] = ⊤
Ascend n (p ∷ ps) = (n ≤ p.0) × Ascend (p.0 + 1) ps

pub record ComesAfter (K : List Entry) (made : List (ℕ × Entry)) (H : List Entry) : Type 0 where
  pub begins : IsPrefixOf K H
  pub stand : StandIn H made
  pub after : Ascend (length K) made

abbrev pub looks_named : Request → List ℕ
looks_named (Judge i) = i ∷ []
looks_named (RankRequest i k) = i ∷ []
looks_named request = []

pub record Gains (x y : SeatView) (made : List (ℕ × Entry)) : Type 0 where
  pub number : y.number ≡ x.number
  pub mine : y.mine ≡ x.mine ++ made
  pub looks : List (ℕ × Entry)
  pub told : y.told ≡ x.told ++ looks
  pub named : map (λ p. p.0) looks ≡ flat_map (λ p. looks_named p.1.request) made
  pub stand : StandIn y.met looks
  pub prefix : IsPrefixOf x.prefix y.prefix
  pub order : ComesAfter x.met made y.met
  pub still : made ≡ [] → y.prefix ≡ x.prefix
