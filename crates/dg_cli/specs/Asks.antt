-- What words ask for: those of a command line, of which the first is the program's name. The library
-- of command lines tells which command they name, and the rows of that command: which word stands
-- for which of its arguments. It also tells which faults the words have.
--   word_of name rows                      == the word of the argument of that name, if there is one
--   words_of name rows                     == all its words
--   HasFileArgument rows file              == the file is the word for `file`
--   HasLinesFlag rows                      == the flag `--lines` is there
--   HasOrderFlag rows                      == the flag `--order` is there
--   HasNumbersFlag rows                    == the flag `--numbers` is there
--   HasOrder rows ordered                  == the order of burning is asked for exactly if that flag is there
--   HasFormFlag rows form                  == numbers are asked for exactly if their flag is there
--   HasVerdictFlags rows form              == the same for verdicts, of which numbers have no order
--   divisors_option rows                   == the name of the file of amounts, if there is one
--   HasLinesOption rows divisors           == there are lines, of one kind: the flag is there exactly if no
--                                             file of amounts is named
--   HasOneTable rows                       == there are no lines
--   IsInWords rows                         == there are no lines, and so no numbers
--   HasNumberArgument name low high rows n == the word of that argument is there, and is n, from low to high
--   HasDegreeArgument rows n               == so many dollars are lost, from 0 to 2^32 - 1
--   HasWorkersOption rows n                == so many workers are given, from 1 to 16; or 1, if none are
--   HasCapacityOption rows n               == so many entries are given, from 1 to 65,536; or the most
--   AsksRank, AsksGreedy, AsksSweep, AsksServe, AsksParty
--                                    == the rows have the file and the numbers of the task, and what
--                                       else it has
--   HasNoLineOptions rows                  == there are no lines, no numbers and no workers, which share
--                                             lines
--   AsksQuestion name rows question        == the command of that name asks this of each line
--   AsksTask name rows task                == the command of that name asks for the task
--   AsksFor name rows asked                == the command of that name asks for this
--   CallsForHelp faults                    == the words call for help, or for the version
--   Asks words asked                       == the words ask for this: for a text if they call for help or the
--                                             version, and else for what their command asks for, if the
--                                             library finds no fault
use Rattle.std.specs.Prelude.{◌≡◌, ◌-◌, ◌^◌, ◌⊎◌, ◌↔◌, ℕ, Bool, IsTrue, List, [], Option, None, Some, IsSomeAnd, codes, map, option_map}
use Rattle.clap.specs.Words.{IsAmong, Kinds, Row, Text, all_of, fault_of, first_of, subcommand_of}
use Rattle.clap.specs.declared.error.kind.ErrorKind.TheVariants.{DisplayHelp, DisplayVersion}
use Rattle.dg_invocation.specs.declared.invocation.Invocation.{Invocation}
use Rattle.dg_invocation.specs.declared.invocation.PartyTask.{PartyTask}
use Rattle.dg_invocation.specs.declared.invocation.ServeTask.{ServeTask}
use Rattle.dg_invocation.specs.declared.invocation.Task.{Task}
use Rattle.dg_invocation.specs.declared.invocation.Task.TheVariants.{Rehearse, Judge, Rank, RiemannRoch, Greedy}
use Rattle.dg_invocation.specs.declared.limits.TheConstants.{MAX_CAPACITY, MAX_SEATS, MAX_TURNS, MAX_WORKERS}
use Rattle.dg_invocation.specs.declared.numbered.GreedyTask.{GreedyTask}
use Rattle.dg_invocation.specs.declared.numbered.RankTask.{RankTask}
use Rattle.dg_invocation.specs.declared.question.Form.{Form}
use Rattle.dg_invocation.specs.declared.question.Question.{Question}
use Rattle.dg_invocation.specs.declared.question.SweepTask.{SweepTask}
use Rattle.dg_invocation.specs.declared.question.VerdictForm.{VerdictForm}
use Rattle.dg_invocation.specs.declared.invocation.Invocation.TheVariants as asked
use Rattle.dg_invocation.specs.declared.question.Form.TheVariants as form
use Rattle.dg_invocation.specs.declared.question.Question.TheVariants as question
use Rattle.dg_invocation.specs.declared.question.VerdictForm.TheVariants as verdict
use Rattle.dg_cli.specs.Commands.{dollar}
use Rattle.dg_cli.specs.Numbers.{IsNumberIn, IsGiven, IsGivenOr}

abbrev pub word_of : Text → List Row → Option Text
word_of name rows = first_of name rows

abbrev pub words_of : Text → List Row → Option (List Text)
words_of name rows = all_of name rows

abbrev pub HasLinesFlag : List Row → Type 0
HasLinesFlag rows = word_of (codes "lines") rows ≡ Some (codes "true")

abbrev pub HasOrderFlag : List Row → Type 0
HasOrderFlag rows = word_of (codes "order") rows ≡ Some (codes "true")

abbrev pub HasNumbersFlag : List Row → Type 0
HasNumbersFlag rows = word_of (codes "numbers") rows ≡ Some (codes "true")

abbrev pub HasOrder : List Row → Bool → Type 0
HasOrder rows ordered = IsTrue ordered ↔ HasOrderFlag rows

abbrev pub HasFormFlag : List Row → Form → Type 0
HasFormFlag rows form.Words = HasNumbersFlag rows → ⊥
HasFormFlag rows form.Numbers = HasNumbersFlag rows

abbrev pub HasVerdictFlags : List Row → VerdictForm → Type 0
HasVerdictFlags rows (verdict.Words ordered) = (HasNumbersFlag rows → ⊥) × HasOrder rows ordered
HasVerdictFlags rows verdict.Numbers = HasNumbersFlag rows × (HasOrderFlag rows → ⊥)

abbrev pub divisors_option : List Row → Option Text
divisors_option rows = word_of (codes "divisors") rows

abbrev pub HasLinesOption : List Row → Option Text → Type 0
HasLinesOption rows None = HasLinesFlag rows
HasLinesOption rows (Some name) = HasLinesFlag rows → ⊥

abbrev pub HasOneTable : List Row → Type 0
HasOneTable rows = (HasLinesFlag rows → ⊥) × (divisors_option rows ≡ None)

abbrev pub IsInWords : List Row → Type 0
IsInWords rows = HasOneTable rows × (HasNumbersFlag rows → ⊥)

abbrev pub HasFileArgument : List Row → Text → Type 0
HasFileArgument rows file = word_of (codes "file") rows ≡ Some file

abbrev pub HasNumberArgument : Text → ℕ → ℕ → List Row → ℕ → Type 0
HasNumberArgument name low high rows n = IsSomeAnd (word_of name rows) (λ text. IsNumberIn low high text n)

abbrev pub HasWorkersOption : List Row → ℕ → Type 0
HasWorkersOption rows n = IsGivenOr 1 1 MAX_WORKERS (word_of (codes "workers") rows) n

abbrev pub HasCapacityOption : List Row → ℕ → Type 0
HasCapacityOption rows n = IsGivenOr MAX_CAPACITY 1 MAX_CAPACITY (word_of (codes "cap") rows) n

abbrev pub HasDegreeArgument : List Row → ℕ → Type 0
HasDegreeArgument rows n = HasNumberArgument (codes "degree") 0 (2 ^ 32 - 1) rows n

pub record AsksRank (rows : List Row) (task : RankTask) : Type 0 where
  pub file : HasFileArgument rows task.file.now
  pub degree : HasDegreeArgument rows task.degree
  pub workers : HasWorkersOption rows task.workers

pub record AsksGreedy (rows : List Row) (task : GreedyTask) : Type 0 where
  pub file : HasFileArgument rows task.file.now
  pub turns : HasNumberArgument (codes "turns") 0 MAX_TURNS rows task.turns

pub record AsksServe (rows : List Row) (task : ServeTask) : Type 0 where
  pub file : HasFileArgument rows task.file.now
  pub seats : IsGiven 1 MAX_SEATS (word_of (codes "seats") rows) task.seats
  pub capacity : HasCapacityOption rows task.capacity
  pub workers : HasWorkersOption rows task.workers

pub record AsksParty (rows : List Row) (task : PartyTask) : Type 0 where
  pub file : HasFileArgument rows task.file.now
  pub scripts : words_of (codes "script") rows ≡ Some (map (λ script. script.now) task.scripts.items)
  pub capacity : HasCapacityOption rows task.capacity

abbrev pub AsksQuestion : Text → List Row → Question → Type 0
AsksQuestion name rows (question.Judge form) =
    (name ≡ codes "judge") × HasVerdictFlags rows form
AsksQuestion name rows (question.Rank degree form) =
    (name ≡ codes "rank") × HasDegreeArgument rows degree × HasFormFlag rows form
AsksQuestion name rows (question.RiemannRoch form) = (name ≡ codes "rr") × HasFormFlag rows form

pub record AsksSweep (name : Text) (rows : List Row) (task : SweepTask) : Type 0 where
  pub divisors : option_map (λ name. name.now) task.divisors ≡ divisors_option rows
  pub lines : HasLinesOption rows (divisors_option rows)
  pub file : HasFileArgument rows task.file.now
  pub question : AsksQuestion name rows task.question
  pub workers : HasWorkersOption rows task.workers

abbrev pub HasNoLineOptions : List Row → Type 0
HasNoLineOptions rows = IsInWords rows × (word_of (codes "workers") rows ≡ None)

abbrev pub AsksTask : Text → List Row → Task → Type 0
AsksTask name rows (Judge file ordered) =
    (name ≡ codes "judge") × HasFileArgument rows file.now × HasNoLineOptions rows × HasOrder rows ordered
AsksTask name rows (RiemannRoch file) = (name ≡ codes "rr") × HasFileArgument rows file.now × HasNoLineOptions rows
AsksTask name rows (Rank task) =
    (name ≡ codes "rank") × AsksRank rows task × IsInWords rows
AsksTask name rows (Greedy task) = (name ≡ codes "greedy") × AsksGreedy rows task
AsksTask name rows (Rehearse file steps) =
    (name ≡ codes "rehearse") × HasFileArgument rows file.now
    × (word_of (codes "steps") rows ≡ Some steps.now)

abbrev pub AsksFor : Text → List Row → Invocation → Type 0
AsksFor name rows (asked.Task task) = AsksTask name rows task
AsksFor name rows (asked.Sweep task) = AsksSweep name rows task
AsksFor name rows (asked.Serve task) = (name ≡ codes "serve") × AsksServe rows task
AsksFor name rows (asked.Party task) = (name ≡ codes "party") × AsksParty rows task
AsksFor name rows (asked.Text text) = ⊥

abbrev pub CallsForHelp : Kinds → Type 0
CallsForHelp faults = IsAmong DisplayHelp faults ⊎ IsAmong DisplayVersion faults

abbrev pub Asks : List Text → Invocation → Type 0
Asks words (asked.Text text) = CallsForHelp (fault_of dollar words)
Asks words asked = (fault_of dollar words ≡ [])
    × IsSomeAnd (subcommand_of dollar words) (λ entered. AsksFor entered.0 entered.1 asked)
