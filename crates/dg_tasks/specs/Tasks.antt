-- Answers to tasks on tables, and when there is none. `held` tells what is known of the file of
-- each name.
--   DescribesTable h o names           == bytes that the file h may hold are a table file, of the start o
--                                         with these names
--   IsOnTable h P                      == the file h describes a table, and P holds of its start and names
--   IsOfSteps h P                      == P holds of the lines of bytes that the file h may hold
--   AnswersTask held o names task text == the text is the answer to the task on the start o with these
--                                         names
--   IsAnswer held task text            == the text is the answer to the task, for what the files hold that
--                                         it names
--   RefusesContents h fault            == bytes that the file h may hold are refused as a table file, with
--                                         that fault
--   RefusesTable h fault               == the table file h is not read, or it is refused
--   RefusesOn held o names task fault  == the task is refused so on the table o with these names: STEPS is
--                                         not read, or it is refused; or the test is past the limits, or
--                                         the residual is no divisor; or memory is refused, or a thread of
--                                         a rank test by some workers
--   RefusesTask held task fault        == the table file is refused so, or it is good, and the task is
--                                         refused so on its table
use Rattle.std.specs.Prelude.{◌≡◌, ◌⊎◌, ℕ, List}
use Rattle.dg_tasks.specs.Common.{StartData, IsTableFile, IsFileFault, FileFault, lines, IsJudgementText, Held, MayHold, IsSourceFault, file_of, Task, Rehearse, Judge, RiemannRoch, Greedy, OutOfMemory}
use Rattle.dg_tasks.specs.Rehearsals.{IsRehearsalAnswer}
use Rattle.dg_tasks.specs.RankTests.{IsRankAnswer, IsRiemannRochAnswer, RefusesRank, RefusesRiemannRoch}
use Rattle.dg_tasks.specs.Refusals.{RefusesSchedule}
use Rattle.dg_tasks.specs.Games.{IsGreedyAnswer, RefusesGreedy}
use Rattle.dg_invocation.specs.declared.invocation.Task.TheVariants.{Rank}
use Rattle.dg_tasks.specs.declared.fault.TaskFault.{TaskFault}
use Rattle.dg_tasks.specs.declared.fault.TaskFault.TheVariants.{Source, File, Shortage}

pub record DescribesTable (h : Held) (o : StartData) (names : List (List ℕ)) : Type 0 where
  pub bytes : List ℕ
  pub held : MayHold h bytes
  pub table : IsTableFile bytes o names

pub record IsOnTable (h : Held) (P : StartData → List (List ℕ) → Type 0) : Type 0 where
  pub start : StartData
  pub names : List (List ℕ)
  pub table : DescribesTable h start names
  pub holds : P start names

pub record IsOfSteps (h : Held) (P : List (List ℕ) → Type 0) : Type 0 where
  pub bytes : List ℕ
  pub held : MayHold h bytes
  pub holds : P (lines bytes)

abbrev pub AnswersTask : (List ℕ → Held) → StartData → List (List ℕ) → Task → List ℕ → Type 0
AnswersTask held o names (Rehearse file steps) text =
    IsOfSteps (held steps.now) (λ all. IsRehearsalAnswer o names all text)
AnswersTask held o names (Judge file ordered) text = IsJudgementText o names ordered text
AnswersTask held o names (Rank test) text = IsRankAnswer o test.degree names text
AnswersTask held o names (RiemannRoch file) text = IsRiemannRochAnswer o text
AnswersTask held o names (Greedy play) text = IsGreedyAnswer o play.turns names text

abbrev pub IsAnswer : (List ℕ → Held) → Task → List ℕ → Type 0
IsAnswer held task text =
    IsOnTable (held (file_of task)) (λ o names. AnswersTask held o names task text)

pub record RefusesContents (h : Held) (fault : FileFault) : Type 0 where
  pub bytes : List ℕ
  pub held : MayHold h bytes
  pub refused : IsFileFault bytes fault

abbrev pub RefusesOn : (List ℕ → Held) → StartData → List (List ℕ) → Task → TaskFault → Type 0
RefusesOn held o names (Rehearse file steps) (Source fault) = IsSourceFault (held steps.now) fault
RefusesOn held o names (Rehearse file steps) fault =
    IsOfSteps (held steps.now) (λ all. RefusesSchedule o.graph.size names all fault)
RefusesOn held o names (Judge file ordered) fault = fault ≡ Shortage OutOfMemory
RefusesOn held o names (Rank test) fault = RefusesRank o.graph.size test.degree test.workers fault
RefusesOn held o names (RiemannRoch file) fault = RefusesRiemannRoch o fault
RefusesOn held o names (Greedy play) fault = RefusesGreedy fault

abbrev pub RefusesTable : Held → TaskFault → Type 0
RefusesTable h (Source fault) = IsSourceFault h fault
RefusesTable h (File fault) = RefusesContents h fault
RefusesTable h fault = ⊥

abbrev pub RefusesTask : (List ℕ → Held) → Task → TaskFault → Type 0
RefusesTask held task fault = RefusesTable (held (file_of task)) fault
    ⊎ IsOnTable (held (file_of task)) (λ o names. RefusesOn held o names task fault)
