-- A command line means one thing.
--   lines_as_written divisors    == the flag for lines, or the option with the file of amounts
--   order_as_written ordered     == the flag for the order of burning, if it is asked for
--   form_as_written form         == the flag for numbers, if they are asked for
--   verdict_as_written form      == the same, or else the flag for the order of burning
--   question_as_written question == the command that asks this of each line
--   written asked                == the words that say what is asked for: the command, the files and the
--                                   numbers, also those that nobody gave. The text of a help is left out
--   MeaningIsUnique              == words that ask for two things ask for one, since both are written alike;
--                                   and words that ask for something are refused for nothing but want of
--                                   memory
use Rattle.std.specs.Prelude.{◌≡◌, ℕ, Bool, true, false, List, [], ◌∷◌, ◌++◌, Option, Some, None, codes, decimal, map, option_map}
use Rattle.clap.specs.Words.{Text}
use Rattle.dg_cli.specs.Asks.{Asks}
use Rattle.dg_cli.specs.Refusals.{IsArgsFault}
use Rattle.dg_invocation.specs.declared.invocation.Invocation.{Invocation}
use Rattle.dg_invocation.specs.declared.args_fault.ArgsFault.{ArgsFault}
use Rattle.dg_invocation.specs.declared.args_fault.ArgsFault.TheVariants.{OutOfMemory}
use Rattle.dg_invocation.specs.declared.question.Form.{Form}
use Rattle.dg_invocation.specs.declared.question.Form.TheVariants as form
use Rattle.dg_invocation.specs.declared.question.VerdictForm.{VerdictForm}
use Rattle.dg_invocation.specs.declared.question.VerdictForm.TheVariants as verdict
use Rattle.dg_invocation.specs.declared.question.Question.{Question}
use Rattle.dg_invocation.specs.declared.question.Question.TheVariants.{Judge, Rank, RiemannRoch}
use Rattle.dg_invocation.specs.declared.invocation.Invocation.TheVariants as asked
use Rattle.dg_invocation.specs.declared.invocation.Task.TheVariants as task

abbrev pub lines_as_written : Option Text → List Text
lines_as_written None = codes "--lines" ∷ []
lines_as_written (Some name) = codes "--divisors" ∷ name ∷ []

abbrev pub order_as_written : Bool → List Text
order_as_written true = codes "--order" ∷ []
order_as_written false = []

abbrev pub form_as_written : Form → List Text
form_as_written form.Words = []
form_as_written form.Numbers = codes "--numbers" ∷ []

abbrev pub verdict_as_written : VerdictForm → List Text
verdict_as_written (verdict.Words ordered) = order_as_written ordered
verdict_as_written verdict.Numbers = codes "--numbers" ∷ []

abbrev pub question_as_written : Question → List Text
question_as_written (Judge form) = codes "judge" ∷ verdict_as_written form
question_as_written (Rank k form) = codes "rank" ∷ decimal k ∷ form_as_written form
question_as_written (RiemannRoch form) = codes "rr" ∷ form_as_written form

abbrev pub seats_as_written : Option ℕ → List Text
seats_as_written None = []
seats_as_written (Some n) = decimal n ∷ []

abbrev pub written : Invocation → List Text
written (asked.Task (task.Judge file ordered)) = codes "judge" ∷ file.now ∷ order_as_written ordered
written (asked.Task (task.Rank test)) =
    codes "rank" ∷ test.file.now ∷ decimal test.degree ∷ decimal test.workers ∷ []
written (asked.Task (task.RiemannRoch file)) = codes "rr" ∷ file.now ∷ []
written (asked.Task (task.Greedy play)) = codes "greedy" ∷ play.file.now ∷ decimal play.turns ∷ []
written (asked.Task (task.Rehearse file steps)) = codes "rehearse" ∷ file.now ∷ steps.now ∷ []
written (asked.Sweep sweep) =
    lines_as_written (option_map (λ name. name.now) sweep.divisors)
    ++ sweep.file.now ∷ decimal sweep.workers ∷ question_as_written sweep.question
written (asked.Serve session) =
    codes "serve" ∷ session.file.now ∷ decimal session.capacity ∷ decimal session.workers
    ∷ seats_as_written session.seats
written (asked.Party party) =
    codes "party" ∷ party.file.now ∷ decimal party.capacity
    ∷ map (λ script. script.now) party.scripts.items
written (asked.Text text) = []

pub record MeaningIsUnique : Type 0 where
  pub one : (words : List Text) (a b : Invocation) → Asks words a → Asks words b
      → written a ≡ written b
  pub apart : (words : List Text) (it : Invocation) (fault : ArgsFault) → Asks words it
      → IsArgsFault words fault → fault ≡ OutOfMemory
