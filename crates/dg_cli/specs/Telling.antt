-- How what the library of command lines tells is read.
--   argument_rows matches                      == the rows of the command
--   argument_name, shown, least, most argument == the name of a number's argument, and its range
--   TellsInvocation asks result                == what is asked for; or a refusal, because memory is refused
--                                                 or because nothing is asked for
use Rattle.std.specs.Prelude.{◌≡◌, ◌⊎◌, ◌-◌, ◌^◌, ℕ, List, Result, Ok, Err, codes}
use Rattle.clap.specs.Words.{Row, Text, found_of, rows_of}
use Rattle.clap.specs.declared.parser.matches.ArgMatches.{ArgMatches}
use Rattle.dg_invocation.specs.declared.limits.TheConstants.{MAX_CAPACITY, MAX_SEATS, MAX_TURNS, MAX_WORKERS}
use Rattle.dg_cli.specs.declared.reading.NumberArgument.{NumberArgument}
use Rattle.dg_cli.specs.declared.reading.NumberArgument.TheVariants.{Capacity, Workers, Seats, Degree, Turns}
use Rattle.dg_cli.specs.declared.reading.Refusal.{Refusal}
use Rattle.dg_cli.specs.declared.reading.Refusal.TheVariants.{Memory}

abbrev pub argument_rows : ArgMatches → List Row
argument_rows matches = rows_of (found_of matches)

abbrev pub argument_name : NumberArgument → Text
argument_name Capacity = codes "cap"
argument_name Workers = codes "workers"
argument_name Seats = codes "seats"
argument_name Degree = codes "degree"
argument_name Turns = codes "turns"

abbrev pub least_of_argument : NumberArgument → ℕ
least_of_argument Capacity = 1
least_of_argument Workers = 1
least_of_argument Seats = 1
least_of_argument Degree = 0
least_of_argument Turns = 0

abbrev pub most_of_argument : NumberArgument → ℕ
most_of_argument Capacity = MAX_CAPACITY
most_of_argument Workers = MAX_WORKERS
most_of_argument Seats = MAX_SEATS
most_of_argument Degree = 2 ^ 32 - 1
most_of_argument Turns = MAX_TURNS

abbrev pub TellsInvocation : {T : Type 0} → (T → Type 0) → Result T Refusal → Type 0
TellsInvocation asks (Ok x) = asks x
TellsInvocation asks (Err refusal) = (refusal ≡ Memory) ⊎ ((x : _) → asks x → ⊥)
