-- What is asked for: the file, and how many seats.
--   file_of task     == the name of the task's table file
--   seat_count seats == as many as are asked for; if none is named, one
use Rattle.std.specs.Prelude.{ℕ, List, Option, None, Some}
use Rattle.dg_invocation.specs.declared.invocation.Task.{Task}
use Rattle.dg_invocation.specs.declared.invocation.Task.TheVariants.{Rehearse, Judge, Rank, RiemannRoch, Greedy}

abbrev pub file_of : Task → List ℕ
file_of (Rehearse file steps) = file.now
file_of (Judge file ordered) = file.now
file_of (Rank test) = test.file.now
file_of (RiemannRoch file) = file.now
file_of (Greedy play) = play.file.now

abbrev pub seat_count : Option ℕ → ℕ
seat_count None = 1
seat_count (Some n) = n
