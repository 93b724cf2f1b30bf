-- Faults of runs, and the exit statuses of those that end with one.
--   IsTaskFault P fault    == it is the fault of a task, and P holds of that
--   IsStatus n             == 0, or the status of a run that ends with a fault
--   status_of_words fault  == the status if the words of the command line ask for nothing
--   status_of_source fault == the status if a file is not read
--   status_of_file fault   == the status if a table file is refused
--   status_of_table fault  == the status if a call of a table is refused so
--   status_of_task fault   == the status if a task is not done so
--   status_of_end end      == the status if a session ends so
--   status_of_sweep end    == the status if a sweep ends so
--   status fault           == 2 for a refused command line, 3 for refused input, 4 for want of
--                         memory, 5 for reading and writing
use Rattle.std.specs.Prelude.{◌≡◌, ℕ, ◌≤◌, ◌⊎◌}
use Rattle.dg_run.specs.Common.{ArgsFault, TaskFault, SessionEnd, SweepEnd, Log, SourceFault, Unreadable, TooLong, FileFault}
use Rattle.dg_invocation.specs.declared.args_fault.ArgsFault.TheVariants.{OutOfMemory as NoMemoryForWords}
use Rattle.dg_run.specs.declared.fault.Fault.{Fault}
use Rattle.dg_run.specs.declared.fault.Fault.TheVariants.{Words, Task, Shortage, Session, Sessions, Sweep, Seats, History, Write}
use Rattle.dg_tasks.specs.declared.fault.TaskFault.TheVariants as task
use Rattle.dg_session.specs.declared.ends.SessionEnd.TheVariants as end
use Rattle.dg_sweep.specs.declared.ends.SweepEnd.TheVariants as sweep
use Rattle.dg_table.specs.declared.fault.Fault.{Fault as TableFault}
use Rattle.dg_table.specs.declared.fault.Fault.TheVariants.{OutOfMemory as NoMemoryForCall, Full as FullHistory}
use Rattle.dg_system.specs.declared.sources.SourceFault.TheVariants.{OutOfMemory as NoMemoryToRead}
use Rattle.dg_file.specs.declared.fault.FileFault.TheVariants.{OutOfMemory as NoMemoryForTable}

abbrev pub IsTaskFault : (TaskFault → Type 0) → Fault → Type 0
IsTaskFault P (Task fault) = P fault
IsTaskFault P fault = ⊥

abbrev pub status_of_words : ArgsFault → ℕ
status_of_words NoMemoryForWords = 4
status_of_words _ = 2

abbrev pub status_of_source : SourceFault → ℕ
status_of_source TooLong = 3
status_of_source NoMemoryToRead = 4
status_of_source Unreadable = 5

abbrev pub status_of_file : FileFault → ℕ
status_of_file NoMemoryForTable = 4
status_of_file _ = 3

abbrev pub status_of_table : TableFault → ℕ
status_of_table FullHistory = 3
status_of_table NoMemoryForCall = 4
status_of_table Log = 4

abbrev pub status_of_end : SessionEnd → ℕ
status_of_end end.Read = 5
status_of_end end.Write = 5
status_of_end end.LongLine = 3
status_of_end end.Turns = 3
status_of_end (end.Table fault) = status_of_table fault
status_of_end end.Memory = 4
status_of_end end.Spawn = 4

abbrev pub status_of_sweep : SweepEnd → ℕ
status_of_sweep sweep.Read = 5
status_of_sweep sweep.Write = 5
status_of_sweep (sweep.Shortage lack) = 4

abbrev pub status_of_task : TaskFault → ℕ
status_of_task (task.Source fault) = status_of_source fault
status_of_task (task.File fault) = status_of_file fault
status_of_task (task.Line _ _) = 3
status_of_task (task.Full _) = 3
status_of_task (task.NoLook _) = 3
status_of_task (task.StepTrials _) = 3
status_of_task task.TooMany = 3
status_of_task (task.Chip _) = 3
status_of_task (task.Shortage lack) = 4

abbrev pub status : Fault → ℕ
status (Words fault) = status_of_words fault
status (Task fault) = status_of_task fault
status (Shortage lack) = 4
status (Session end) = status_of_end end
status (Sessions least all) = status_of_end least
status (Sweep end) = status_of_sweep end
status Seats = 3
status History = 4
status Write = 5

abbrev pub IsStatus : ℕ → Type 0
IsStatus n = (n ≡ 0) ⊎ ((2 ≤ n) × (n ≤ 5))
