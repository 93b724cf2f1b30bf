-- Why words are refused.
--   HasClapFault words      == the library of command lines finds a fault, which is no call for help
--                              or the version
--   AskNothing words        == it finds none, and yet there is nothing that the words ask for, as if a
--                              number is not in its range, or `--workers` stands without `--lines`
--   IsArgsFault words fault == the words may be refused so: for want of memory, or else because they
--                              have a fault or ask for nothing
use Rattle.std.specs.Prelude.{◌≡◌, ◌≢◌, ◌⊎◌, List, [], ⊤}
use Rattle.clap.specs.Words.{IsAmong, Text, fault_of}
use Rattle.clap.specs.declared.error.kind.ErrorKind.{ErrorKind}
use Rattle.clap.specs.declared.error.kind.ErrorKind.TheVariants.{DisplayHelp, DisplayVersion}
use Rattle.dg_invocation.specs.declared.invocation.Invocation.{Invocation}
use Rattle.dg_invocation.specs.declared.args_fault.ArgsFault.{ArgsFault}
use Rattle.dg_invocation.specs.declared.args_fault.ArgsFault.TheVariants.{CommandLine, NotText, OutOfMemory}
use Rattle.dg_cli.specs.Commands.{dollar}
use Rattle.dg_cli.specs.Asks.{Asks}

pub record HasClapFault (words : List Text) : Type 0 where
  pub fault : ErrorKind
  pub found : IsAmong fault (fault_of dollar words)
  pub no_help : fault ≢ DisplayHelp
  pub no_version : fault ≢ DisplayVersion

pub record AskNothing (words : List Text) : Type 0 where
  pub faultless : fault_of dollar words ≡ []
  pub nothing : (asked : Invocation) → Asks words asked → ⊥

abbrev pub IsArgsFault : List Text → ArgsFault → Type 0
IsArgsFault words OutOfMemory = ⊤
IsArgsFault words NotText = ⊥
IsArgsFault words (CommandLine text) = HasClapFault words ⊎ AskNothing words
