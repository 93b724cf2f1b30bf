-- Why words ask for nothing, by the kind of the library's error.
--   HasErrorKind words kind == memory was refused; or the library finds a fault of that kind; or the
--                              words ask for nothing, and the kind is none of help or the version
--   IsErrorText kind result == what is said of an error of that kind: its text, if it is one of help
--                              or the version, and else a fault; for want of memory the fault says so
use Rattle.std.specs.Prelude.{◌≡◌, ◌≢◌, ◌⊎◌, List, Result, Ok, Err, ⊤}
use Rattle.clap.specs.Words.{IsAmong, Text, fault_of}
use Rattle.clap.specs.declared.error.kind.ErrorKind.{ErrorKind}
use Rattle.clap.specs.declared.error.kind.ErrorKind.TheVariants.{DisplayHelp, DisplayVersion}
use Rattle.dg_invocation.specs.declared.invocation.Invocation.{Invocation}
use Rattle.dg_invocation.specs.declared.args_fault.ArgsFault.{ArgsFault}
use Rattle.dg_invocation.specs.declared.args_fault.ArgsFault.TheVariants.{CommandLine, NotText, OutOfMemory}
use Rattle.clap.specs.declared.error.kind.ErrorKind.TheVariants as error
use Rattle.dg_invocation.specs.declared.invocation.Invocation.TheVariants as asked
use Rattle.dg_cli.specs.Commands.{dollar}
use Rattle.dg_cli.specs.Refusals.{AskNothing}

abbrev pub CallsNoHelp : ErrorKind → Type 0
CallsNoHelp kind = (kind ≢ DisplayHelp) × (kind ≢ DisplayVersion)

abbrev pub HasErrorKind : List Text → ErrorKind → Type 0
HasErrorKind words kind =
    (kind ≡ error.OutOfMemory) ⊎ (IsAmong kind (fault_of dollar words) ⊎ (AskNothing words × CallsNoHelp kind))

abbrev pub IsErrorText : ErrorKind → Result Invocation ArgsFault → Type 0
IsErrorText kind (Ok (asked.Text text)) = (kind ≡ DisplayHelp) ⊎ (kind ≡ DisplayVersion)
IsErrorText kind (Ok _) = ⊥
IsErrorText kind (Err OutOfMemory) = ⊤
IsErrorText kind (Err NotText) = ⊥
IsErrorText kind (Err (CommandLine text)) = (kind ≢ error.OutOfMemory) × CallsNoHelp kind
