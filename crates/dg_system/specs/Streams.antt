-- What is known of a file that is read as it comes.
--   stream_remaining known s == the bytes that it has yet to give, if they are known: those in memory, or
--                               what is known of the file that was opened
--   MayGive h left           == these may be all bytes of the file, of any number: if it is known to have
--                               other bytes, or to be missing, they are not
--   IsStreamFault h fault    == the file may be refused so: as unreadable if it is not known to be in
--                               memory; of want of memory nothing is said
use Rattle.std.specs.Prelude.{◌≡◌, ℕ, List, Option, Some, ⊤}
use Rattle.dg_system.specs.Held.{Held, unknown, missing, bytes}
use Rattle.dg_system.specs.declared.sources.SourceFault.{SourceFault}
use Rattle.dg_system.specs.declared.sources.SourceFault.TheVariants.{Unreadable, TooLong, OutOfMemory}
use Rattle.dg_system.specs.declared.stream.Stream.{Stream}
use Rattle.dg_system.specs.declared.stream.Stream.TheVariants.{Opened, Kept}

abbrev pub stream_remaining : {F : Type 0} → (F → Option (List ℕ)) → Stream F → Option (List ℕ)
stream_remaining known (Opened file) = known file
stream_remaining known (Kept left) = Some left.now

abbrev pub MayGive : Held → Option (List ℕ) → Type 0
MayGive unknown left = ⊤
MayGive missing left = ⊥
MayGive (bytes known) left = left ≡ Some known

abbrev pub IsStreamFault : Held → SourceFault → Type 0
IsStreamFault h OutOfMemory = ⊤
IsStreamFault unknown Unreadable = ⊤
IsStreamFault missing Unreadable = ⊤
IsStreamFault (bytes known) Unreadable = ⊥
IsStreamFault h TooLong = ⊥
