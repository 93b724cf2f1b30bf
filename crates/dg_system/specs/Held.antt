-- What is known of the files of a source.
--   Held                       == what is known of the file of a name: nothing; that there is none; or its
--                                 bytes
--   MayHold h bytes == these may be the bytes of the file, and a file may have so many: if its
--                                 bytes are known, they are just those
--   IsSourceFault h fault      == the file may be refused so: as unreadable if it is not known that it is
--                                 there, as too long if it is not known that it has no more bytes than a file
--                                 may have; of want of memory nothing is said
--   held_from_read read        == these bytes, or that there is no file
--   held_among files name == the bytes of the first of the files with that name, and that there is none
--                                 if no file has it
use Rattle.std.specs.Prelude.{◌≡◌, ℕ, ◌<◌, ◌≤◌, List, [], ◌∷◌, length, Option, Some, None, cond, bytes_eq, ⊤}
use Rattle.dg_system.specs.declared.sources.TheConstants.{MAX_FILE}
use Rattle.dg_system.specs.declared.sources.SourceFault.{SourceFault}
use Rattle.dg_system.specs.declared.sources.SourceFault.TheVariants.{Unreadable, TooLong, OutOfMemory}

pub data Held : Type 0 where
  unknown : Held
  missing : Held
  bytes : List ℕ → Held

abbrev pub MayBeBytes : Held → List ℕ → Type 0
MayBeBytes unknown read = ⊤
MayBeBytes missing read = ⊥
MayBeBytes (bytes known) read = read ≡ known

abbrev pub MayHold : Held → List ℕ → Type 0
MayHold h read = MayBeBytes h read × (length read ≤ MAX_FILE)

abbrev pub IsSourceFault : Held → SourceFault → Type 0
IsSourceFault h OutOfMemory = ⊤
IsSourceFault unknown Unreadable = ⊤
IsSourceFault unknown TooLong = ⊤
IsSourceFault missing Unreadable = ⊤
IsSourceFault missing TooLong = ⊥
IsSourceFault (bytes known) Unreadable = ⊥
IsSourceFault (bytes known) TooLong = MAX_FILE < length known

unfoldable pub held_among : List (List ℕ × List ℕ) → List ℕ → Held
held_among [] name = missing
held_among (file ∷ files) name = cond (bytes_eq file.0 name) (bytes file.1) (held_among files name)

abbrev pub held_from_read : Option (List ℕ) → Held
held_from_read None = missing
held_from_read (Some known) = bytes known
