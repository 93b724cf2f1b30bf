-- What is known of some files of a source, one after another.
--   MayHoldAll held names all      == these may be the bytes of the files of these names, one after
--                   another
--   IsFirstUnread held names fault == the files of the names before one that is refused so are held
use Rattle.std.specs.Prelude.{◌≡◌, ℕ, List, [], ◌∷◌, ◌++◌, ⊤}
use Rattle.dg_system.specs.Held.{Held, MayHold, IsSourceFault}
use Rattle.dg_system.specs.declared.sources.SourceFault.{SourceFault}

abbrev pub MayHoldAll : (List ℕ → Held) → List (List ℕ) → List (List ℕ) → Type 0
MayHoldAll held [] [] = ⊤
MayHoldAll held (name ∷ names) (bytes ∷ all) = MayHold (held name) bytes × MayHoldAll held
    names all
MayHoldAll held names all = ⊥

pub record IsFirstUnread (held : List ℕ → Held) (names : List (List ℕ)) (fault : SourceFault)
    : Type 0 where
  pub front : List (List ℕ)
  pub name : List ℕ
  pub back : List (List ℕ)
  pub whole : names ≡ front ++ name ∷ back
  pub all : List (List ℕ)
  pub before : MayHoldAll held front all
  pub refused : IsSourceFault (held name) fault
