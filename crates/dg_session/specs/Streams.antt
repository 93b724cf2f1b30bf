-- Lines of a session, and the streams that they come and go by.
--   IsLine line                 == the line has no newline, and at most as many bytes as a line may have
--   EndsInLine stream ls        == the stream is the lines ls, and the last of them has a byte, and no newline
--   Cuts no_more stream ls rest == the stream is the lines ls, each with its newline, and then the rest. Or no
--                                  more is to come, the rest is empty, and the stream is the lines ls, of which
--                                  the last has no newline
--   IsTooLong rest              == the rest begins with one byte more than a line may have, and no newline
--   Passage                     == the bytes that a reader has left, or that a writer holds, before a call and
--                                  after it; `None` if they can't be known
--   passage old new             == that of these
--   CutOneWay                   == a stream is cut into lines in one way: if it is some lines, each with its
--                                  newline, and then a rest without one, then its lines are just these, followed
--                                  by the rest if that has a byte
use Rattle.std.specs.Prelude.{◌≡◌, ℕ, ◌+◌, ◌≤◌, ◌⊎◌, List, [], ◌∷◌, ◌++◌, length, Option}
use Rattle.dg_session.specs.Common.{lines, HasNoNewline, BeginsWithLines, last_line}
use Rattle.dg_session.specs.declared.ends.TheConstants.{MAX_LINE}

pub record IsLine (line : List ℕ) : Type 0 where
  pub no_newline : HasNoNewline line
  pub short : length line ≤ MAX_LINE

pub record EndsInLine (stream : List ℕ) (ls : List (List ℕ)) : Type 0 where
  pub front : List (List ℕ)
  pub last : List ℕ
  pub lines : ls ≡ front ++ last ∷ []
  pub begins : BeginsWithLines IsLine stream front last
  pub is : IsLine last
  pub some : 1 ≤ length last

abbrev pub Cuts : Type 0 → List ℕ → List (List ℕ) → List ℕ → Type 0
Cuts no_more stream ls rest = BeginsWithLines IsLine stream ls rest ⊎ (no_more × (rest ≡ []) × EndsInLine stream ls)

pub record IsTooLong (rest : List ℕ) : Type 0 where
  pub front : List ℕ
  pub back : List ℕ
  pub whole : rest ≡ front ++ back
  pub no_newline : HasNoNewline front
  pub long : length front ≡ MAX_LINE + 1

pub record Passage : Type 0 where
  pub before : Option (List ℕ)
  pub after : Option (List ℕ)

abbrev pub passage : Option (List ℕ) → Option (List ℕ) → Passage
passage old new = record { before = old; after = new }

abbrev pub CutOneWay : Type 0
CutOneWay = (stream rest : List ℕ) (ls : List (List ℕ)) → BeginsWithLines IsLine stream ls rest →
    HasNoNewline rest → lines stream ≡ ls ++ last_line rest
