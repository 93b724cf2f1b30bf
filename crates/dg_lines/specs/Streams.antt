-- Streams of bytes that are cut into lines. 10 is the newline, and P says what may be a line.
--   HasNoNewline bytes               == none of the bytes is a newline
--   with_newline line                == the line and its newline
--   last_line rest                   == the rest as a last line, if it has a byte
--   BeginsWithLines P stream ls rest == the stream is the lines ls, each with its newline, and then the
--                                       rest
--   LinesHaveCome P ended stream ls  == the stream begins with the lines ls; or it has ended, and they
--                                       are all its lines
use Rattle.std.specs.Prelude.{◌≡◌, ◌≢◌, ℕ, ◌⊎◌, List, [], ◌∷◌, ◌++◌, All, flat_map}
use Rattle.dg_lines.specs.Cuts.{lines}

abbrev pub HasNoNewline : List ℕ → Type 0
HasNoNewline bytes = All (λ byte. byte ≢ 10) bytes

abbrev pub with_newline : List ℕ → List ℕ
with_newline line = line ++ 10 ∷ []

abbrev pub last_line : List ℕ → List (List ℕ)
last_line [] = []
last_line (byte ∷ rest) = (byte ∷ rest) ∷ []

pub record BeginsWithLines (P : List ℕ → Type 0) (stream : List ℕ) (ls : List (List ℕ)) (rest : List ℕ)
    : Type 0 where
  pub whole : stream ≡ flat_map with_newline ls ++ rest
  pub each : All P ls

abbrev pub LinesHaveCome : (List ℕ → Type 0) → Type 0 → List ℕ → List (List ℕ) → Type 0
LinesHaveCome P ended stream ls =
    ((rest : List ℕ) × BeginsWithLines P stream ls rest) ⊎ (ended × (ls ≡ lines stream) × All P ls)
