-- What serves the reading of command lines alone.
--   spelling keyword             == the command word
--   keyword_kinds keyword        == the kinds of the words after it
--   first_words n a b            == the first n of the two words
--   IsBadScript names fault word == the word is no script, by the names or else by the numbers in it
--   AreWords n rest              == just n words, none of which is empty
use Rattle.std.specs.Prelude.{◌≡◌, ◌≢◌, ℕ, List, [], ◌∷◌, length, take, All}
use Rattle.dg_lines.specs.CommandWords.{WordKind, script, names_in_word, numbers_in_word, IsWordNumeral, AreDistinctNames}
use Rattle.dg_lines.specs.Commands.{row}
use Rattle.dg_lines.specs.declared.command.Keyword.{Keyword}
use Rattle.dg_lines.specs.declared.line.LineFault.{LineFault}
use Rattle.dg_lines.specs.declared.line.LineFault.TheVariants.{Name, Number}

abbrev pub spelling : Keyword → List ℕ
spelling keyword = (row keyword).0

abbrev pub keyword_kinds : Keyword → List WordKind
keyword_kinds keyword = (row keyword).1

abbrev pub first_words : ℕ → List ℕ → List ℕ → List (List ℕ)
first_words n first second = take n (first ∷ second ∷ [])

pub record AreWords (n : ℕ) (rest : List (List ℕ)) : Type 0 where
  pub count : length rest ≡ n
  pub filled : All (λ word. word ≢ []) rest

abbrev pub IsBadScript : List (List ℕ) → LineFault → List ℕ → Type 0
IsBadScript names Name word = ¬ AreDistinctNames names (names_in_word script word)
IsBadScript names Number word =
    AreDistinctNames names (names_in_word script word) × ¬ All (IsWordNumeral script) (numbers_in_word script word)
IsBadScript names fault word = ⊥
