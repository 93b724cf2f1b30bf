-- Cutting a list of bytes at a byte. 32 is the space, 44 the comma and 10 the newline.
--   before b bytes        == what stands before the first b, or all if there is none
--   after b bytes         == what stands after the first b, if there is one
--   cons_to_first x lists == the byte x put in front of the first of the lists
--   pieces b bytes        == the pieces that all the bytes b cut it into: one more than there are bytes b
--   words bytes           == the pieces between single spaces
--   items bytes           == the pieces between commas
--   pieces_after b rest   == the pieces of what stands after a b, and none if there is no b
--   words_after rest      == the words of what stands after a space, and none if there is no space
--   lines bytes           == the pieces before each newline, and what stands after the last newline if
--                            that is not empty
use Rattle.std.specs.Prelude.{ℕ, ◌==◌, cond, List, [], ◌∷◌, Option, Some, None}

unfoldable pub before : ℕ → List ℕ → List ℕ
before b [] = []
before b (x ∷ xs) = cond (x == b) [] (x ∷ before b xs)

unfoldable pub after : ℕ → List ℕ → Option (List ℕ)
after b [] = None
after b (x ∷ xs) = cond (x == b) (Some xs) (after b xs)

abbrev pub cons_to_first : ℕ → List (List ℕ) → List (List ℕ)
cons_to_first x [] = (x ∷ []) ∷ []
cons_to_first x (first ∷ rest) = (x ∷ first) ∷ rest

unfoldable pub pieces : ℕ → List ℕ → List (List ℕ)
pieces b [] = [] ∷ []
pieces b (x ∷ xs) = cond (x == b) ([] ∷ pieces b xs) (cons_to_first x (pieces b xs))

abbrev pub words : List ℕ → List (List ℕ)
words bytes = pieces 32 bytes

abbrev pub items : List ℕ → List (List ℕ)
items bytes = pieces 44 bytes

abbrev pub pieces_after : ℕ → Option (List ℕ) → List (List ℕ)
pieces_after b None = []
pieces_after b (Some rest) = pieces b rest

abbrev pub words_after : Option (List ℕ) → List (List ℕ)
words_after rest = pieces_after 32 rest

unfoldable pub lines : List ℕ → List (List ℕ)
lines [] = []
lines (x ∷ xs) = cond (x == 10) ([] ∷ lines xs) (cons_to_first x (lines xs))
