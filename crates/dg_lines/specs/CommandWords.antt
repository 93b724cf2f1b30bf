-- What the words after a command word tell. The items of a word are cut at commas. The byte 61 is
-- `=`, and `names` are the names of the vertices, in vertex order.
--   WordKind                              == a vertex, a set of vertices, a script, the degree of a rank
--                                            test, or dollars
--   item_name item                        == what stands before the first `=` of the item, or all of it if
--                                            there is none
--   item_number item                      == what stands after the first `=` of the item, and nothing if
--                                            there is none
--   names_in_word kind word               == the names that a word of that kind gives, in their order
--   numbers_in_word kind word             == the numbers that it gives, in their order
--   IsNumeralWithin low high text         == the text is the decimal of a number from low to high
--   IsWordNumeral kind text               == the text is the decimal of a number that may stand in a word
--                                           of that kind: a degree, an entry of a script, or else a number
--                                           that 64 bits hold
--   AreDistinctNames names given          == each of the names given is among the names, and no two are the
--                                            same
--   HaveDistinctNames names kinds rest    == the names that each of the words gives are given so
--   AreNumerals kinds rest                == all numbers that they give may stand in a word of its kind
--   IsSpelledSet names given set          == set has just the vertices of the names given
--   number_spelled_for given numbers name == the number beside the name, and 0 if the name is not given
--   IsSpelledScript names given numbers s == s has at each vertex the number given for its name, and 0 if
--                                            none is
--   SpellsScript names word s             == the items of the word spell the script: each a name, `=` and a
--                                            number
use Rattle.std.specs.Prelude.{◌≡◌, ℕ, ◌<◌, ◌≤◌, ◌-◌, ◌^◌, ℤ, pos, neg_ℤ, ◌≤ℤ◌, List, [], ◌∷◌, length, map, cond, All, IsTrue, bytes_eq, unwrap_or}
use Rattle.std.specs.Fmt.{signed_decimal}
use Rattle.std.specs.Int.RustNames.{unsigned_abs}
use Rattle.std.specs.List.{IsDistinct}
use Rattle.dg_chips.specs.Vector.{Vector, IsScriptVector, at}
use Rattle.dg_chips.specs.declared.script.TheConstants.{MAX_ENTRY}
use Rattle.dg_graph.specs.Sets.{in_set}
use Rattle.dg_theory.specs.Sets.{IsVertexSet}
use Rattle.dg_tokens.specs.Names.{names_contain, name_at}
use Rattle.dg_lines.specs.Cuts.{before, after, items}

pub data WordKind : Type 0 where
  vertex : WordKind
  vertices : WordKind
  script : WordKind
  degree : WordKind
  dollars : WordKind

abbrev pub item_name : List ℕ → List ℕ
item_name item = before 61 item

abbrev pub item_number : List ℕ → List ℕ
item_number item = unwrap_or (after 61 item) []

abbrev pub names_in_word : WordKind → List ℕ → List (List ℕ)
names_in_word vertex word = word ∷ []
names_in_word vertices word = items word
names_in_word script word = map item_name (items word)
names_in_word degree word = []
names_in_word dollars word = []

abbrev pub numbers_in_word : WordKind → List ℕ → List (List ℕ)
numbers_in_word vertex word = []
numbers_in_word vertices word = []
numbers_in_word script word = map item_number (items word)
numbers_in_word degree word = word ∷ []
numbers_in_word dollars word = word ∷ []

pub record IsNumeralWithin (low high : ℤ) (text : List ℕ) : Type 0 where
  pub number : ℤ
  pub spelled : text ≡ signed_decimal number
  pub not_less : low ≤ℤ number
  pub not_more : number ≤ℤ high

abbrev pub IsWordNumeral : WordKind → List ℕ → Type 0
IsWordNumeral degree text = IsNumeralWithin (pos 0) (pos (2 ^ 32 - 1)) text
IsWordNumeral script text = IsNumeralWithin (neg_ℤ (pos MAX_ENTRY)) (pos MAX_ENTRY) text
IsWordNumeral kind text = IsNumeralWithin (neg_ℤ (pos (2 ^ 63))) (pos (2 ^ 63 - 1)) text

pub record AreDistinctNames (names : List (List ℕ)) (given : List (List ℕ)) : Type 0 where
  pub each : All (λ name. IsTrue (names_contain names name)) given
  pub different : IsDistinct bytes_eq given

abbrev pub HaveDistinctNames : List (List ℕ) → List WordKind → List (List ℕ) → Type 0
HaveDistinctNames names [] rest = Unit {0}
HaveDistinctNames names (kind ∷ kinds) [] = Unit {0}
HaveDistinctNames names (kind ∷ kinds) (word ∷ rest) =
    AreDistinctNames names (names_in_word kind word) × HaveDistinctNames names kinds rest

abbrev pub AreNumerals : List WordKind → List (List ℕ) → Type 0
AreNumerals [] rest = Unit {0}
AreNumerals (kind ∷ kinds) [] = Unit {0}
AreNumerals (kind ∷ kinds) (word ∷ rest) =
    All (IsWordNumeral kind) (numbers_in_word kind word) × AreNumerals kinds rest

pub record IsSpelledSet (names : List (List ℕ)) (given : List (List ℕ)) (set : ℕ) : Type 0 where
  pub are_given : AreDistinctNames names given
  pub members : (v : ℕ) → v < length names → in_set set v ≡ names_contain given (name_at names v)
  pub within : IsVertexSet (length names) (in_set set)

unfoldable pub number_spelled_for : List (List ℕ) → List ℤ → List ℕ → ℤ
number_spelled_for [] numbers name = pos 0
number_spelled_for (first ∷ given) [] name = pos 0
number_spelled_for (first ∷ given) (x ∷ numbers) name =
    cond (bytes_eq first name) x (number_spelled_for given numbers name)

pub record IsSpelledScript (names given : List (List ℕ)) (numbers : List ℤ) (s : Vector) : Type 0 where
  pub are_given : AreDistinctNames names given
  pub size : s.size ≡ length names
  pub entries : (v : ℕ) → v < length names → at s v ≡ number_spelled_for given numbers (name_at names v)
  pub within : IsScriptVector s

pub record SpellsScript (names : List (List ℕ)) (word : List ℕ) (s : Vector) : Type 0 where
  pub numbers : List ℤ
  pub spelled : map item_number (items word) ≡ map signed_decimal numbers
  pub limit : All (λ x. unsigned_abs x ≤ MAX_ENTRY) numbers
  pub script : IsSpelledScript names (map item_name (items word)) numbers s
