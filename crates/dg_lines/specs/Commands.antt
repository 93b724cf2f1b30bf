-- Command lines: what a line spells. A line is cut into words at each single space, so that two
-- spaces in a row make an empty word. `names` are the names of the vertices, in vertex order.
--   row keyword                        == the command word, and the kinds of the words after it
--   keywords                           == all commands
--   command_words                      == their rows: the table of the step language
--   kinds_beside rows word             == the kinds beside the word, in the first of the rows that has it, if
--                                         one has
--   wanted_kinds keyword               == the kinds of the words after the command word, if it is one
--   kinds_on_line keyword              == these kinds, and none if it is no command word
--   wanted_words keyword               == how many words follow the command word, if it is one
--   IsWellFormed keyword rest          == so many words follow it, and none of them is empty
--   IsMoveWord names move keyword word == the command word and the word after it spell the move
--   MeansGift names v x rest           == the two words name the vertex v and spell the number x
--   MeansJoin names u v rest           == the two words name the vertices u and v, which may be the same
--   Means names command keyword rest   == the command word and the words after it spell the command
--   SpellsCommand names command line   == the line has the right form, and its words spell the command
use Rattle.std.specs.Prelude.{◌≡◌, ◌≢◌, ℕ, ◌<◌, ◌^◌, ℤ, FitsSigned, List, [], ◌∷◌, length, map, cond, Option, Some, None, option_map, unwrap_or, All, bytes_eq, codes, decimal}
use Rattle.std.specs.Fmt.{signed_decimal}
use Rattle.std.specs.Int.{w64}
use Rattle.dg_chips.specs.declared.moves.Move.{Move}
use Rattle.dg_chips.specs.declared.moves.Move.TheVariants.{Lend, Borrow, Fire, Script}
use Rattle.dg_rules.specs.declared.step.Command.{Command}
use Rattle.dg_rules.specs.declared.step.Command.TheVariants.{Call, Commit, Rank}
use Rattle.dg_tokens.specs.Names.{place_of}
use Rattle.dg_rules.specs.declared.entry.Plain.TheVariants.{Gift, Join, Look, Claim, Move as Play}
use Rattle.dg_lines.specs.Cuts.{words, items}
use Rattle.dg_lines.specs.CommandWords.{WordKind, vertex, vertices, script, degree, dollars, IsSpelledSet, SpellsScript}
use Rattle.dg_lines.specs.declared.command.Keyword.{Keyword}
use Rattle.dg_lines.specs.declared.command.Keyword.TheVariants as of

abbrev pub row : Keyword → List ℕ × List WordKind
row of.Lend = (codes "lend", vertex ∷ [])
row of.Borrow = (codes "borrow", vertex ∷ [])
row of.Fire = (codes "fire", vertices ∷ [])
row of.Script = (codes "script", script ∷ [])
row of.Gift = (codes "gift", vertex ∷ dollars ∷ [])
row of.Join = (codes "join", vertex ∷ vertex ∷ [])
row of.Look = (codes "look", [])
row of.Claim = (codes "claim", [])
row of.Commit = (codes "commit", [])
row of.Rank = (codes "rank", degree ∷ [])

abbrev pub keywords : List Keyword
keywords =
    of.Lend ∷ of.Borrow ∷ of.Fire ∷ of.Script ∷ of.Gift ∷ of.Join ∷ of.Look
    ∷ of.Claim ∷ of.Commit ∷ of.Rank ∷ []

abbrev pub command_words : List (List ℕ × List WordKind)
command_words = map row keywords

unfoldable pub kinds_beside : List (List ℕ × List WordKind) → List ℕ → Option (List WordKind)
kinds_beside [] word = None
kinds_beside (first ∷ rows) word =
    cond (bytes_eq word first.0) (Some first.1) (kinds_beside rows word)

abbrev pub wanted_kinds : List ℕ → Option (List WordKind)
wanted_kinds keyword = kinds_beside command_words keyword

abbrev pub kinds_on_line : List ℕ → List WordKind
kinds_on_line keyword = unwrap_or (wanted_kinds keyword) []

abbrev pub wanted_words : List ℕ → Option ℕ
wanted_words keyword = option_map length (wanted_kinds keyword)

pub record IsWellFormed (keyword : List ℕ) (rest : List (List ℕ)) : Type 0 where
  pub wanted : wanted_words keyword ≡ Some (length rest)
  pub filled : All (λ word. word ≢ []) rest

abbrev pub IsMoveWord : List (List ℕ) → Move → List ℕ → List ℕ → Type 0
IsMoveWord names (Lend v) keyword word = (keyword ≡ codes "lend") × (place_of names word ≡ Some v)
IsMoveWord names (Borrow v) keyword word =
    (keyword ≡ codes "borrow") × (place_of names word ≡ Some v)
IsMoveWord names (Fire set) keyword word = (keyword ≡ codes "fire") × IsSpelledSet names (items word) set
IsMoveWord names (Script s) keyword word = (keyword ≡ codes "script") × SpellsScript names word s

pub record MeansGift (names : List (List ℕ)) (v : ℕ) (x : ℤ) (rest : List (List ℕ)) : Type 0 where
  pub name : List ℕ
  pub given : rest ≡ name ∷ signed_decimal x ∷ []
  pub vertex : place_of names name ≡ Some v
  pub fits : FitsSigned w64 x

pub record MeansJoin (names : List (List ℕ)) (u v : ℕ) (rest : List (List ℕ)) : Type 0 where
  pub first : List ℕ
  pub second : List ℕ
  pub given : rest ≡ first ∷ second ∷ []
  pub from : place_of names first ≡ Some u
  pub to : place_of names second ≡ Some v

abbrev pub Means : List (List ℕ) → Command → List ℕ → List (List ℕ) → Type 0
Means names (Call (Play move)) keyword rest =
    (word : List ℕ) × (rest ≡ word ∷ []) × IsMoveWord names move keyword word
Means names (Call (Gift v x)) keyword rest = (keyword ≡ codes "gift") × MeansGift names v x rest
Means names (Call (Join u v)) keyword rest = (keyword ≡ codes "join") × MeansJoin names u v rest
Means names (Call Look) keyword rest = (keyword ≡ codes "look") × (rest ≡ [])
Means names (Call Claim) keyword rest = (keyword ≡ codes "claim") × (rest ≡ [])
Means names Commit keyword rest = (keyword ≡ codes "commit") × (rest ≡ [])
Means names (Rank k) keyword rest =
    (keyword ≡ codes "rank") × (rest ≡ decimal k ∷ []) × (k < 2 ^ 32)

pub record SpellsCommand (names : List (List ℕ)) (command : Command) (line : List ℕ) : Type 0 where
  pub keyword : List ℕ
  pub rest : List (List ℕ)
  pub cut : words line ≡ keyword ∷ rest
  pub formed : IsWellFormed keyword rest
  pub means : Means names command keyword rest
