-- The texts of replies, over the names of the vertices, in vertex order.
--   HasNames names reply          == there are as many names as the amounts of the reply, its script and its
--                                    graph have vertices
--   pair name amount              == `name=amount`
--   more_pairs names amounts v    == the pairs from the vertex v on, each after a space
--   pairs names amounts           == the pairs of all vertices, with one space between two
--   refusal_text refusal          == `refused` and the cause
--   verdict_word won              == the words before the script of a verdict
--   verdict_text names verdict    == the word of the verdict, the pairs of its script and those of its
--                                    reduced divisor
--   rank_text names x             == that the rank is at least k, or below k with the pairs of the first loss
--   text_of names reply           == the text of the reply, with no number and no newline
--   entry_text names number reply == the line of an entry: its number, a space, the text and a newline
--   history_text names n H        == the lines of the entries H, numbered from n on
--   RepliesHaveNames names H      == there are as many names as each reply of H has amounts
use Rattle.std.specs.Prelude.{◌≡◌, ℕ, ◌+◌, ℤ, Bool, true, false, List, [], ◌∷◌, ◌++◌, length, slice_get, Some, codes, decimal}
use Rattle.std.specs.Fmt.{signed_decimal}
use Rattle.dg_chips.specs.Vector.{at}
use Rattle.dg_rules.specs.LegalLaws.{IsSizedReply}
use Rattle.dg_rules.specs.declared.entry.Entry.{Entry}
use Rattle.dg_rules.specs.declared.entry.Refusal.{Refusal}
use Rattle.dg_rules.specs.declared.entry.Reply.{Reply}
use Rattle.dg_verdict.specs.declared.rank_verdict.RankVerdict.{RankVerdict}
use Rattle.dg_verdict.specs.declared.rank_verdict.RankVerdict.TheVariants.{AtLeast, Below}
use Rattle.dg_rules.specs.declared.entry.Reply.TheVariants.{Moved, Given, Joined, Looked, Stale, Won, NotWon, Refused, Verdict, Rank}
use Rattle.dg_rules.specs.declared.entry.Refusal.TheVariants.{NoVertex, Empty, Range, Loop, Valence, Script, Gift}
use Rattle.dg_verdict.specs.declared.verdict.Verdict.{Verdict as VerdictFound}

abbrev pub HasNames : List (List ℕ) → Reply → Type 0
HasNames names reply = IsSizedReply (length names) reply

abbrev pub pair : List ℕ → ℤ → List ℕ
pair name amount = name ++ codes "=" ++ signed_decimal amount

unfoldable pub more_pairs : List (List ℕ) → (ℕ → ℤ) → ℕ → List ℕ
more_pairs [] amounts v = []
more_pairs (name ∷ names) amounts v =
    codes " " ++ pair name (amounts v) ++ more_pairs names amounts (v + 1)

unfoldable pub pairs : List (List ℕ) → (ℕ → ℤ) → List ℕ
pairs [] amounts = []
pairs (name ∷ names) amounts = pair name (amounts 0) ++ more_pairs names amounts 1

abbrev pub refusal_text : Refusal → List ℕ
refusal_text NoVertex = codes "refused vertex"
refusal_text Empty = codes "refused empty"
refusal_text Script = codes "refused script"
refusal_text Gift = codes "refused gift"
refusal_text Range = codes "refused range"
refusal_text Loop = codes "refused loop"
refusal_text Valence = codes "refused valence"

abbrev pub verdict_word : Bool → List ℕ
verdict_word true = codes "winnable by "
verdict_word false = codes "unwinnable by "

abbrev pub verdict_text : List (List ℕ) → VerdictFound → List ℕ
verdict_text names x =
    verdict_word x.winnable ++ pairs names (at x.script) ++ codes " to " ++ pairs names
    (at x.reduced)

abbrev pub rank_text : List (List ℕ) → RankVerdict → List ℕ
rank_text names (AtLeast k) = codes "rank at least " ++ decimal k
rank_text names (Below k d) = codes "rank below " ++ decimal k ++ codes " at " ++ pairs names (at d)

abbrev pub text_of : List (List ℕ) → Reply → List ℕ
text_of names (Moved d) = codes "moved " ++ pairs names (at d)
text_of names (Given gifts d) = codes "given " ++ decimal gifts ++ codes " " ++ pairs names (at d)
text_of names (Joined gifts d) = codes "joined " ++ decimal gifts ++ codes " " ++ pairs names (at d)
text_of names (Looked gifts d graph) =
    codes "looked " ++ decimal gifts ++ codes " " ++ pairs names (at d)
text_of names (Verdict x) = verdict_text names x
text_of names (Rank x) = rank_text names x
text_of names (Stale gifts) = codes "stale " ++ decimal gifts
text_of names Won = codes "won"
text_of names NotWon = codes "not won"
text_of names (Refused refusal) = refusal_text refusal

abbrev pub entry_text : List (List ℕ) → ℕ → Reply → List ℕ
entry_text names number reply = decimal number ++ codes " " ++ text_of names reply ++ codes "\n"

unfoldable pub history_text : List (List ℕ) → ℕ → List Entry → List ℕ
history_text names n [] = []
history_text names n (e ∷ H) = entry_text names n e.reply ++ history_text names (n + 1) H

abbrev pub RepliesHaveNames : List (List ℕ) → List Entry → Type 0
RepliesHaveNames names H = (k : ℕ) (e : Entry) → slice_get H k ≡ Some e → HasNames names e.reply
