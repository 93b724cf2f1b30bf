-- A verdict that is printed for a table, and the order in which its vertices burn.
--   burning_text names order             == `burning`, and the names of the vertices in that order, each word
--                                           after a space
--   judgement_text names ordered x       == the text of the verdict x; and, if the order is asked for, in
--                                           which order all vertices burn in its reduced divisor
--   VerdictHasNames names x              == there are as many names as the verdict has vertices, and its
--                                           order is one of vertices that have names
--   IsJudgementText o names ordered text == the text is that of the verdict on the amounts of the start o,
--                                           computed from its vertex q, and a newline
use Rattle.std.specs.Prelude.{◌≡◌, ℕ, ◌<◌, Bool, true, false, List, ◌++◌, length, take, All, codes}
use Rattle.std.specs.List.{flat_map}
use Rattle.dg_chips.specs.Starts.{StartData}
use Rattle.dg_chips.specs.Vector.{at}
use Rattle.dg_tokens.specs.Names.{name_at}
use Rattle.dg_verdict.specs.Right.{IsVerdictOn}
use Rattle.dg_verdict.specs.declared.verdict.Verdict.{Verdict}
use Rattle.dg_lines.specs.Texts.{verdict_text}

abbrev pub burning_text : List (List ℕ) → List ℕ → List ℕ
burning_text names order = codes " burning" ++ flat_map (λ v. codes " " ++ name_at names v) order

abbrev pub judgement_text : List (List ℕ) → Bool → Verdict → List ℕ
judgement_text names false x = verdict_text names x
judgement_text names true x =
    verdict_text names x ++ burning_text names (take (length names) x.order)

pub record VerdictHasNames (names : List (List ℕ)) (x : Verdict) : Type 0 where
  pub script : length names ≡ x.script.size
  pub reduced : length names ≡ x.reduced.size
  pub order : All (λ v. v < length names) (take (length names) x.order)

pub record IsJudgementText (o : StartData) (names : List (List ℕ)) (ordered : Bool)
    (text : List ℕ) : Type 0 where
  pub verdict : Verdict
  pub found : IsVerdictOn o.graph o.q (at o.divisor) verdict
  pub printed : text ≡ judgement_text names ordered verdict ++ codes "\n"
