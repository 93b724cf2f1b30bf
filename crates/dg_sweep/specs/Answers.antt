-- What the line of a table is answered.
-- In words it is as for one table; in numbers it has one column for each number.
--   IsVerdictRow o text                   == the text is the row of the verdict on the amounts of o, computed
--                                            from its vertex q
--   rank_line form names x                == the answer that is a rank verdict, and a newline
--   unnamed_loss_line form n k            == the answer that the rank is below k, without the first loss
--   IsTested o k form names text          == the text is that of a rank verdict of degree k which is right
--                                            for the amounts of o, and a newline; if it names a loss, the
--                                            test is within the limits
--   IsBelow o k form text                 == the rank of the amounts is below k, and that the text says; but
--                                            there are too many trials to name the first loss
--   AnswersRankLine o k form names text   == one of these
--   label form words                      == the words, if the answer is in words
--   field_text form words z               == the label and the number, and a space
--   degree_genus_text form o              == the degree of the amounts and the genus of the graph
--   ranks_line form o rank dual           == these, and two numbers for the ranks
--   AreRanks o form text                  == the text is that of the rank of the amounts and that of their
--                                            residual
--   AnswersTable question o names text    == the text answers the question for the start o with these names
--   columns question n                    == how many columns of numbers an answer for n vertices has, and 0
--                                            if it is in words
--   missing n                             == n columns without a number, and a mark before what is no number;
--                                            nothing for answers in words, which have 0 columns
--   refusal_line n words                  == n columns without a number, `refused`, the words and a newline
--   IsRefusalOf refuses n text            == there is a fault that refuses, and the text says which, with n
--                                            columns
--   AnswersDescribed question line text   == the line describes a table, and the text answers the question
--                                            for it
--   AnswersTableWithin question line text == the line describes a table, and the text answers the question
--                                            for it; or it is refused as a table, of which nobody knows the
--                                            vertices, and the text says why
--   Rule                                  == how lines are answered: in how many columns one is refused, and
--                                            which texts answer one that is no longer than a line may be
--   of_tables question                    == so are the lines that are tables
--   AnswersLine rule line text            == the text answers the line; a longer one than a line may be is
--                                            refused unread
--   AnswersTableLine question line text   == the text answers the line of a table so
--   AnswersLines rule ls text             == the text is the answers to the lines ls, one after another
use Rattle.std.specs.Prelude.{◌≡◌, ◌≢◌, ℕ, zero, suc, ◌+◌, ◌<◌, ◌≤◌, ◌⊎◌, ℤ, true, false, List, [], ◌∷◌, ◌++◌, None, Some, length, codes, decimal}
use Rattle.std.specs.Fmt.{signed_decimal}
use Rattle.dg_sweep.specs.Common.{genus, degree, minus, canonical, HasRankAtLeast, IsRank, StartData, at, IsPastLimits, IsRightRank, IsTestable, RankVerdict, AtLeast, Below, IsJudgementText, IsVerdictOn, Verdict, marks, rank_row, verdict_row, text_of, IsTableFile, IsFileFault, FileFault, OutOfMemory, Form, Words, Numbers, Question, Judge, Rank, RiemannRoch}
use Rattle.dg_invocation.specs.declared.question.VerdictForm.TheVariants as verdict
use Rattle.dg_rules.specs.declared.entry.Reply.TheVariants.{Rank as Tested}
use Rattle.dg_sweep.specs.FaultTexts.{file_fault_words}
use Rattle.dg_sweep.specs.declared.ends.TheConstants.{MAX_LINE}

pub record IsVerdictRow (o : StartData) (text : List ℕ) : Type 0 where
  pub verdict : Verdict
  pub found : IsVerdictOn o.graph o.q (at o.divisor) verdict
  pub printed : text ≡ verdict_row verdict

abbrev pub rank_line : Form → List (List ℕ) → RankVerdict → List ℕ
rank_line Words names x = text_of names (Tested x) ++ codes "\n"
rank_line Numbers names (AtLeast k) = rank_row (length names) true None
rank_line Numbers names (Below k loss) = rank_row (length names) false (Some loss)

abbrev pub unnamed_loss_line : Form → ℕ → ℕ → List ℕ
unnamed_loss_line Words n k = codes "rank below " ++ decimal k ++ codes " at ?\n"
unnamed_loss_line Numbers n k = rank_row n false None

pub record IsTested (o : StartData) (k : ℕ) (form : Form) (names : List (List ℕ)) (text : List ℕ)
    : Type 0 where
  pub verdict : RankVerdict
  pub right : IsRightRank o.graph (at o.divisor) k verdict
  pub named : IsTestable o.graph.size k ⊎ (verdict ≡ AtLeast k)
  pub printed : text ≡ rank_line form names verdict

pub record IsBelow (o : StartData) (k : ℕ) (form : Form) (text : List ℕ) : Type 0 where
  pub past : IsPastLimits o.graph.size k
  pub below : ¬ HasRankAtLeast o.graph (at o.divisor) k
  pub printed : text ≡ unnamed_loss_line form o.graph.size k

abbrev pub AnswersRankLine : StartData → ℕ → Form → List (List ℕ) → List ℕ → Type 0
AnswersRankLine o k form names text =
    IsTested o k form names text ⊎ IsBelow o k form text

abbrev pub label : Form → List ℕ → List ℕ
label Words words = words
label Numbers words = []

abbrev pub field_text : Form → List ℕ → ℤ → List ℕ
field_text form words z = label form words ++ signed_decimal z ++ codes " "

abbrev pub degree_genus_text : Form → StartData → List ℕ
degree_genus_text form o =
    field_text form (codes "degree ") (degree o.graph.size (at o.divisor))
    ++ field_text form (codes "genus ") (genus o.graph)

abbrev pub ranks_line : Form → StartData → ℤ → ℤ → List ℕ
ranks_line form o rank dual =
    degree_genus_text form o ++ field_text form (codes "rank ") rank
    ++ (label form (codes "dual ") ++ signed_decimal dual ++ codes "\n")

pub record AreRanks (o : StartData) (form : Form) (text : List ℕ) : Type 0 where
  pub rank : ℤ
  pub of_divisor : IsRank o.graph (at o.divisor) rank
  pub dual_rank : ℤ
  pub of_dual : IsRank o.graph (minus (canonical o.graph) (at o.divisor)) dual_rank
  pub printed : text ≡ ranks_line form o rank dual_rank

abbrev pub AnswersTable : Question → StartData → List (List ℕ) → List ℕ → Type 0
AnswersTable (Judge (verdict.Words ordered)) o names text = IsJudgementText o names ordered text
AnswersTable (Judge verdict.Numbers) o names text = IsVerdictRow o text
AnswersTable (Rank k form) o names text = AnswersRankLine o k form names text
AnswersTable (RiemannRoch form) o names text = AreRanks o form text

abbrev pub columns : Question → ℕ → ℕ
columns (Judge (verdict.Words ordered)) n = 0
columns (Judge verdict.Numbers) n = 1 + (n + n)
columns (Rank k Words) n = 0
columns (Rank k Numbers) n = 1 + n
columns (RiemannRoch Words) n = 0
columns (RiemannRoch Numbers) n = 4

unfoldable pub missing : ℕ → List ℕ
missing zero = []
missing (suc n) = codes "NA" ++ marks n ++ codes " # "

abbrev pub refusal_line : ℕ → List ℕ → List ℕ
refusal_line n words = missing n ++ codes "refused " ++ words ++ codes "\n"

pub record IsRefusalOf (refuses : FileFault → Type 0) (n : ℕ) (text : List ℕ) : Type 0 where
  pub fault : FileFault
  pub found : fault ≢ OutOfMemory
  pub refused : refuses fault
  pub printed : text ≡ refusal_line n (file_fault_words fault)

pub record AnswersDescribed (question : Question) (line text : List ℕ) : Type 0 where
  pub start : StartData
  pub names : List (List ℕ)
  pub table : IsTableFile line start names
  pub answer : AnswersTable question start names text

abbrev pub AnswersTableWithin : Question → List ℕ → List ℕ → Type 0
AnswersTableWithin question line text =
    IsRefusalOf (IsFileFault line) (columns question 0) text ⊎ AnswersDescribed question line text

pub record Rule : Type 1 where
  pub columns : ℕ
  pub answers : List ℕ → List ℕ → Type 0

abbrev pub of_tables : Question → Rule
of_tables question = record { columns = columns question 0; answers = AnswersTableWithin question }

abbrev pub AnswersLine : Rule → List ℕ → List ℕ → Type 0
AnswersLine rule line text =
    ((MAX_LINE < length line) × (text ≡ refusal_line rule.columns (codes "file too long")))
    ⊎ ((length line ≤ MAX_LINE) × rule.answers line text)

abbrev pub AnswersTableLine : Question → List ℕ → List ℕ → Type 0
AnswersTableLine question line text = AnswersLine (of_tables question) line text

unfoldable pub AnswersLines : Rule → List (List ℕ) → List ℕ → Type 0
AnswersLines rule [] text = text ≡ []
AnswersLines rule (line ∷ ls) text =
    (front back : List ℕ) × AnswersLine rule line front × AnswersLines rule ls back
    × (text ≡ front ++ back)
