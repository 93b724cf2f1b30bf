-- A line has just one answer.
--   answer_once    a table has one answer
--   table_once, amounts_once   so has a line of a table, and one of amounts
--   tables_have_one_answer, amounts_answer_is_unique   the laws of dg_sweep
use Rattle.dg_sweep.proofs.Common.{◌≡◌, ℕ, ◌<◌, inl, inr, List, ◌++◌, length, codes, sym, ap, ◌∙◌, arith, subst, Multigraph, IsMultigraph, minus, canonical, rank_once, StartData, IsStart, at, IsRightRank, RankVerdict, AtLeast, Below, false, refl, loss_bounds_rank, past_within, FileMeaningIsUnique, IsFileFault, FileFault, Form, Words, Numbers, Question, Judge, Rank, RiemannRoch, TablesHaveOneAnswer, AmountsHaveOneAnswer, IsTested, IsBelow, AnswersRankLine, rank_line, ranks_line, AreRanks, AnswersTable, refusal_line, IsRefusalOf, AnswersTableWithin, AnswersLine, Rule, columns, of_tables, of_amounts, IsAmountsFault, AnswersAmounts, file_fault_words}
use Rattle.std.proofs.Math.IntN.{ℤ}
use Rattle.dg_lines.proofs.Given.{vertex_named}
use Rattle.dg_sweep.proofs.OneMeaning.{amounts_meaning_is_unique}
use Rattle.dg_lines.proofs.OneText.{loss_row_same, test_same, verdict_row_same}
use Rattle.dg_invocation.specs.declared.question.VerdictForm.TheVariants as verdict
use Rattle.dg_sweep.proofs.OneText.{judgement_same}

module _ (o : StartData) (names : List (List ℕ)) (graph : IsMultigraph o.graph) (vertex : o.q < o.graph.size)
    (fit : length names ≡ o.graph.size) where
  tested_below : (k : ℕ) (form : Form) (text other : List ℕ) → IsTested o k form names text → IsBelow o k
      form other → ⊥
  tested_below k form text other tested below = elim tested.named [
    | inl within ↦ past_within o.graph.size k below.past within
    | inr most ↦
        below.below (subst (λ (x : RankVerdict). IsRightRank o.graph (at o.divisor) k x) most tested.right).1
  ]

  line_same : (k : ℕ) (form : Form) (x y : RankVerdict) → IsRightRank o.graph (at o.divisor) k x
      → IsRightRank o.graph (at o.divisor) k y → rank_line form names x ≡ rank_line form names y
  line_same k Words x y first second =
      ap (λ (t : List ℕ). t ++ codes "\n") (test_same names o.graph (at o.divisor) fit k x y first second)
  line_same k Numbers (AtLeast i) (AtLeast j) first second = refl
  line_same k Numbers (AtLeast i) (Below j e) first second =
      absurd (loss_bounds_rank o.graph (at o.divisor) k (at e) second.2 first.1)
  line_same k Numbers (Below i d) (AtLeast j) first second =
      absurd (loss_bounds_rank o.graph (at o.divisor) k (at d) first.2 second.1)
  line_same k Numbers (Below i d) (Below j e) first second =
      loss_row_same o.graph (at o.divisor) (length names) k false d e (refl, first.1, first.2) (refl, second.1, second.2)

  rank_once_more : (k : ℕ) (form : Form) (text other : List ℕ) → AnswersRankLine o k form names text
      → AnswersRankLine o k form names other → text ≡ other
  rank_once_more k form text other (inl a) (inl b) =
      a.printed ∙ line_same k form a.verdict b.verdict a.right b.right ∙ sym b.printed
  rank_once_more k form text other (inl a) (inr b) = absurd (tested_below k form text other a b)
  rank_once_more k form text other (inr a) (inl b) = absurd (tested_below k form other text b a)
  rank_once_more k form text other (inr a) (inr b) = a.printed ∙ sym b.printed

  ranks_once : (form : Form) (text other : List ℕ) → AreRanks o form text → AreRanks o form other → text ≡ other
  ranks_once form text other a b =
      a.printed
      ∙ ap (λ (z : ℤ). ranks_line form o z a.dual_rank)
      (rank_once o.graph (at o.divisor) a.rank b.rank a.of_divisor b.of_divisor)
      ∙ ap (λ (z : ℤ). ranks_line form o b.rank z)
      (rank_once o.graph (minus (canonical o.graph) (at o.divisor)) a.dual_rank b.dual_rank a.of_dual b.of_dual)
      ∙ sym b.printed

  answer_once : (question : Question) (text other : List ℕ) → AnswersTable question o names text
      → AnswersTable question o names other → text ≡ other
  answer_once (Judge (verdict.Words ordered)) text other a b =
      a.printed
      ∙ ap (λ (t : List ℕ). t ++ codes "\n")
      (judgement_same names o.graph (at o.divisor) fit o.q graph vertex ordered a.verdict b.verdict a.found b.found)
      ∙ sym b.printed
  answer_once (Judge verdict.Numbers) text other a b =
      a.printed
      ∙ verdict_row_same o.graph (at o.divisor) names fit o.q graph vertex a.verdict b.verdict a.found.right b.found.right
      ∙ sym b.printed
  answer_once (Rank k form) text other a b = rank_once_more k form text other a b
  answer_once (RiemannRoch form) text other a b = ranks_once form text other a b

refused_once : (refuses : FileFault → Type 0) (n : ℕ) (text other : List ℕ) (a : IsRefusalOf refuses n text)
    (b : IsRefusalOf refuses n other) → a.fault ≡ b.fault → text ≡ other
refused_once refuses n text other a b same =
    a.printed ∙ ap (λ (f : FileFault). refusal_line n (file_fault_words f)) same ∙ sym b.printed

line_once : (rule : Rule) (line : List ℕ)
    → ((text other : List ℕ) → rule.answers line text → rule.answers line other → text ≡ other) → (text other : List ℕ)
    → AnswersLine rule line text → AnswersLine rule line other → text ≡ other
line_once rule line once text other (inl (long, a)) (inl (long', b)) = a ∙ sym b
line_once rule line once text other (inl (long, a)) (inr (short, b)) = absurd (omega (arith, long, short))
line_once rule line once text other (inr (short, a)) (inl (long, b)) = absurd (omega (arith, long, short))
line_once rule line once text other (inr (short, a)) (inr (short', b)) = once text other a b

module _ (question : Question) where
  table_once : FileMeaningIsUnique → (line text other : List ℕ) → AnswersTableWithin question line text
      → AnswersTableWithin question line other → text ≡ other
  table_once files line text other (inl a) (inl b) =
      refused_once (IsFileFault line) (columns question 0) text other a b
      (files.fault line a.fault b.fault a.found b.found a.refused b.refused)
  table_once files line text other (inl a) (inr b) =
      absurd (files.refused line a.fault b.start b.names a.found a.refused b.table)
  table_once files line text other (inr a) (inl b) =
      absurd (files.refused line b.fault a.start a.names b.found b.refused a.table)
  table_once files line text other (inr a) (inr b) =
      let (same, named) = files.table line b.start a.start b.names a.names b.table a.table in
      let table = a.table.describes in
      let fit : length a.names ≡ a.start.graph.size = sym table.graph.size in
      let vertex : a.start.q < a.start.graph.size =
      omega (arith, fit, (vertex_named a.names a.table.content.q a.start.q table.vertex).0) in
      answer_once a.start a.names table.graph.graph.multigraph vertex fit question text other a.answer
      (subst (λ (ns : List (List ℕ)). AnswersTable question a.start ns other) named
      (subst (λ (o : StartData). AnswersTable question o b.names other) same b.answer))

  amounts_once : (o : StartData) (names : List (List ℕ)) (line text other : List ℕ) → IsStart o → length names ≡ o.graph.size
      → AnswersAmounts question o names line text → AnswersAmounts question o names line other → text ≡ other
  amounts_once o names line text other start fit (inl a) (inl b) =
      refused_once (IsAmountsFault o.graph.size line) (columns question o.graph.size) text other a b
      (amounts_meaning_is_unique.fault o.graph.size line a.fault b.fault a.found b.found a.refused b.refused)
  amounts_once o names line text other start fit (inl a) (inr b) =
      absurd (amounts_meaning_is_unique.refused o b.start line a.fault a.found a.refused b.stands)
  amounts_once o names line text other start fit (inr a) (inl b) =
      absurd (amounts_meaning_is_unique.refused o a.start line b.fault b.found b.refused a.stands)
  amounts_once o names line text other start fit (inr a) (inr b) =
      let same = amounts_meaning_is_unique.start o b.start a.start line b.stands a.stands in
      let graph : a.start.graph ≡ o.graph = ap (λ (s : StartData). s.graph) a.stands.rest in
      let q : a.start.q ≡ o.q = ap (λ (s : StartData). s.q) a.stands.rest in
      let size : a.start.graph.size ≡ o.graph.size = ap (λ (g : Multigraph). g.size) graph in
      answer_once a.start names (subst IsMultigraph (sym graph) start.graph.multigraph)
      (omega (arith, q, size, start.vertex)) (fit ∙ sym size) question text other a.answer
      (subst (λ (p : StartData). AnswersTable question p names other) same b.answer)

pub tables_have_one_answer : FileMeaningIsUnique → TablesHaveOneAnswer
tables_have_one_answer files question line text other =
    line_once (of_tables question) line (table_once question files line) text other

pub amounts_answer_is_unique : AmountsHaveOneAnswer
amounts_answer_is_unique question o names line text other start fit =
    line_once (of_amounts question o names) line
    (λ text other. amounts_once question o names line text other start fit) text other
