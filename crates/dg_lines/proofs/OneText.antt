-- Right verdicts, and right rank tests, have one text.
--   pairs_same     amounts that agree on the vertices have the same pairs
--   reduced_same   right verdicts on one divisor have one reduced divisor,
--   script_same    one script
--   verdict_same   and one text
--   test_same      so have right rank tests of one degree
--   verdict_row_same, loss_row_same   a verdict has one row, and so has a first loss
use Rattle.dg_lines.proofs.Common.{◌≡◌, ℕ, ◌+◌, ◌<◌, Bool, true, false, List, [], ◌∷◌, ◌++◌, length, codes, arith, refl, sym, ap, ◌∙◌, ◌↔◌, decimal, ints, Multigraph, IsMultigraph, Amounts, DivisorsAgreeOn, IsWinnable, same_by_constant, equivalent-sym, equivalent-trans, loss_once, loss_bounds_rank, reduced_once, Some, Vector, at, IsRightVerdict, IsRightRank, Verdict, RankVerdict, AtLeast, Below, pair, verdict_word, verdict_text, rank_text}
use Rattle.std.proofs.Math.IntN.{ℤ}
use Rattle.dg_lines.specs.Columns.{columns, rank_row, bool_text, vector_columns, verdict_row}
use Rattle.dg_lines.specs.Texts.{more_pairs, pairs}
use Rattle.dg_lines.proofs.Rows.{columns_same}

more_same : (names : List (List ℕ)) (x y : Amounts) (n : ℕ)
    → ((v : ℕ) → v < n + length names → x v ≡ y v) → more_pairs names x n ≡ more_pairs names y n
unfolding more_pairs
more_same [] x y n same = refl
more_same (name ∷ names) x y n same =
    ap (λ (z : ℤ). codes " " ++ pair name z ++ more_pairs names x (n + 1)) (same n (omega arith))
    ∙ ap (λ (rest : List ℕ). codes " " ++ pair name (y n) ++ rest)
    (more_same names x y (n + 1) (λ v below. same v (omega (arith, below))))

pub pairs_same : (names : List (List ℕ)) (x y : Amounts) → DivisorsAgreeOn (length names) x y → pairs names x ≡ pairs names y
unfolding pairs
pairs_same [] x y same = refl
pairs_same (name ∷ names) x y same =
    ap (λ (z : ℤ). pair name z ++ more_pairs names x 1) (same 0 (omega arith))
    ∙ ap (λ (rest : List ℕ). pair name (y 0) ++ rest)
    (more_same names x y 1 (λ v below. same v (omega (arith, below))))

win_once : (P : Type 0) (s t : Bool) → (s ≡ true) ↔ P → (t ≡ true) ↔ P → s ≡ t
win_once P true true first second = refl
win_once P true false first second = sym (second.1 (first.0 refl))
win_once P false true first second = first.1 (second.0 refl)
win_once P false false first second = refl

module _ (names : List (List ℕ)) (g : Multigraph) (D : Amounts) (fit : length names ≡ g.size) where
  shown_same : (d e : Vector) → DivisorsAgreeOn g.size (at d) (at e) → pairs names (at d) ≡ pairs names (at e)
  shown_same d e same = pairs_same names (at d) (at e) (λ v below. same v (omega (arith, below, fit)))

  pub reduced_same : (q : ℕ) → q < g.size → (x y : Verdict) → IsRightVerdict g q D x → IsRightVerdict g q D y
      → DivisorsAgreeOn g.size (at x.reduced) (at y.reduced)
  reduced_same q vertex x y first second =
      reduced_once g q (at x.reduced) (at y.reduced) vertex
      (equivalent-trans g (at x.reduced) D (at y.reduced)
      (equivalent-sym g D (at x.reduced) (at x.script, first.led)) (at y.script, second.led))
      first.reduced second.reduced

  script_same : (q : ℕ) → IsMultigraph g → q < g.size → (x y : Verdict) → IsRightVerdict g q D x → IsRightVerdict g q D y
      → DivisorsAgreeOn g.size (at x.script) (at y.script)
  script_same q graph vertex x y first second =
      let (z, apart) = (same_by_constant g D (at x.script) (at y.script) graph).0
      (λ v below. sym (first.led v below) ∙ reduced_same q vertex x y first second v below ∙ second.led v below) in
      λ v below. omega (arith, ints, apart v below, apart q vertex, first.at_q, second.at_q)

  pub verdict_same : (q : ℕ) → IsMultigraph g → q < g.size → (x y : Verdict) → IsRightVerdict g q D x → IsRightVerdict g q D y
      → verdict_text names x ≡ verdict_text names y
  verdict_same q graph vertex x y first second =
      ap (λ (w : Bool). verdict_word w ++ pairs names (at x.script) ++ codes " to " ++ pairs names (at x.reduced))
      (win_once (IsWinnable g D) x.winnable y.winnable first.winnable second.winnable)
      ∙ ap (λ (ps : List ℕ). verdict_word y.winnable ++ ps ++ codes " to " ++ pairs names (at x.reduced))
      (shown_same x.script y.script (script_same q graph vertex x y first second))
      ∙ ap (λ (ps : List ℕ). verdict_word y.winnable ++ pairs names (at y.script) ++ codes " to " ++ ps)
      (shown_same x.reduced y.reduced (reduced_same q vertex x y first second))

  pub test_same : (k : ℕ) (x y : RankVerdict) → IsRightRank g D k x → IsRightRank g D k y
      → rank_text names x ≡ rank_text names y
  test_same k (AtLeast i) (AtLeast j) first second =
      ap (λ (n : ℕ). codes "rank at least " ++ decimal n) (first.0 ∙ sym second.0)
  test_same k (AtLeast i) (Below j e) first second = absurd (loss_bounds_rank g D k (at e) second.2 first.1)
  test_same k (Below i d) (AtLeast j) first second = absurd (loss_bounds_rank g D k (at d) first.2 second.1)
  test_same k (Below i d) (Below j e) first second =
      ap (λ (n : ℕ). codes "rank below " ++ decimal n ++ codes " at " ++ pairs names (at d)) (first.0 ∙ sym second.0)
      ∙ ap (λ (ps : List ℕ). codes "rank below " ++ decimal j ++ codes " at " ++ ps)
      (shown_same d e (loss_once g D k (at d) (at e) first.2 second.2))

module _ (g : Multigraph) (D : Amounts) where
  vector_same : (d e : Vector) → d.size ≡ g.size → e.size ≡ g.size → DivisorsAgreeOn g.size (at d) (at e)
      → vector_columns d ≡ vector_columns e
  vector_same d e one other same =
      columns_same (at d) (at e) 0 d.size (λ v below. same v (omega (arith, below, one)))
      ∙ ap (columns (at e) 0) (one ∙ sym other)

  pub verdict_row_same : (names : List (List ℕ)) → length names ≡ g.size → (q : ℕ) → IsMultigraph g → q < g.size
      → (x y : Verdict) → IsRightVerdict g q D x → IsRightVerdict g q D y → verdict_row x ≡ verdict_row y
  verdict_row_same names fit q graph vertex x y first second =
      ap (λ (w : Bool). bool_text w ++ vector_columns x.script ++ vector_columns x.reduced ++ codes "\n")
      (win_once (IsWinnable g D) x.winnable y.winnable first.winnable second.winnable)
      ∙ ap (λ (l : List ℕ). bool_text y.winnable ++ l ++ vector_columns x.reduced ++ codes "\n")
      (vector_same x.script y.script first.script_size second.script_size
      (script_same names g D fit q graph vertex x y first second))
      ∙ ap (λ (l : List ℕ). bool_text y.winnable ++ vector_columns y.script ++ l ++ codes "\n")
      (vector_same x.reduced y.reduced first.reduced_size second.reduced_size
      (reduced_same names g D fit q vertex x y first second))

  pub loss_row_same : (n k : ℕ) (holds : Bool) (d e : Vector) → IsRightRank g D k (Below k d) → IsRightRank g D
      k (Below k e)
      → rank_row n holds (Some d) ≡ rank_row n holds (Some e)
  loss_row_same n k holds d e first second =
      ap (λ (l : List ℕ). bool_text holds ++ l ++ codes "\n")
      (vector_same d e first.1 second.1 (loss_once g D k (at d) (at e) first.2 second.2))
