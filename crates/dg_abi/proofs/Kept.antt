-- What is said of a row stays true while other rows are written.
--   rows_more     what holds of rows before one, and of it, holds of all up to it
--   row_before    a row ends before a later one begins
--   row_kept      a row that holds some numbers holds them still
--   row_left      one that keeps what it had keeps what it had at the beginning
--   judged_kept, judged_begun    of the answer of a verdict: after later rows; and since the beginning
--   ranked_kept, ranked_begun    of a rank
--   tested_kept, tested_begun    of a rank test
--   told_byte     a byte of a truth tells it
use Rattle.std.proofs.Common.{◌≡◌, ◌≢◌, ℕ, ℤ, Bool, true, false, ◌+◌, ◌*◌, ◌<◌, ◌≤◌, List, length, pos, arith, refl, sym, subst, ◌∙◌, inl, inr, slice_set, below_more, get_or-set_other, get_or-set_same}
use Rattle.std.proofs.Math.Nat.{mul-le-mul}
use Rattle.std.specs.List.{slice_index_or}
use Rattle.dg_theory.specs.Firing.{Amounts}
use Rattle.dg_theory.specs.Multigraph.{Multigraph}
use Rattle.dg_abi.specs.Rows.{Holds, Keeps, AnswersJudge, AnswersRank, AnswersTest, IsTestTold, told_of}
use mir.Val.{bool_byte}

abbrev pub SameBelow : {X : Type 0} → X → ℕ → List X → List X → Type 0
SameBelow z e xs ys = (k : ℕ) → k < e → slice_index_or ys k z ≡ slice_index_or xs k z

abbrev pub SameFrom : {X : Type 0} → X → ℕ → List X → List X → Type 0
SameFrom z e xs ys = (k : ℕ) → e ≤ k → slice_index_or ys k z ≡ slice_index_or xs k z

pub rows_more : (P : ℕ → ℤ → Type 0) (told : List ℤ) (row : ℕ) (x y : ℤ) → row < length told → x ≡ y → P row y →
    ((r : ℕ) → r < row → P r (slice_index_or told r (pos 0))) →
    (r : ℕ) → r < row + 1 → P r (slice_index_or (slice_set told row x) r (pos 0))
rows_more P told row x y within same now before =
    below_more (λ r. P r (slice_index_or (slice_set told row x) r (pos 0))) row
    (λ r below.
    let other : r ≢ row = omega arith in
    subst (P r) (sym (get_or-set_other told row r x (pos 0) other)) (before r below))
    (subst (P row) (sym (get_or-set_same told row x (pos 0) within ∙ same)) now)

pub row_before : (r row n : ℕ) → r < row → r * n + n ≤ row * n
row_before r row n below = let most : (r + 1) * n ≤ row * n = mul-le-mul (omega arith) (omega arith) in omega (arith, most)

pub row_kept : {X : Type 0} (z : X) (n : ℕ) (xs ys : List X) (s e : ℕ) (f : ℕ → X) → s + n ≤ e → length ys ≡ length xs →
    SameBelow z e xs ys → Holds z n xs s f → Holds z n ys s f
row_kept z n xs ys s e f past size before holds = λ v below here.
    before (s + v) (omega arith) ∙ holds v below (omega arith)

pub row_left : {X : Type 0} (z : X) (n : ℕ) (xs xs' ys ys' : List X) (s e : ℕ) → s + n ≤ e → SameFrom z s xs xs' →
    SameBelow z e ys ys' → Keeps z n xs' ys s → Keeps z n xs ys' s
row_left z n xs xs' ys ys' s e past from before keeps = λ v below.
    before (s + v) (omega arith) ∙ keeps v below ∙ from (s + v) (omega arith)

pub judged_kept : (g : Multigraph) (q : ℕ) (amounts : List ℤ) (s e : ℕ) (told : ℤ) (x a a' y b b' : List ℤ) (z c c' : List ℕ) →
    s + g.size ≤ e → length a' ≡ length a → length b' ≡ length b → length c' ≡ length c →
    SameBelow (pos 0) e a a' → SameBelow (pos 0) e b b' → SameBelow 0 e c c' →
    AnswersJudge g q amounts s told x a y b z c → AnswersJudge g q amounts s told x a' y b' z c'
judged_kept g q amounts s e told x a a' y b b' z c c' past k l m f h i (inl j) = inl (record {
  divisor = j.divisor;
  holds = j.holds;
  verdict = j.verdict;
  right = j.right;
  is_told = j.is_told;
  has_script = row_kept (pos 0) g.size a a' s e _ past k f j.has_script;
  has_reduced = row_kept (pos 0) g.size b b' s e _ past l h j.has_reduced;
  has_order = row_kept 0 g.size c c' s e _ past m i j.has_order;
})
judged_kept g q amounts s e told x a a' y b b' z c c' past k l m f h i (inr j) = inr (record {
  refused = j.refused;
  keeps_script = row_left (pos 0) g.size x x a a' s e past (λ _ _. refl) f j.keeps_script;
  keeps_reduced = row_left (pos 0) g.size y y b b' s e past (λ _ _. refl) h j.keeps_reduced;
  keeps_order = row_left 0 g.size z z c c' s e past (λ _ _. refl) i j.keeps_order;
})

pub judged_begun : (g : Multigraph) (q : ℕ) (amounts : List ℤ) (s : ℕ) (told : ℤ) (x x' a y y' b : List ℤ) (z z' c : List ℕ) →
    SameFrom (pos 0) s x x' → SameFrom (pos 0) s y y' → SameFrom 0 s z z' →
    AnswersJudge g q amounts s told x' a y' b z' c → AnswersJudge g q amounts s told x a y b z c
judged_begun g q amounts s told x x' a y y' b z z' c f h i (inl j) = inl j
judged_begun g q amounts s told x x' a y y' b z z' c f h i (inr j) = inr (record {
  refused = j.refused;
  keeps_script = row_left (pos 0) g.size x x' a a s (s + g.size) (omega arith) f (λ _ _. refl) j.keeps_script;
  keeps_reduced = row_left (pos 0) g.size y y' b b s (s + g.size) (omega arith) h (λ _ _. refl) j.keeps_reduced;
  keeps_order = row_left 0 g.size z z' c c s (s + g.size) (omega arith) i (λ _ _. refl) j.keeps_order;
})

pub ranked_kept : (g : Multigraph) (amounts : List ℤ) (s r e : ℕ) (told : ℤ) (x a a' y b b' : List ℤ) → r < e →
    length b' ≡ length b → SameBelow (pos 0) e a a' → SameBelow (pos 0) e b b' →
    AnswersRank g amounts s r told x a y b → AnswersRank g amounts s r told x a' y b'
ranked_kept g amounts s r e told x a a' y b b' past l f h (inl j) = inl (record {
  divisor = j.divisor;
  holds = j.holds;
  is_told = j.is_told;
  both = j.both;
  right = j.right;
  has_rank = f r past ∙ j.has_rank;
  has_dual = λ here. h r past ∙ j.has_dual (omega arith);
})
ranked_kept g amounts s r e told x a a' y b b' past l f h (inr j) = inr (record {
  refused = j.refused;
  keeps_rank = f r past ∙ j.keeps_rank;
  keeps_dual = h r past ∙ j.keeps_dual;
})

pub ranked_begun : (g : Multigraph) (amounts : List ℤ) (s r : ℕ) (told : ℤ) (x x' a y y' b : List ℤ) →
    SameFrom (pos 0) r x x' → SameFrom (pos 0) r y y' →
    AnswersRank g amounts s r told x' a y' b → AnswersRank g amounts s r told x a y b
ranked_begun g amounts s r told x x' a y y' b f h (inl j) = inl j
ranked_begun g amounts s r told x x' a y y' b f h (inr j) = inr (record {
  refused = j.refused;
  keeps_rank = j.keeps_rank ∙ f r (omega arith);
  keeps_dual = j.keeps_dual ∙ h r (omega arith);
})

told_kept : (g : Multigraph) (D : Amounts) (k s e : ℕ) (told : ℤ) (x a a' : List ℤ) → s + g.size ≤ e → length a' ≡ length a →
    SameBelow (pos 0) e a a' → IsTestTold g D k s told x a → IsTestTold g D k s told x a'
told_kept g D k s e told x a a' past l f (inl (one, passes, keeps)) =
    inl (one, passes, row_left (pos 0) g.size x x a a' s e past (λ _ _. refl) f keeps)
told_kept g D k s e told x a a' past l f (inr (inl j)) = inr (inl (
  j.0,
  record {
    loss = j.1.loss;
    first = j.1.first;
    has_loss = row_kept (pos 0) g.size a a' s e _ past l f j.1.has_loss;
  },
))
told_kept g D k s e told x a a' past l f (inr (inr (two, fails, far, keeps))) =
    inr (inr (two, fails, far, row_left (pos 0) g.size x x a a' s e past (λ _ _. refl) f keeps))

told_begun : (g : Multigraph) (D : Amounts) (k s : ℕ) (told : ℤ) (x x' a : List ℤ) → SameFrom (pos 0) s x x' →
    IsTestTold g D k s told x' a → IsTestTold g D k s told x a
told_begun g D k s told x x' a f (inl (one, passes, keeps)) =
    inl (one, passes, row_left (pos 0) g.size x x' a a s (s + g.size) (omega arith) f (λ _ _. refl) keeps)
told_begun g D k s told x x' a f (inr (inl j)) = inr (inl j)
told_begun g D k s told x x' a f (inr (inr (two, fails, far, keeps))) =
    inr (inr (two, fails, far, row_left (pos 0) g.size x x' a a s (s + g.size) (omega arith) f (λ _ _. refl) keeps))

pub tested_kept : (g : Multigraph) (amounts : List ℤ) (k s e : ℕ) (told : ℤ) (x a a' : List ℤ) → s + g.size ≤ e →
    length a' ≡ length a → SameBelow (pos 0) e a a' →
    AnswersTest g amounts k s told x a → AnswersTest g amounts k s told x a'
tested_kept g amounts k s e told x a a' past l f (inl j) = inl (record {
  divisor = j.divisor;
  holds = j.holds;
  right = told_kept g _ k s e told x a a' past l f j.right;
})
tested_kept g amounts k s e told x a a' past l f (inr (refused, keeps)) =
    inr (refused, row_left (pos 0) g.size x x a a' s e past (λ _ _. refl) f keeps)

pub tested_begun : (g : Multigraph) (amounts : List ℤ) (k s : ℕ) (told : ℤ) (x x' a : List ℤ) → SameFrom (pos 0) s x x' →
    AnswersTest g amounts k s told x' a → AnswersTest g amounts k s told x a
tested_begun g amounts k s told x x' a f (inl j) = inl (record {
  divisor = j.divisor;
  holds = j.holds;
  right = told_begun g _ k s told x x' a f j.right;
})
tested_begun g amounts k s told x x' a f (inr (refused, keeps)) =
    inr (refused, row_left (pos 0) g.size x x' a a s (s + g.size) (omega arith) f (λ _ _. refl) keeps)

pub told_byte : (b : Bool) → pos (bool_byte b) ≡ told_of b
told_byte true = refl
told_byte false = refl
