-- The amounts of a line, read word by word.
--   IsReadTo line left xs     the words of the line are the decimals of the numbers xs, and then those that are left
--   read_none, read_one, read_all   none are read; one more; all are
--   none_read                 where a word is no decimal, the line spells no numbers
use Rattle.dg_sweep.proofs.Common.{◌≡◌, ◌≢◌, ℕ, ℤ, List, [], ◌∷◌, ◌++◌, map, All, FitsSigned, w64, refl, sym, ap, ◌∙◌, append-nil, arith, length, signed_decimal, All-nil, All-push, All-head, All-tail, words, SpellsAmounts, SpellsNoAmounts}

pub record IsReadTo (line : List ℕ) (left : List (List ℕ)) (xs : List ℤ) : Type 0 where
  pub spelled : words line ≡ map signed_decimal xs ++ left
  pub held : All (FitsSigned w64) xs

pub read_none : (line : List ℕ) → IsReadTo line (words line) []
read_none line = record { spelled = refl; held = All-nil (FitsSigned w64) }

one_more : (xs : List ℤ) (x : ℤ) (left : List (List ℕ))
    → map signed_decimal xs ++ signed_decimal x ∷ left ≡ map signed_decimal (xs ++ x ∷ []) ++ left
one_more [] x left = refl
one_more (y ∷ ys) x left = ap (λ l. signed_decimal y ∷ l) (one_more ys x left)

pub read_one : {line : List ℕ} {left : List (List ℕ)} {xs : List ℤ} (word : List ℕ) (more : List (List ℕ)) (x : ℤ)
    → IsReadTo line left xs → left ≡ word ∷ more → word ≡ signed_decimal x → FitsSigned w64 x
    → IsReadTo line more (xs ++ x ∷ [])
read_one {xs = xs} word more x far next is fits = record {
  spelled = far.spelled ∙ ap (λ l. map signed_decimal xs ++ l) (next ∙ ap (λ w. w ∷ more) is) ∙ one_more xs x more;
  held = All-push (FitsSigned w64) xs x far.held fits;
}

pub read_all : {line : List ℕ} {left : List (List ℕ)} {xs : List ℤ} → IsReadTo line left xs → left ≡ []
    → SpellsAmounts line xs
read_all {xs = xs} far none = record {
  spelled = far.spelled ∙ ap (λ l. map signed_decimal xs ++ l) none ∙ append-nil (map signed_decimal xs);
  held = far.held;
}

no_others : (word : List ℕ) (more : List (List ℕ)) → ((z : ℤ) → FitsSigned w64 z → word ≢ signed_decimal z)
    → (xs ys : List ℤ) → map signed_decimal xs ++ word ∷ more ≡ map signed_decimal ys → All (FitsSigned w64) ys → ⊥
no_others word more never [] [] e fits = absurd (omega (arith, ap length e))
no_others word more never [] (y ∷ ys) e fits = never y (All-head (FitsSigned w64) y ys fits) (ap (first word) e)
  where
    first : List ℕ → List (List ℕ) → List ℕ
    first other [] = other
    first other (w ∷ ws) = w
no_others word more never (x ∷ xs) [] e fits = absurd (omega (arith, ap length e))
no_others word more never (x ∷ xs) (y ∷ ys) e fits = no_others word more never xs ys (ap tail e)
    (All-tail (FitsSigned w64) y ys fits)
  where
    tail : List (List ℕ) → List (List ℕ)
    tail [] = []
    tail (w ∷ ws) = ws

pub none_read : {line : List ℕ} {left : List (List ℕ)} {xs : List ℤ} (word : List ℕ) (more : List (List ℕ))
    → IsReadTo line left xs → left ≡ word ∷ more → ((z : ℤ) → FitsSigned w64 z → word ≢ signed_decimal z)
    → SpellsNoAmounts line
none_read {xs = xs} word more far next never ys spells =
    no_others word more never xs ys
    (sym (ap (λ l. map signed_decimal xs ++ l) next) ∙ sym far.spelled ∙ spells.spelled) spells.held
