-- Cutting undone: the two parts with the byte between make the whole, and a whole made so is cut into its parts.
use Rattle.dg_lines.proofs.Common.{◌≡◌, ℕ, ◌<◌, ◌==◌, cond, true, false, Bool, List, [], ◌∷◌, ◌++◌, Some, None, refl, ap, arith, subst, nat_tests, AllDigits, digit_value, eqb-true}
use Rattle.dg_lines.specs.Cuts.{before, after}

same_byte : (b : ℕ) → (b == b) ≡ true
same_byte b = grind (arith, nat_tests)

not_a_digit : (x : ℕ) → x ≡ 32 → digit_value x < 10 → ⊥
not_a_digit x e small = let P : ℕ → Type 0 = λ n. digit_value n < 10 in let h : digit_value 32 < 10 =
    subst P e small in absurd (omega arith)

pub cut_joined : (b : ℕ) (xs rest : List ℕ) → after b xs ≡ Some rest → xs ≡ before b xs ++ b ∷ rest
unfolding before after
cut_joined b [] rest e = cc
cut_joined b (x ∷ xs) rest e =
    let P : Bool → Type 0 = λ t. (x == b) ≡ t → cond t (Some xs) (after b xs) ≡ Some rest
    → x ∷ xs ≡ cond t [] (x ∷ before b xs) ++ b ∷ rest in
    (elim (x == b) as P [
      | true ↦ λ same found. let first : x ≡ b = eqb-true x b same in let tail : xs ≡ rest = cc in cc
      | false ↦ λ other found. ap (λ back. x ∷ back) (cut_joined b xs rest found)
    ]) refl e

pub before_joined : (b : ℕ) (front back : List ℕ) → after b front ≡ None → before b (front ++ b ∷ back) ≡ front
unfolding before after
before_joined b [] back e = ap (λ t. cond t [] (b ∷ before b back)) (same_byte b)
before_joined b (x ∷ xs) back e =
    let P : Bool → Type 0 = λ t. cond t (Some xs) (after b xs) ≡ None
    → cond t [] (x ∷ before b (xs ++ b ∷ back)) ≡ x ∷ xs in
    (elim (x == b) as P [ true ↦ λ found. cc | false ↦ λ found. ap (λ rest. x ∷ rest) (before_joined b xs back found) ])
    e

pub after_joined : (b : ℕ) (front back : List ℕ) → after b front ≡ None → after b (front ++ b ∷ back) ≡ Some back
unfolding after
after_joined b [] back e = ap (λ t. cond t (Some back) (after b back)) (same_byte b)
after_joined b (x ∷ xs) back e =
    let P : Bool → Type 0 = λ t. cond t (Some xs) (after b xs) ≡ None
    → cond t (Some (xs ++ b ∷ back)) (after b (xs ++ b ∷ back)) ≡ Some back in
    (elim (x == b) as P [ true ↦ λ found. cc | false ↦ λ found. after_joined b xs back found ]) e

pub no_space_in_digits : (digits : List ℕ) → AllDigits 10 digits → after 32 digits ≡ None
unfolding after
no_space_in_digits [] each = refl
no_space_in_digits (x ∷ xs) each =
    let P : Bool → Type 0 = λ t. (x == 32) ≡ t → cond t (Some xs) (after 32 xs) ≡ None in
    (elim (x == 32) as P [
      | true ↦ λ same. absurd (not_a_digit x (eqb-true x 32 same) each.0)
      | false ↦ λ other. no_space_in_digits xs each.1
    ]) refl
