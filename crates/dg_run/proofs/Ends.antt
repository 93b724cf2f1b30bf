-- Ends that came early.
--   early_more     one end more is counted from its place
--   early_taken    the same, of the first ends of a list
use Rattle.dg_run.proofs.Common.{◌≡◌, ℕ, ◌+◌, ◌<◌, List, [], ◌∷◌, ◌++◌, length, take, arith, ap, ◌∙◌, length-take-le, Result, Ok, Err, SessionEnd, early}

pub early_more : (s : ℕ) (ends : List (Result ℕ SessionEnd)) (end : Result ℕ SessionEnd) →
    early s (ends ++ end ∷ []) ≡ early s ends ++ early (s + length ends) (end ∷ [])
early_more s [] end = ap (λ (t : ℕ). early t (end ∷ [])) (omega arith)
early_more s (Ok n ∷ ends) end =
    let number : (s + 1) + length ends ≡ s + length (Ok n ∷ ends) = omega arith in
    early_more (s + 1) ends end ∙ ap (λ (t : ℕ). early (s + 1) ends ++ early t (end ∷ [])) number
early_more s (Err e ∷ ends) end =
    let number : (s + 1) + length ends ≡ s + length (Err e ∷ ends) = omega arith in
    ap (λ (rest : List (ℕ × SessionEnd)). (s, e) ∷ rest)
    (early_more (s + 1) ends end ∙ ap (λ (t : ℕ). early (s + 1) ends ++ early t (end ∷ [])) number)

pub early_taken : (place : ℕ) (ends : List (Result ℕ SessionEnd)) (end : Result ℕ SessionEnd) → place < length ends →
    take (place + 1) ends ≡ take place ends ++ end ∷ [] →
    early 1 (take (place + 1) ends) ≡ early 1 (take place ends) ++ early (place + 1) (end ∷ [])
early_taken place ends end within longer =
    let number : 1 + length (take place ends) ≡ place + 1 = omega (arith, length-take-le place ends) in
    ap (early 1) longer ∙ early_more 1 (take place ends) end
    ∙ ap (λ (t : ℕ). early 1 (take place ends) ++ early t (end ∷ [])) number
