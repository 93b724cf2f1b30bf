-- Columns of numbers, written from the last to the first.
--   columns_none     after the last vertex there are none
--   columns_before   a number and the space before it, written before the columns of the vertices after it
--   columns_whole    those of all vertices, when no vertex is left
--   marks_more       one mark more
--   columns_same     numbers that agree on the vertices have the same columns
use Rattle.dg_lines.proofs.Common.{◌≡◌, ℕ, zero, suc, ◌+◌, ◌-◌, ◌<◌, ◌≤◌, ℤ, List, [], ◌∷◌, ◌++◌, length, take, drop, take_rest, add-one, append_assoc, codes, arith, refl, ap, sym, ◌∙◌, signed_decimal, Amounts}
use Rattle.dg_lines.specs.Columns.{columns, marks}

pub columns_none : (x : Amounts) (v n : ℕ) → n ≤ v → columns x v (n - v) ≡ []
unfolding columns
columns_none x v n past =
    let none : n - v ≡ 0 = omega (arith, past) in
    ap (columns x v) none

pub columns_before : (next numbered rest : List ℕ) (x : Amounts) (v w n : ℕ) → w ≡ v + 1 → v < n
    → rest ≡ columns x w (n - w) → numbered ≡ signed_decimal (x v) ++ rest → next ≡ 32 ∷ numbered
    → next ≡ columns x v (n - v)
unfolding columns
columns_before next numbered rest x v w n more here after number front =
    let left : n - v ≡ suc (n - w) = omega (arith, more, here) in
    front
    ∙ ap (λ (back : List ℕ). 32 ∷ back)
    (number ∙ ap (λ (back : List ℕ). signed_decimal (x v) ++ back) (after ∙ ap (λ (k : ℕ). columns x k (n - w)) more))
    ∙ ap (columns x v) (sym left)

pub columns_whole : (line : List ℕ) (x : Amounts) (start v long n : ℕ) → v ≡ 0 → length line ≡ long
    → drop start line ≡ columns x v (n - v) → take (long - start) (drop start line) ≡ columns x 0 n
columns_whole line x start v long n none is written =
    let all : n - v ≡ n = omega (arith, none) in
    ap (λ (k : ℕ). take (k - start) (drop start line)) (sym is) ∙ take_rest line start ∙ written
    ∙ ap (λ (k : ℕ). columns x k (n - v)) none ∙ ap (columns x 0) all

pub marks_more : (new old start : List ℕ) (n : ℕ) → old ≡ start ++ marks n → new ≡ old ++ codes " NA"
    → new ≡ start ++ marks (n + 1)
unfolding marks
marks_more new old start n before more =
    more
    ∙ ap (λ (l : List ℕ). l ++ codes " NA") before
    ∙ append_assoc start (marks n) (codes " NA")
    ∙ ap (λ (k : ℕ). start ++ marks k) (sym (add-one n))

pub columns_same : (x y : Amounts) (v n : ℕ) → ((u : ℕ) → u < v + n → x u ≡ y u) → columns x v n ≡ columns y v n
unfolding columns
columns_same x y v zero same = refl
columns_same x y v (suc n) same =
    ap (λ (z : ℤ). codes " " ++ signed_decimal z ++ columns x (v + 1) n) (same v (omega arith))
    ∙ ap (λ (rest : List ℕ). codes " " ++ signed_decimal (y v) ++ rest)
    (columns_same x y (v + 1) n (λ u below. same u (omega (arith, below))))
