-- Cutting a list of bytes piece by piece, as the code does it.
--   lines_after rest == the lines of what follows a newline, and none where no newline follows
-- Proved: the pieces are what stands before the first byte that cuts, and then the pieces of what stands after it; so
-- are the lines of bytes that are not empty; and what `position` says of the two parts.
use Rattle.dg_lines.proofs.Common.{Bor, take, drop, length, nat_lt, suc, ◌≤◌, ◌∙◌, ◌<◌, sym, ◌≡◌, ℕ, ◌+◌, ◌==◌, cond, true, false, List, [], ◌∷◌, Option, Some, None, refl, ap, arith, not, Bool, one-add, cond_some, take_all, nat_tests, option_copied, unwrap_or, position_or_len, cons_to_first, pieces_after, words, words_after}
use Rattle.std.specs.List.{position}
use Rattle.dg_lines.specs.Cuts.{before, after, pieces, lines}

abbrev pub lines_after : Option (List ℕ) → List (List ℕ)
lines_after None = []
lines_after (Some rest) = lines rest

pub pieces_cut : (b : ℕ) (xs : List ℕ) → pieces b xs ≡ before b xs ∷ pieces_after b (after b xs)
unfolding pieces before after
pieces_cut b [] = refl
pieces_cut b (x ∷ xs) =
    elim (x == b) as (λ t. cond t ([] ∷ pieces b xs) (cons_to_first x (pieces b xs))
    ≡ cond t [] (x ∷ before b xs) ∷ pieces_after b (cond t (Some xs) (after b xs)))
    [ true ↦ refl | false ↦ ap (cons_to_first x) (pieces_cut b xs) ]

pub lines_cut : (x : ℕ) (xs : List ℕ) → lines (x ∷ xs) ≡ before 10 (x ∷ xs) ∷ lines_after (after 10 (x ∷ xs))
unfolding lines before after
lines_cut x [] =
    elim (x == 10) as (λ t. cond t ([] ∷ lines []) (cons_to_first x (lines []))
    ≡ cond t [] (x ∷ []) ∷ lines_after (cond t (Some []) None))
    [ true ↦ refl | false ↦ refl ]
lines_cut x (y ∷ ys) =
    elim (x == 10) as (λ t. cond t ([] ∷ lines (y ∷ ys)) (cons_to_first x (lines (y ∷ ys)))
    ≡ cond t [] (x ∷ before 10 (y ∷ ys)) ∷ lines_after (cond t (Some (y ∷ ys)) (after 10 (y ∷ ys))))
    [ true ↦ refl | false ↦ ap (cons_to_first x) (lines_cut y ys) ]

before_take : (b : ℕ) (xs : List ℕ) → before b xs ≡ take (position_or_len (λ x. x == b) xs) xs
unfolding before
before_take b [] = refl
before_take b (x ∷ xs) =
    elim (x == b) as (λ t. cond t [] (x ∷ before b xs)
    ≡ take (cond (not t) (1 + position_or_len (λ x. x == b) xs) 0) (x ∷ xs))
    [ true ↦ refl | false ↦ rw one-add (ap (λ front. x ∷ front) (before_take b xs)) ]

after_there : (b : ℕ) (xs : List ℕ) → position_or_len (λ x. x == b) xs < length xs
    → after b xs ≡ Some (drop (position_or_len (λ x. x == b) xs + 1) xs)
unfolding after
after_there b [] less = absurd (omega arith)
after_there b (x ∷ xs) less =
    let p : ℕ = position_or_len (λ x. x == b) xs in
    let P : Bool → Type 0 = λ t. cond (not t) (1 + p) 0 < length (x ∷ xs)
    → cond t (Some xs) (after b xs) ≡ Some (drop (cond (not t) (1 + p) 0 + 1) (x ∷ xs)) in
    (elim (x == b) as P [
      | true ↦ λ _. refl
      | false ↦ λ h. let e : 1 + p + 1 ≡ suc (p + 1) = omega arith in rw e (after_there b xs (omega arith))
    ]) less

after_none : (b : ℕ) (xs : List ℕ) → length xs ≤ position_or_len (λ x. x == b) xs → after b xs ≡ None
unfolding after
after_none b [] more = refl
after_none b (x ∷ xs) more =
    let p : ℕ = position_or_len (λ x. x == b) xs in
    let P : Bool → Type 0 = λ t. length (x ∷ xs) ≤ cond (not t) (1 + p) 0 → cond t (Some xs) (after b xs) ≡ None in
    (elim (x == b) as P [ true ↦ λ h. absurd (omega arith) | false ↦ λ h. after_none b xs (omega arith) ]) more

lt_of_test : (m n : ℕ) → nat_lt m n ≡ true → m < n
lt_of_test m n e = grind (arith, nat_tests)

le_of_test : (m n : ℕ) → (nat_lt m n ≡ true → ⊥) → n ≤ m
le_of_test m n never = grind (arith, nat_tests)

none_of : (t : Bool) (n : ℕ) → cond t (Some n) None ≡ None → t ≡ true → ⊥
none_of true n e h = cc
none_of false n e h = cc

pub cut_at : (b : ℕ) (xs : List ℕ) (i : ℕ) → position (λ x. x == b) xs ≡ Some i
    → (before b xs ≡ take i xs) × (after b xs ≡ Some (drop (i + 1) xs))
cut_at b xs i e =
    let n : ℕ = position_or_len (λ x. x == b) xs in
    let found = cond_some (nat_lt n (length xs)) n i e in (
      before_take b xs ∙ ap (λ k. take k xs) found.1,
      after_there b xs (lt_of_test n (length xs) found.0) ∙ ap (λ k. Some (drop (k + 1) xs)) found.1,
    )

pub cut_nowhere : (b : ℕ) (xs : List ℕ) → position (λ x. x == b) xs ≡ None → (before b xs ≡ xs) × (after b xs ≡ None)
cut_nowhere b xs e =
    let n : ℕ = position_or_len (λ x. x == b) xs in
    let past : length xs ≤ n = le_of_test n (length xs) (none_of (nat_lt n (length xs)) n e) in
    (before_take b xs ∙ take_all n xs past, after_none b xs past)

-- the lines of bytes that are not empty, as a test says
lines_after-rest : (o : Option (Bor (List ℕ))) (other : Bor (List ℕ)) → other.now ≡ []
    → lines_after (option_copied o) ≡ lines (unwrap_or o other).now
unfolding lines
lines_after-rest None other e = sym (ap lines e)
lines_after-rest (Some rest) other e = refl

pub lines_none : (xs : List ℕ) → (length xs == 0) ≡ true → lines xs ≡ []
unfolding lines
lines_none [] e = refl
lines_none (x ∷ xs) e = absurd (grind (arith, nat_tests))

lines_next : (xs : List ℕ) → (length xs == 0) ≡ false → lines xs ≡ before 10 xs ∷ lines_after (after 10 xs)
lines_next [] e = absurd (grind (arith, nat_tests))
lines_next (x ∷ xs) e = lines_cut x xs

pub lines_step : (xs line : List ℕ) (o : Option (Bor (List ℕ))) (other rest : Bor (List ℕ)) → (length xs == 0) ≡ false
    → line ≡ before 10 xs → option_copied o ≡ after 10 xs → other.now ≡ [] → rest ≡ unwrap_or o other
    → lines xs ≡ line ∷ lines rest.now
lines_step xs line o other rest some first follows none is =
    lines_next xs some ∙ ap (λ front. front ∷ lines_after (after 10 xs)) (sym first)
    ∙ ap (λ back. line ∷ lines_after back) (sym follows)
    ∙ ap (λ back. line ∷ back) (lines_after-rest o other none ∙ ap (λ back. lines back.now) (sym is))

-- the pieces that are left begin with the next one
pub pieces_next : (b : ℕ) (rest : Option (Bor (List ℕ))) (text : Bor (List ℕ)) → rest ≡ Some text
    → pieces_after b (option_copied rest) ≡ before b text.now ∷ pieces_after b (after b text.now)
pieces_next b rest text e = ap (λ (o : Option (Bor (List ℕ))). pieces_after b (option_copied o)) e ∙ pieces_cut b text.now

-- the pieces that are left begin with the one that is cut off next
pub pieces_left : (b : ℕ) (rest : Option (Bor (List ℕ))) (text : Bor (List ℕ)) (first : List ℕ)
    (more : Option (Bor (List ℕ)))
    → rest ≡ Some text → first ≡ before b text.now → option_copied more ≡ after b text.now
    → pieces_after b (option_copied rest) ≡ first ∷ pieces_after b (option_copied more)
pieces_left b rest text first more e front back =
    pieces_next b rest text e
    ∙ ap (λ front_is. front_is ∷ pieces_after b (after b text.now)) (sym front)
    ∙ ap (λ back_is. first ∷ pieces_after b back_is) (sym back)

pub none_left : (b : ℕ) (rest : Option (Bor (List ℕ))) → rest ≡ None → pieces_after b (option_copied rest) ≡ []
none_left b rest e = ap (λ (o : Option (Bor (List ℕ))). pieces_after b (option_copied o)) e

-- a line is its first word, which is a keyword, and the words after it
pub line_words : (line word keyword : List ℕ) (rest : Option (List ℕ)) (others : List (List ℕ))
    → word ≡ before 32 line → rest ≡ after 32 line
    → word ≡ keyword → words_after rest ≡ others → words line ≡ keyword ∷ others
line_words line word keyword rest others front back spelled follow =
    pieces_cut 32 line ∙ ap (λ first. first ∷ words_after (after 32 line)) (sym front ∙ spelled)
    ∙ ap (λ more. keyword ∷ words_after more) (sym back) ∙ ap (λ more. keyword ∷ more) follow
