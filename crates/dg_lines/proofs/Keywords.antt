-- Command words, and the words that follow them.
--   bytes_tell              what the test of two texts tells
--   wanted_of               the table has beside each command word the kinds of the words after it
--   empty_word              words of which one is empty are not so many words
--   some_words              behind a space there are words
--   none_there, word_more, word_less   no words, one more and one less
--   well_formed, ill_formed whether just the words follow that are wanted
use Rattle.dg_lines.proofs.Common.{◌≡◌, ◌≢◌, ℕ, ◌+◌, ◌==◌, ◌⊎◌, inl, inr, Bool, true, false, List, [], ◌∷◌, length, Option, Some, refl, ap, sym, ◌∙◌, arith, Bor, bytes_eq, IsSome, is_some, option_map, option_copied, nat_tests, All-nil, All-cons, All-head, All-tail, bytes_eq-Decides, words_after, Keyword, Lend, WordKind, wanted_kinds, wanted_words, IsWellFormed, spelling, keyword_kinds, AreWords}
use Rattle.dg_lines.specs.Cuts.{before, after}
use Rattle.dg_lines.specs.Commands.{kinds_beside}
use Rattle.dg_lines.proofs.Cutting.{pieces_cut}

pub bytes_tell : (x y : List ℕ) → ((bytes_eq x y ≡ true) × (x ≡ y)) ⊎ ((bytes_eq x y ≡ false) × (x ≢ y))
bytes_tell x y = go (bytes_eq x y) refl
  where
    go : (t : Bool) → bytes_eq x y ≡ t → ((t ≡ true) × (x ≡ y)) ⊎ ((t ≡ false) × (x ≢ y))
    go true e = inl (refl, (bytes_eq-Decides x y).0 e)
    go false e = inr (refl, λ same. let no : true ≡ false = sym ((bytes_eq-Decides x y).1 same) ∙ e in cc)

pub wanted_of : (k : Keyword) → wanted_kinds (spelling k) ≡ Some (keyword_kinds k)
unfolding kinds_beside
wanted_of Lend = refl
wanted_of k = refl

-- ---- so many words
pub empty_word : (n : ℕ) (word : List ℕ) (rest : List (List ℕ)) → true ≡ (length word == 0)
    → AreWords n (word ∷ rest) → ⊥
empty_word n [] rest e known = All-head (λ w. w ≢ []) [] rest known.filled refl
empty_word n (x ∷ xs) rest e known = grind (arith, nat_tests)

pub word_more : (n : ℕ) (word : List ℕ) (rest : List (List ℕ)) → false ≡ (length word == 0) → AreWords n rest
    → AreWords (n + 1) (word ∷ rest)
word_more n [] rest e known = absurd (grind (arith, nat_tests))
word_more n (x ∷ xs) rest e known =
    record { count = omega (arith, known.count); filled = All-cons (λ w. w ≢ []) (x ∷ xs) rest (λ no. cc) known.filled }

pub some_words : (o : Option (Bor (List ℕ))) (text : Bor (List ℕ)) → o ≡ Some text
    → length (words_after (option_copied o)) ≡ 0 → ⊥
some_words o text e none =
    let more : length (words_after (option_copied o)) ≡ length (before 32 text.now ∷ words_after (after 32 text.now)) =
    ap (λ (p : Option (Bor (List ℕ))). length (words_after (option_copied p))) e ∙ ap length (pieces_cut 32 text.now) in
    omega arith

pub word_less : (n : ℕ) (word : List ℕ) (rest : List (List ℕ)) → AreWords (n + 1) (word ∷ rest) → AreWords n rest
word_less n word rest known =
    record { count = omega (arith, known.count); filled = All-tail (λ w. w ≢ []) word rest known.filled }

pub none_there : AreWords 0 []
none_there = record { count = refl; filled = All-nil (λ w. w ≢ []) }

-- ---- the words that are wanted
module _ (keyword : List ℕ) (keyword_kinds : List WordKind) (rest : List (List ℕ)) (wants : wanted_kinds keyword ≡ Some
    keyword_kinds) where
  counted : wanted_words keyword ≡ Some (length keyword_kinds)
  counted = ap (option_map length) wants

  pub well_formed : AreWords (length keyword_kinds) rest → IsWellFormed keyword rest
  well_formed known = record { wanted = counted ∙ ap Some (sym known.count); filled = known.filled }

  pub ill_formed : (AreWords (length keyword_kinds) rest → ⊥)
      → IsSome (wanted_kinds keyword) × (IsWellFormed keyword rest → ⊥)
  ill_formed never = (
    ap is_some wants,
    λ formed.
        let same : Some (length keyword_kinds) ≡ Some (length rest) = sym counted ∙ formed.wanted in
        let count : length rest ≡ length keyword_kinds = cc in
        never (record { count = count; filled = formed.filled }),
  )
