-- The first place of a byte among the first bytes.
--   prefix-taken   where a test ends among the first bytes, it ends there among all
--   some-place     where a bit is set, the test holds before the end
--   place-found    what a search of them all finds
--   place-first    so the lowest bit of the places among the first 32 is the first place
use Rattle.dg_lines.proofs.Common.{◌≡◌, ℕ, zero, suc, ◌+◌, ◌*◌, ◌<◌, ◌≤◌, ◌==◌, cond, not, Bool, true, false, List, [], ◌∷◌, Some, None, Option, get_or, nat_lt, length, take, map, refl, sym, ap, ◌∙◌, arith, length-take-le, position, prefix_len, lt-ltb, nat_tests, false_from_ne_true, trailing_mask_l, mask_l, count_trailing_zeros}
use Rattle.memchr.specs.Find.{IsFirstByte, is_byte}

prefix-taken : (q : ℕ → Bool) (n : ℕ) (xs : List ℕ) → n ≤ length xs → prefix_len q (take n xs) < n →
    prefix_len q xs ≡ prefix_len q (take n xs)
prefix-taken q zero xs long less = absurd (omega arith)
prefix-taken q (suc n) [] long less = absurd (omega arith)
prefix-taken q (suc n) (x ∷ xs) long less =
    let P : Bool → Type 0 = λ t. cond t (1 + prefix_len q (take n xs)) 0 < suc n →
    cond t (1 + prefix_len q xs) 0 ≡ cond t (1 + prefix_len q (take n xs)) 0 in
    (elim (q x) as P [
      | true ↦ λ h. ap (λ k. 1 + k) (prefix-taken q n xs (omega arith) (omega arith))
      | false ↦ λ h. refl
    ]) less

some-place : (p : ℕ → Bool) (xs : List ℕ) → 0 < mask_l (map p xs) → prefix_len (λ x. not (p x)) xs < length xs
some-place p [] some = absurd (omega arith)
some-place p (x ∷ xs) some =
    let P : Bool → Type 0 = λ t. 0 < cond t 1 0 + 2 * mask_l (map p xs) →
    cond (not t) (1 + prefix_len (λ x. not (p x)) xs) 0 < suc (length xs) in
    (elim (p x) as P [
      | true ↦ λ h. omega arith
      | false ↦ λ h. let more : prefix_len (λ x. not (p x)) xs < length xs = some-place p xs (omega arith) in omega arith
    ]) some

pub place-first : (at place marks : ℕ) (xs : List ℕ) → 32 ≤ length xs →
    marks ≡ mask_l (map (λ x. x == at) (take 32 xs)) → 0 < marks → place ≡ count_trailing_zeros 64 marks →
    Some place ≡ position (λ x. x == at) xs
place-first at place marks xs long is some lowest =
    let size : length (take 32 xs) ≡ 32 = length-take-le 32 xs long in
    let few : prefix_len (λ x. not (x == at)) (take 32 xs) < length (take 32 xs) =
    some-place (λ x. x == at) (take 32 xs) (omega arith) in
    let ends : count_trailing_zeros 64 (mask_l (map (λ x. x == at) (take 32 xs)))
    ≡ prefix_len (λ x. not (x == at)) (take 32 xs) =
    trailing_mask_l (λ x. x == at) 64 (take 32 xs) (omega arith) (omega arith) in
    let here : place ≡ prefix_len (λ x. not (x == at)) (take 32 xs) =
    lowest ∙ ap (count_trailing_zeros 64) is ∙ ends in
    let whole : prefix_len (λ x. not (x == at)) xs ≡ place =
    prefix-taken (λ x. not (x == at)) 32 xs long (omega arith) ∙ sym here in
    rw (whole, lt-ltb place (length xs) (omega arith)) refl

prefix-at : (q : ℕ → Bool) (xs : List ℕ) (k : ℕ) → k < length xs → ((i : ℕ) → i < k → q (get_or xs i 0) ≡ true) →
    q (get_or xs k 0) ≡ false → prefix_len q xs ≡ k
prefix-at q [] k less pass stop = absurd (omega arith)
prefix-at q (x ∷ xs) zero less pass stop = rw stop refl
prefix-at q (x ∷ xs) (suc k) less pass stop =
    rw (pass 0 (omega arith))
    (omega (arith, prefix-at q xs k (omega arith) (λ i before. pass (suc i) (omega arith)) stop))

prefix-all : (q : ℕ → Bool) (xs : List ℕ) → ((i : ℕ) → i < length xs → q (get_or xs i 0) ≡ true) →
    prefix_len q xs ≡ length xs
prefix-all q [] pass = refl
prefix-all q (x ∷ xs) pass =
    rw (pass 0 (omega arith)) (omega (arith, prefix-all q xs (λ i inside. pass (suc i) (omega arith))))

pub place-found : (at : ℕ) (xs : List ℕ) (place : Option ℕ) → IsFirstByte (is_byte at) xs place →
    place ≡ position (λ x. x == at) xs
place-found at xs None none =
    let all : prefix_len (λ x. not (x == at)) xs ≡ length xs =
    prefix-all (λ x. not (x == at)) xs (λ i inside. ap not (false_from_ne_true _ (none i (omega arith) inside))) in
    let past : nat_lt (length xs) (length xs) ≡ false = grind (arith, nat_tests) in
    rw (all, past) refl
place-found at xs (Some k) found =
    let here : prefix_len (λ x. not (x == at)) xs ≡ k =
    prefix-at (λ x. not (x == at)) xs k found.0.high
    (λ i before. ap not (false_from_ne_true _ (found.0.before i (omega arith) before))) (ap not found.1) in
    rw (here, lt-ltb k (length xs) found.0.high) refl
