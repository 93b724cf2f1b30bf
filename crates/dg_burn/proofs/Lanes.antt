-- Vectors of sixteen bytes, which a proof sees as lists of their lanes.
--   lane-few        a lane is at most 255
--   lane_lack       a lane of what is lacking to 127: the greater of it and 127, less it
--   marks           the bits of the lanes that are above 127, as a mask of sixteen
--   marks-few       there are sixteen of them
--   marked          a vertex is in the set that they stand for where its lane is above 127
use Rattle.dg_burn.proofs.Common.{◌≡◌, ℕ, ◌+◌, ◌-◌, ◌%◌, ◌^◌, ◌<◌, ◌≤◌, Bool, true, false, cond, ltb, List, map, length, get_or, replicate, arith, refl, sym, ap, ◌∙◌, ⊎_elim, Fits, w8, nat_eq, slice_index, nat_lt, bit_at, cases_lt, lt-ltb, le-ltb, get_or_past, length-map, Each1-get_or, tops_compared, length-zip2, length-sel_l, get_or-zip2, get_or-sel_l, get_or-replicate, mask_l-lt, mask_l-mod, bit_mask_l, Each1, zip2, sel_l, mask_l, top, in_set}

pub lane-few : (xs : List ℕ) (v : ℕ) → v < length xs → Each1 (Fits w8) xs → slice_index xs v ≤ 255
lane-few xs v few fits =
    let fit : Fits w8 (slice_index xs v) = Each1-get_or (Fits w8) xs v 0 few fits in
    omega (arith, fit.fits)

abbrev compared : ℕ → ℕ → ℕ
compared a b = cond (ltb a b) (2 ^ 8 - 1) 0

abbrev pub more : List ℕ → List ℕ
more xs = sel_l (map (top 7) (zip2 compared xs (replicate 16 127))) (replicate 16 127) xs

lane_more : (xs : List ℕ) (v : ℕ) → length xs ≡ 16 → v < 16 →
    slice_index (more xs) v ≡ cond (ltb (slice_index xs v) 127) 127 (slice_index xs v)
lane_more xs v long few =
    ap (λ ms. slice_index (sel_l ms (replicate 16 127) xs) v) (tops_compared w8 ltb xs (replicate 16 127))
    ∙ get_or-sel_l (zip2 ltb xs (replicate 16 127)) (replicate 16 127) xs v 0
    (omega (arith, length-zip2 ltb xs (replicate 16 127) long)) few (omega arith)
    ∙ ap (λ b. cond b (slice_index (replicate 16 127) v) (slice_index xs v))
    (get_or-zip2 ltb xs (replicate 16 127) v 0 0 false (omega arith) few)
    ∙ ap (λ n. cond (ltb (slice_index xs v) n) n (slice_index xs v)) (get_or-replicate 16 v 127 0 few)

length-more : (xs : List ℕ) → length xs ≡ 16 → length (more xs) ≡ 16
length-more xs long =
    let marks : length (map (top 7) (zip2 compared xs (replicate 16 127))) ≡ 16 =
    length-map (zip2 compared xs (replicate 16 127)) (top 7)
    ∙ length-zip2 compared xs (replicate 16 127) long ∙ long in
    length-sel_l (map (top 7) (zip2 compared xs (replicate 16 127))) (replicate 16 127) xs marks (marks ∙ sym long)
    ∙ marks

pub lane_lack : (xs : List ℕ) (v : ℕ) → length xs ≡ 16 → v < 16 → slice_index xs v ≤ 255 →
    slice_index (zip2 (λ a b. (a + (256 - b)) % 256) (more xs) xs) v ≡ 127 - slice_index xs v
lane_lack xs v long few small =
    let lane : slice_index (zip2 (λ a b. (a + (256 - b)) % 256) (more xs) xs) v
    ≡ (slice_index (more xs) v + (256 - slice_index xs v)) % 256 =
    get_or-zip2 (λ a b. (a + (256 - b)) % 256) (more xs) xs v 0 0 0 (omega (arith, length-more xs long))
    (omega arith) in
    ⊎_elim
    (λ (below : slice_index xs v < 127).
    let is : slice_index (more xs) v ≡ 127 =
    lane_more xs v long few ∙ ap (λ b. cond b 127 (slice_index xs v)) (lt-ltb _ _ below) in
    omega arith)
    (λ (above : 127 ≤ slice_index xs v).
    let is : slice_index (more xs) v ≡ slice_index xs v =
    lane_more xs v long few ∙ ap (λ b. cond b 127 (slice_index xs v)) (le-ltb _ _ above) in
    omega arith)
    (cases_lt (slice_index xs v) 127)

abbrev pub marks : List ℕ → ℕ
marks xs = mask_l (map (top 7) (zip2 compared (replicate 16 127) xs)) % 2 ^ 64

marks_are : (xs : List ℕ) → length xs ≡ 16 → marks xs ≡ mask_l (zip2 ltb (replicate 16 127) xs)
marks_are xs long =
    let lanes = length-zip2 ltb (replicate 16 127) xs (sym long) in
    ap (λ ms. mask_l ms % 2 ^ 64) (tops_compared w8 ltb (replicate 16 127) xs)
    ∙ mask_l-mod (zip2 ltb (replicate 16 127) xs) 64 (omega arith)

pub marks-few : (xs : List ℕ) → length xs ≡ 16 → marks xs < 2 ^ 16
marks-few xs long =
    let lanes : length (zip2 ltb (replicate 16 127) xs) ≡ 16 = length-zip2 ltb (replicate 16 127) xs (sym long) in
    let few : mask_l (zip2 ltb (replicate 16 127) xs) < 2 ^ 16 =
    rw lanes at (mask_l-lt (zip2 ltb (replicate 16 127) xs)) in
    omega (arith, marks_are xs long)

one_bit : (b : Bool) → nat_eq (cond b 1 0) 1 ≡ b
one_bit true = refl
one_bit false = refl

pub marked : (xs : List ℕ) (v : ℕ) → length xs ≡ 16 → in_set (marks xs) v ≡ nat_lt 127 (slice_index xs v)
unfolding in_set
marked xs v long =
    let lanes : length (zip2 ltb (replicate 16 127) xs) ≡ 16 = length-zip2 ltb (replicate 16 127) xs (sym long) in
    ap (λ m. nat_eq (bit_at m v) 1) (marks_are xs long)
    ∙ ap (λ b. nat_eq b 1) (bit_mask_l (zip2 ltb (replicate 16 127) xs) v)
    ∙ one_bit (get_or (zip2 ltb (replicate 16 127) xs) v false)
    ∙ ⊎_elim
    (λ (below : v < 16).
    get_or-zip2 ltb (replicate 16 127) xs v 0 0 false below (omega arith)
    ∙ ap (λ n. ltb n (slice_index xs v)) (get_or-replicate 16 v 127 0 below))
    (λ (past : 16 ≤ v).
    let none : slice_index xs v ≡ 0 = get_or_past xs v 0 (omega arith) in
    get_or_past (zip2 ltb (replicate 16 127) xs) v false (omega arith) ∙ sym (ap (λ n. ltb 127 n) none))
    (cases_lt v 16)
