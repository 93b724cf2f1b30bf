-- A set of sixteen vertices as two bytes.
--   half_bit     a bit of a byte is tested by its place
--   lane_bit     so is a bit of the set, in the byte that holds it
--   lane_other   what is left of a lane where the bit of its vertex is not set
use Rattle.dg_reduce.proofs.Common.{if◌then◌else◌, ◌≡◌, ℕ, zero, suc, ◌+◌, ◌-◌, ◌*◌, ◌/◌, ◌%◌, ◌^◌, ◌<◌, ◌≤◌, Bool, true, false, not, cond, eqb, nat_eq, List, [], ◌∷◌, ◌++◌, map, length, replicate, min, arith, refl, sym, ap, ap₂, ◌∙◌, ⊎_elim, bit_and, w8, slice_index, bit_at, cases_lt, agree_below_at, eqb-true, ne_eqb, get_or_append_left, get_or-append_right, pow_pos, and_pow, bit_at-lt, bit_at_and, bit_at_ones, bit_at_cat_high, tops_compared, get_or-zip2, get_or-sel_l, length-replicate, get_or-replicate, zip2, sel_l, top}
use Rattle.dg_graph.specs.Sets.{in_set}

abbrev pub places : List ℕ
places = 1 ∷ 2 ∷ 4 ∷ 8 ∷ 16 ∷ 32 ∷ 64 ∷ 128 ∷ 1 ∷ 2 ∷ 4 ∷ 8 ∷ 16 ∷ 32 ∷ 64 ∷ 128 ∷ []

abbrev pub halves : ℕ → ℕ → List ℕ
halves low high = replicate 8 low ++ replicate 8 high

place : (v : ℕ) → v < 16 → slice_index places v ≡ 2 ^ (v % 8)
place v below = eqb-true _ _
    (agree_below_at (λ u. eqb (slice_index places u) (2 ^ (u % 8))) (λ _. true) 16 v refl below)

tested : (b p : ℕ) → b < 2 → 0 < p → eqb (b * p) 0 ≡ not (nat_eq b 1)
tested zero p few some = let none : 0 * p ≡ 0 = omega arith in rw none refl
tested (suc zero) p few some = ne_eqb (1 * p) 0 (λ none. omega arith)
tested (suc (suc b)) p few some = absurd (omega arith)

half_bit : (n k : ℕ) → eqb (bit_and n (2 ^ k)) 0 ≡ not (nat_eq (bit_at n k) 1)
half_bit n k = ap (λ m. eqb m 0) (and_pow n k) ∙ tested (bit_at n k) (2 ^ k) (bit_at-lt n k) (pow_pos k)

low_bit : (set k : ℕ) → k < 8 → bit_at (bit_and set 255) k ≡ bit_at set k
low_bit set k below =
    let one : bit_at 255 k ≡ 1 = bit_at_ones 8 k below in
    let both : bit_at (bit_and set 255) k ≡ min (bit_at set k) (bit_at 255 k) = bit_at_and set 255 k in
    omega (arith, bit_at-lt set k)

high_bit : (set v : ℕ) → 8 ≤ v → bit_at (set / 2 ^ 8) (v - 8) ≡ bit_at set v
high_bit set v above =
    let whole : (set / 2 ^ 8) * 2 ^ 8 + set % 2 ^ 8 ≡ set = omega arith in
    sym (bit_at_cat_high (set / 2 ^ 8) 8 (set % 2 ^ 8) v (omega arith) above) ∙ ap (λ n. bit_at n v) whole

pub lane_bit : (set v : ℕ) → v < 16 →
    eqb (bit_and (slice_index (halves (bit_and set 255) (set / 2 ^ 8)) v) (slice_index places v)) 0
    ≡ not (in_set set v)
unfolding in_set
lane_bit set v below =
    let low = bit_and set 255 in
    let high = set / 2 ^ 8 in
    ap (λ p. eqb (bit_and (slice_index (halves low high) v) p) 0) (place v below)
    ∙ ⊎_elim
    (λ (first : v < 8).
    let rest : v % 8 ≡ v = omega arith in
    ap₂ (λ n k. eqb (bit_and n (2 ^ k)) 0)
    (get_or_append_left (replicate 8 low) (replicate 8 high) 0 v (omega arith) ∙ get_or-replicate 8 v low 0 first) rest
    ∙ half_bit low v
    ∙ ap (λ b. not (nat_eq b 1)) (low_bit set v first))
    (λ (last : 8 ≤ v).
    let rest : v % 8 ≡ v - 8 = omega arith in
    ap₂ (λ n k. eqb (bit_and n (2 ^ k)) 0)
    (get_or-append_right (replicate 8 low) (replicate 8 high) 8 v 0 (length-replicate 8 low) last
    ∙ get_or-replicate 8 (v - 8) high 0 (omega arith)) rest
    ∙ half_bit high (v - 8)
    ∙ ap (λ b. not (nat_eq b 1)) (high_bit set v last))
    (cases_lt v 8)

abbrev zero_lane : ℕ → ℕ → ℕ
zero_lane a b = cond (eqb a b) (2 ^ 8 - 1) 0

abbrev bits_of : ℕ → ℕ → List ℕ
bits_of low high = zip2 bit_and (halves low high) places

abbrev pub others : ℕ → ℕ → List ℕ → List ℕ
others low high numbers =
    sel_l (map (top 7) (zip2 zero_lane (bits_of low high) (replicate 16 0))) numbers (replicate 16 0)

kept : (b : Bool) (n : ℕ) → cond (not b) n 0 ≡ (if b then 0 else n)
kept true n = refl
kept false n = refl

pub lane_other : (set v : ℕ) (numbers : List ℕ) → v < 16 → length numbers ≡ 16 →
    slice_index (others (bit_and set 255) (set / 2 ^ 8) numbers) v ≡ (if in_set set v then 0 else slice_index numbers v)
lane_other set v numbers below long =
    let low = bit_and set 255 in
    let high = set / 2 ^ 8 in
    let bits = bits_of low high in
    let full : length (zip2 eqb bits (replicate 16 0)) ≡ 16 = refl in
    ap (λ ms. slice_index (sel_l ms numbers (replicate 16 0)) v) (tops_compared w8 eqb bits (replicate 16 0))
    ∙ get_or-sel_l (zip2 eqb bits (replicate 16 0)) numbers (replicate 16 0) v 0 below (omega arith) below
    ∙ ap₂ (λ b n. cond b (slice_index numbers v) n)
    (get_or-zip2 eqb bits (replicate 16 0) v 0 0 false below below
    ∙ ap₂ eqb (get_or-zip2 bit_and (halves low high) places v 0 0 0 below below) (get_or-replicate 16 v 0 0 below)
    ∙ lane_bit set v below)
    (get_or-replicate 16 v 0 0 below)
    ∙ kept (in_set set v) (slice_index numbers v)
