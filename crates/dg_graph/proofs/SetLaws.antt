-- Sets of vertices as numbers of sixteen bits.
--   in_set_below      a member of such a set is below sixteen
--   in_set-none       no vertex is in the set 0
--   no_set            a number that stands for a set without members is 0
--   with_bit          to set a bit adds its place to the set
--   both_bits         the bits that are set in two numbers
--   without_bit       a number without one bit that is set, which is turned
--   least_bit         the lowest bit of a number that is not 0
--   complement_bits   the bits below n that are not set, as a mask of n ones picks them
use Rattle.dg_graph.proofs.Common.{◌≡◌, ◌≢◌, ℕ, zero, suc, ◌+◌, ◌-◌, ◌*◌, ◌/◌, ◌%◌, ◌^◌, ◌<◌, ◌≤◌, true, false, not, ◌&&◌, nat_eq, min, arith, refl, ap, ap₂, sym, ◌∙◌, inl, inr, bit_and, bit_or, w16, nat_lt, bit_at, bit_not, bit_xor, trailing_zeros, cases_lt, lt-ltb, le-ltb, eqb-false, eqb-true, one_shl, bit_at_xor, bit_at-pow_same, bit_at-pow_other, bit_at-trailing_zeros, bit_at-zero, bit_at-lt, same_from_bits, bit_at_set_same, bit_at_set_other, bit_at_and, bit_at_not, bit_at_above, bit_at_ones, bit_at_ones_above, ones_shr, IsSetWith, IsSetWithout, IsLeastIn}
use Rattle.dg_graph.specs.Sets.{in_set}

pub in_set_below : (set v : ℕ) → set < 2 ^ 16 → in_set set v ≡ true → v < 16
unfolding in_set
in_set_below set v few member = elim (cases_lt v 16) [
  | inl below ↦ below
  | inr above ↦
      let none : false ≡ true = sym (ap (λ bit. nat_eq bit 1) (bit_at_above set 16 v few above)) ∙ member in absurd (cc)
]

pub in_set-none : (v : ℕ) → in_set 0 v ≡ false
unfolding in_set
in_set-none v = rw (bit_at-zero v) refl

pub no_set : (m : ℕ) → ((v : ℕ) → in_set m v ≡ false) → m ≡ 0
unfolding in_set
no_set m none = same_from_bits m 0 (λ v.
    let other : bit_at m v ≢ 1 = eqb-false (bit_at m v) 1 (none v) in
    omega (arith, bit_at-lt m v, bit_at-zero v))

pub with_bit : (set v : ℕ) → v < 16 → IsSetWith (in_set set) v (in_set (bit_or set (1 * 2 ^ v % 2 ^ 16)))
unfolding in_set
with_bit set v few = record {
  here = ap (λ bit. nat_eq bit 1) (bit_at_set_same w16 set v few);
  others = λ w other. ap (λ bit. nat_eq bit 1) (bit_at_set_other w16 set v few w other);
}

-- the test of a bit that is the opposite of another
opposite : (b c : ℕ) → b < 2 → c ≡ 1 - b → nat_eq c 1 ≡ not (nat_eq b 1)
opposite zero c few is = rw is refl
opposite (suc zero) c few is = rw is refl
opposite (suc (suc b)) c few is = absurd (omega arith)

pub complement_bits : (n set v : ℕ) → n ≤ 16 → set < 2 ^ 16 →
    in_set (bit_and (bit_not w16 set) ((2 ^ 16 - 1) / 2 ^ (16 - n))) v ≡ (nat_lt v n && not (in_set set v))
unfolding in_set
complement_bits n set v few small =
    let mask : (2 ^ 16 - 1) / 2 ^ (16 - n) ≡ 2 ^ n - 1 =
    ones_shr 16 (16 - n) (omega arith) ∙ ap (λ k. 2 ^ k - 1) (let back : 16 - (16 - n) ≡ n = omega arith in back) in
    let both : bit_at (bit_and (bit_not w16 set) (2 ^ n - 1)) v
    ≡ min (bit_at (bit_not w16 set) v) (bit_at (2 ^ n - 1) v) =
    bit_at_and (bit_not w16 set) (2 ^ n - 1) v in
    rw mask (elim (cases_lt v n) [
      | inl below ↦
          let one : bit_at (2 ^ n - 1) v ≡ 1 = bit_at_ones n v below in
          let turned : bit_at (bit_not w16 set) v ≡ 1 - bit_at set v = bit_at_not w16 set v small (omega arith) in
          rw (lt-ltb v n below) (opposite (bit_at set v) _ (bit_at-lt set v) (omega arith))
      | inr above ↦
          let none : bit_at (2 ^ n - 1) v ≡ 0 = bit_at_ones_above n v above in
          let out : bit_at (bit_and (bit_not w16 set) (2 ^ n - 1)) v ≡ 0 = omega arith in
          rw (le-ltb v n above, out) refl
    ])

both_ones : (a b : ℕ) → a < 2 → b < 2 → nat_eq (min a b) 1 ≡ (nat_eq a 1 && nat_eq b 1)
both_ones zero b few_a few_b = let none : min 0 b ≡ 0 = omega arith in rw none refl
both_ones (suc zero) zero few_a few_b = refl
both_ones (suc zero) (suc zero) few_a few_b = refl
both_ones (suc zero) (suc (suc b)) few_a few_b = absurd (omega arith)
both_ones (suc (suc a)) b few_a few_b = absurd (omega arith)

pub both_bits : (set other v : ℕ) → in_set (bit_and set other) v ≡ (in_set set v && in_set other v)
unfolding in_set
both_bits set other v =
    ap (λ b. nat_eq b 1) (bit_at_and set other v)
    ∙ both_ones (bit_at set v) (bit_at other v) (bit_at-lt set v) (bit_at-lt other v)

-- the test of a bit that is turned, or not, by one more bit
turned : (a b : ℕ) → a < 2 → b ≡ 0 → nat_eq a 1 ≡ nat_eq ((a + b) % 2) 1
turned zero b few is = rw is refl
turned (suc zero) b few is = rw is refl
turned (suc (suc a)) b few is = absurd (omega arith)

pub without_bit : (set v : ℕ) → v < 16 → in_set set v ≡ true →
    IsSetWithout (in_set set) v (in_set (bit_xor set (1 * 2 ^ v % 2 ^ 16)))
unfolding in_set
without_bit set v few member = record {
  here =
      let one : bit_at set v ≡ 1 = eqb-true (bit_at set v) 1 member in
      ap (λ m. nat_eq (bit_at (bit_xor set m) v) 1) (one_shl v 16 few)
      ∙ ap (λ b. nat_eq b 1) (bit_at_xor set (2 ^ v) v)
      ∙ ap₂ (λ a b. nat_eq ((a + b) % 2) 1) one (bit_at-pow_same v);
  others = λ w other.
      turned (bit_at set w) (bit_at (2 ^ v) w) (bit_at-lt set w) (bit_at-pow_other v w other)
      ∙ sym (ap (λ b. nat_eq b 1) (bit_at_xor set (2 ^ v) w))
      ∙ sym (ap (λ m. nat_eq (bit_at (bit_xor set m) w) 1) (one_shl v 16 few));
}

pub least_bit : (set : ℕ) → 0 < set → set < 2 ^ 16 → IsLeastIn (in_set set) (trailing_zeros w16 set)
unfolding in_set
least_bit set some few =
    let least = bit_at-trailing_zeros w16 set some few in
    record {
      few = least.0;
      here = ap (λ b. nat_eq b 1) least.1;
      least = λ u below. ap (λ b. nat_eq b 1) (least.2 u below);
    }
