-- Sums and differences of scripts, and what they lead to.
--   held_difference   a machine's difference of two entries of drifts is their difference
--   scripts_differ    two entries of scripts differ by no more than a drift may hold
--   same_answer       a test of one fact is a test of another that is true exactly where it is
use Rattle.dg_chips.proofs.Common.{◌≡◌, ◌≤◌, Bool, true, false, MatchBool, arith, w64, unsigned_abs, ints, ℤ, ◌-ℤ◌, to_z, of_z, within_abs, abs_within}

pub held_difference : (a b : ℤ) → unsigned_abs a ≤ 100000000000000 → unsigned_abs b ≤ 100000000000000 →
    to_z w64 (of_z w64 (to_z w64 (of_z w64 a) -ℤ to_z w64 (of_z w64 b))) ≡ a -ℤ b
held_difference a b first second =
    let (low, high) = within_abs a 100000000000000 first in
    let (low', high') = within_abs b 100000000000000 second in
    omega (arith, ints)

pub scripts_differ : (a b : ℤ) → unsigned_abs a ≤ 1000000000 → unsigned_abs b ≤ 1000000000 →
    unsigned_abs (a -ℤ b) ≤ 100000000000000
scripts_differ a b first second =
    let (low, high) = within_abs a 1000000000 first in
    let (low', high') = within_abs b 1000000000 second in
    abs_within (a -ℤ b) 100000000000000 (omega (arith, ints)) (omega (arith, ints))

pub same_answer : (b : Bool) (P Q : Type 0) → (P → Q) → (Q → P) → MatchBool b P (¬ P) → MatchBool b Q (¬ Q)
same_answer true P Q there back holds = there holds
same_answer false P Q there back never = λ q. never (back q)
