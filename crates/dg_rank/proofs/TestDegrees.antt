-- The degrees of a test and of the residual's, which are small, so that none is cut off.
--   dual_degree  the degree of the dual's test, which passes where that of degree k does
--   lesser_few   of a test that is at most half the degree and of its dual's, the lower degree is small
use Rattle.dg_rank.proofs.Common.{◌≡◌, ℕ, ◌+◌, ◌<◌, ◌≤◌, arith, w64, to_z, of_z, ◌≤ℤ◌, ◌<ℤ◌, unsigned_abs, ints, ℤ, pos, ◌-ℤ◌, natural}
use Rattle.std.proofs.Math.IntN.{◌+ℤ◌}

pub dual_degree : (total genus apart whole : ℤ) (k : ℕ) → apart ≡ (total +ℤ pos 1) -ℤ genus →
    unsigned_abs apart ≤ 17000000 →
    genus ≤ℤ pos 489 → pos 0 ≤ℤ (genus +ℤ pos 16) → k ≤ unsigned_abs total + 1 → total <ℤ (genus +ℤ pos k) →
    whole ≡ pos k →
    (n : ℕ) × (to_z w64 (of_z w64 (to_z w64 (of_z w64 whole) -ℤ to_z w64 (of_z w64 apart))) ≡ pos n) ×
    (n < 4294967296) × (pos k -ℤ pos n ≡ (total +ℤ pos 1) -ℤ genus)
dual_degree total genus apart whole k is small most least few poor same =
    let low : pos 0 ≤ℤ (pos k -ℤ apart) = omega (arith, ints) in
    let high : (pos k -ℤ apart) ≤ℤ pos 35000000 = omega (arith, ints) in
    let (n, other) = natural (pos k -ℤ apart) low in
    let kept : to_z w64 (of_z w64 apart) ≡ apart = omega (arith, ints) in
    let kept_whole : to_z w64 (of_z w64 whole) ≡ pos k = omega (arith, ints) in
    (n, rw (kept, kept_whole) (omega (arith, ints)), omega (arith, ints), omega (arith, ints))

pub lesser_few : (total genus : ℤ) (k l : ℕ) → genus ≤ℤ pos 489 → (pos k +ℤ pos k) ≤ℤ total →
    pos k -ℤ pos l ≡ (total +ℤ pos 1) -ℤ genus → (k ≤ l → k ≤ 1000) × (l < k → l ≤ 1000)
lesser_few total genus k l most half apart =
    (λ less. omega (arith, ints, most, half, apart, less), λ less. omega (arith, ints, most, half, apart, less))
