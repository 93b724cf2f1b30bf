-- The genus in 32 bits.
--   genus_fits    a few edges and vertices give the same number with and without rounding to 32 bits
use Rattle.dg_graph.proofs.Common.{◌≡◌, ℕ, ◌≤◌, arith, ints, pos, ◌+ℤ◌, ◌-ℤ◌, w32, to_z, of_z}

pub genus_fits : (edges size : ℕ) → edges ≤ 61200 → size ≤ 16 →
    to_z w32 (of_z w32 (to_z w32 (of_z w32 (to_z w32 edges -ℤ to_z w32 size)) +ℤ pos 1))
    ≡ (pos edges -ℤ pos size) +ℤ pos 1
genus_fits edges size few small = omega (arith, ints)
