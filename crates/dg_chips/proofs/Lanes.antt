-- Vectors of sixteen bytes, which a proof sees as lists of their lanes.
--   lane_sum   a lane of a sum that does not wrap
use Rattle.dg_chips.proofs.Common.{◌≡◌, ℕ, ◌+◌, ◌%◌, ◌<◌, ◌≤◌, List, length, arith, slice_index, get_or-zip2, zip2}

pub lane_sum : (xs ys : List ℕ) (v : ℕ) → v < length xs → v < length ys →
    slice_index xs v + slice_index ys v ≤ 255 →
    slice_index (zip2 (λ a b. (a + b) % 256) xs ys) v ≡ slice_index xs v + slice_index ys v
lane_sum xs ys v left right room =
    let lane : slice_index (zip2 (λ a b. (a + b) % 256) xs ys) v ≡ (slice_index xs v + slice_index ys v) % 256 =
    get_or-zip2 (λ a b. (a + b) % 256) xs ys v 0 0 0 left right in
    omega arith
