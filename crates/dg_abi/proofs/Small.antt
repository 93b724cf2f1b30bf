-- A script within its limit changes no amount by more than some 10^12 dollars.
--   sum_small     a sum of at most 16 small numbers is small
--   gain_small    what a vertex gets by a script
--   reduced_small so what a script leads to is small, if it was
use Rattle.dg_chips.proofs.Common.{ℕ, zero, suc, ◌*◌, ◌<◌, ◌≤◌, arith, ints, ℤ, pos, ◌-ℤ◌, ◌*ℤ◌, unsigned_abs, sum_below, nat_sum_below-term, Multigraph, edges_between, Amounts, gain, IsGraph, abs-add, abs_within, within_abs, valence-few}
use Rattle.dg_chips.proofs.FlowLaws.{product_limit}
use Rattle.dg_theory.specs.Firing.{FiresTo}

pub sum_small : (n : ℕ) (f : ℕ → ℤ) → ((w : ℕ) → w < n → unsigned_abs (f w) ≤ 126000000000) →
    unsigned_abs (sum_below n f) ≤ 126000000000 * n
sum_small zero f small = omega arith
sum_small (suc n) f small =
    omega (
      arith,
      abs-add (sum_below n f) (f n) (126000000000 * n) 126000000000
          (sum_small n f (λ w below. small w (omega arith))) (small n (omega arith)),
    )

pub gain_small : (g : Multigraph) (s : Amounts) (v : ℕ) → IsGraph g →
    ((w : ℕ) → w < g.size → unsigned_abs (s w) ≤ 1000000000) → v < g.size → unsigned_abs (gain g s v) ≤ 2016000000000
gain_small g s v graph small inside =
    let (low, high) = within_abs (s v) 1000000000 (small v inside) in
    let all : unsigned_abs (gain g s v) ≤ 126000000000 * g.size =
    sum_small g.size (λ w. pos (edges_between g v w) *ℤ (s w -ℤ s v)) (λ w below.
    let (low', high') = within_abs (s w) 1000000000 (small w below) in
    let apart : unsigned_abs (s w -ℤ s v) ≤ 2000000000 =
    abs_within (s w -ℤ s v) 2000000000 (omega (arith, ints)) (omega (arith, ints)) in
    let few : edges_between g v w ≤ 63 =
    omega (arith, nat_sum_below-term g.size (edges_between g v) w below, valence-few g v graph) in
    omega (arith, product_limit (edges_between g v w) 63 (s w -ℤ s v) 2000000000 few apart)) in
    omega (arith, graph.few)

pub reduced_small : (g : Multigraph) (s D E : Amounts) (v : ℕ) → IsGraph g →
    ((w : ℕ) → w < g.size → unsigned_abs (s w) ≤ 1000000000) → FiresTo g s D E → v < g.size →
    unsigned_abs (D v) ≤ 1000000 → unsigned_abs (E v) ≤ 1000000000000000
reduced_small g s D E v graph small led inside before =
    rw (led v inside)
    (omega (arith, abs-add (D v) (gain g s v) 1000000 2016000000000 before (gain_small g s v graph small inside)))
