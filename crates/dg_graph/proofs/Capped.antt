-- Numbers cut off at 255, and their sums. A sum of at most 63 tells that nothing was cut off.
--   capped-exact    then each number is the one before the cut
--   capped-low      then the sum before the cut is at most 63 too
--   capped-high     a sum past 63 was past 63 before the cut
--   capped-put      the edges of one item put into both cells of a symmetric table
use Rattle.dg_graph.proofs.Common.{◌≡◌, ◌≢◌, ℕ, ◌+◌, ◌<◌, ◌≤◌, min, arith, nat_tests, nat_sum_below, nat_sum_below-cong, nat_sum_below-le, nat_sum_below-term, EdgeItem, item_edges}

pub capped-exact : (n : ℕ) (f h : ℕ → ℕ) → ((w : ℕ) → f w ≡ min 255 (h w)) → nat_sum_below n f ≤ 63 →
    (w : ℕ) → w < n → f w ≡ h w
capped-exact n f h capped few w below = omega (arith, capped w, nat_sum_below-term n f w below)

pub capped-low : (n : ℕ) (f h : ℕ → ℕ) → ((w : ℕ) → f w ≡ min 255 (h w)) → nat_sum_below n f ≤ 63 → nat_sum_below n h ≤ 63
capped-low n f h capped few = omega (arith, nat_sum_below-cong n f h (capped-exact n f h capped few))

pub capped-high : (n : ℕ) (f h : ℕ → ℕ) → ((w : ℕ) → f w ≡ min 255 (h w)) → 63 < nat_sum_below n f → 63 < nat_sum_below n h
capped-high n f h capped many = omega (arith, nat_sum_below-le n f h (λ w below. omega (arith, capped w)))

pub capped-put : (before middle after : ℕ → ℕ → ℕ) (item : EdgeItem) (u v : ℕ) → u ≡ item.0 → v ≡ item.1 →
    item.0 ≢ item.1 → ((a b : ℕ) → before a b ≤ 255) →
    middle u v ≡ min 255 (before u v + item.2) →
    ((b : ℕ) → b ≢ v → middle u b ≡ before u b) → ((a b : ℕ) → a ≢ u → middle a b ≡ before a b) →
    after v u ≡ min 255 (middle v u + item.2) →
    ((b : ℕ) → b ≢ u → after v b ≡ middle v b) → ((a b : ℕ) → a ≢ v → after a b ≡ middle a b) →
    (a b : ℕ) → after a b ≡ min 255 (before a b + item_edges item a b)
capped-put before middle after item u v first second different capped at row others back column rest a b =
    grind (arith, nat_tests)
