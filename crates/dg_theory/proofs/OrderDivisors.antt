-- The divisor of an order of the vertices.
--   first_in                 in a set with a vertex, some vertex has the least place
--   order_divisor-lost       the divisor of an order can't be won
use Rattle.dg_theory.proofs.Common.{if◌then◌else◌, ◌≡◌, ℕ, ◌<◌, ◌≤◌, Bool, true, false, arith, ap, ⊎_elim, ◌≤ℤ◌, ints, cases_Bool, ℤ, pos, neg_ℤ, ◌+ℤ◌, ◌-ℤ◌, Multigraph, Amounts, gain, IsWinnable, edges_out, earlier, order_divisor}
use Rattle.dg_theory.proofs.Largest.{largest}
use Rattle.dg_theory.proofs.Levels.{level, in_level, level_in, level_off}
use Rattle.dg_theory.proofs.Lending.{loses}
use Rattle.dg_theory.proofs.Winning.{script_of_win}
use Rattle.dg_theory.proofs.Unburnt.{out-le-out}

-- greatest at the earliest vertex of S, if u is in S
abbrev height : Bool → ℤ → ℤ → ℤ
height b at_u at_w = if b then neg_ℤ at_w else (neg_ℤ at_u -ℤ pos 1)

pub first_in : (n : ℕ) (S : ℕ → Bool) (place : Amounts) (u : ℕ) → u < n → S u ≡ true →
    (v : ℕ) × (v < n) × (S v ≡ true) × ((w : ℕ) → w < n → S w ≡ true → place v ≤ℤ place w)
first_in n S place u inside member =
    let f : ℕ → ℤ = λ w. height (S w) (place u) (place w) in
    let (v, below, top) = largest n f (omega arith) in
    let within : (w : ℕ) → S w ≡ true → f w ≡ neg_ℤ (place w) =
    λ w in_w. ap (λ (b : Bool). height b (place u) (place w)) in_w in
    ⊎_elim
    (λ (in_v : S v ≡ true).
    (v, below, in_v, λ w under in_w. omega (arith, ints, top w under, within w in_w, within v in_v)))
    (λ (off_v : S v ≡ false).
    let out : f v ≡ neg_ℤ (place u) -ℤ pos 1 = ap (λ (b : Bool). height b (place u) (place v)) off_v in
    absurd (omega (arith, ints, top u inside, within u member, out)))
    (cases_Bool (S v))

pub order_divisor-lost : (g : Multigraph) (place : Amounts) → 0 < g.size → ¬ IsWinnable g (order_divisor g place)
order_divisor-lost g place some win =
    let (s, effective) = script_of_win g (order_divisor g place) win in
    let (u, inside, top) = largest g.size s some in
    let S : ℕ → Bool = level s (s u) in
    let (v, below, in_v, first) = first_in g.size S place u inside (in_level s (s u) u (omega (arith, ints))) in
    let high : s u ≤ℤ s v = level_in s (s u) v in_v in
    let lost : (gain g s v +ℤ pos (edges_out g S v)) ≤ℤ pos 0 = loses g S s v
    (λ w under. omega (arith, ints, top w under))
    (λ w under outside. omega (arith, ints, level_off s (s u) w outside)) in
    let few : earlier g place v ≤ edges_out g S v =
    out-le-out g S (level place (place v)) v (λ w under in_w. in_level place (place v) w (first w under in_w)) in
    omega (arith, ints, effective v below)
