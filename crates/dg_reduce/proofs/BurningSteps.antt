-- How the vertices that burning leaves lend, until all burn.
--   IsBurningDown g q x y     such sets led from x to y: nobody off q is in debt, and q has not lent
--   burning_down-start        it holds at first
--   burning_down-more         it holds after one more such set
--   burning_down-falls        and the weight falls
--   burning_down-chips, burning_down-script   amounts and script are within the limits of a firing
use Rattle.dg_reduce.proofs.Common.{◌≡◌, ℕ, ◌+◌, ◌*◌, ◌^◌, ◌<◌, ◌≤◌, Bool, true, false, arith, sym, ◌∙◌, refl, ints, ℤ, pos, ◌+ℤ◌, ◌-ℤ◌, unsigned_abs, Multigraph, fired, indicator, multiple, IsDistance, within_abs, abs_within, multiple-off, weights, levels_are_potential, weight_of, weight_of-cong, weight_falls_by_firings, IsLed, clear_all, led_start, led_step, led-cong, led_limit, script_between, IsGraph, at, FiringTrace, IsFiringTrace, IsTraceAfter, IsCleared, IsMaxFirings}
use Rattle.dg_reduce.specs.States.{level_limit_at}
use Rattle.dg_reduce.proofs.LevelLimits.{level_limit_at-small}

pub record IsBurningDown (g : Multigraph) (q : ℕ) (x y : FiringTrace) : Type 0 where
  pub tied : IsFiringTrace g y
  pub begun : y.start ≡ x.start
  pub led : IsLed g q (at x.chips) (at y.chips)
  pub kept : at y.script q ≡ at x.script q

pub burning_down-start : (g : Multigraph) (q : ℕ) (level : ℕ → ℕ) (x : FiringTrace) → IsDistance g q level →
    IsCleared g level 1 x →
    IsBurningDown g q x x
burning_down-start g q level x distance cleared = record {
  tied = cleared.tied;
  begun = refl;
  led = led_start g q (at x.chips) (clear_all g q level (at x.chips) distance cleared.clear);
  kept = refl;
}

pub burning_down-more : (g : Multigraph) (q : ℕ) (S : ℕ → Bool) (m : ℤ) (x y z : FiringTrace) → IsGraph g → q < g.size →
    IsBurningDown g q x y → S q ≡ false → IsMaxFirings g q (at y.chips) S m → IsTraceAfter g S m y z
    → IsBurningDown g
    q x z
burning_down-more g q S m x y z graph vertex state without most fires = record {
  tied = fires.tied;
  begun = fires.begun ∙ state.begun;
  led = led-cong g q (at x.chips) (fired g (at y.chips) (multiple m (indicator S))) (at z.chips) vertex
      (λ v inside. sym (fires.chips v inside))
      (led_step g q (at x.chips) (at y.chips) S m graph.multigraph state.led without
      (omega (arith, ints, most.some)) most.no_debt);
  kept =
      let more : at z.script q ≡ at y.script q +ℤ multiple m (indicator S) q = fires.script q vertex in
      let none : multiple m (indicator S) q ≡ pos 0 = multiple-off m S q without in
      let before : at y.script q ≡ at x.script q = state.kept in
      omega (arith, ints);
}

pub burning_down-falls : (g : Multigraph) (q : ℕ) (level : ℕ → ℕ) (S : ℕ → Bool) (m : ℤ) (x y z : FiringTrace) (v : ℕ) →
    IsGraph g →
    IsDistance g q level → IsBurningDown g q x y → S q ≡ false → IsMaxFirings g q (at y.chips) S m → v < g.size → S v
    ≡ true →
    IsTraceAfter g S m y z → weight_of g (weights level) (at z.chips) < weight_of g (weights level) (at y.chips)
burning_down-falls g q level S m x y z v graph distance state without most inside member fires =
    let less : weight_of g (weights level) (fired g (at y.chips) (multiple m (indicator S)))
    < weight_of g (weights level) (at y.chips) =
    weight_falls_by_firings g q (weights level) (at y.chips) S m v graph.multigraph
    (levels_are_potential g q level graph.multigraph distance graph.few graph.valences) state.led.no_debt without
    most.some
    most.no_debt inside member in
    let now : weight_of g (weights level) (at z.chips)
    ≡ weight_of g (weights level) (fired g (at y.chips) (multiple m (indicator S))) =
    weight_of-cong g (weights level) (at z.chips) (fired g (at y.chips) (multiple m (indicator S))) fires.chips in
    omega arith

chips_limit : (g : Multigraph) (q : ℕ) (level : ℕ → ℕ) (x y : FiringTrace) → IsGraph g → q < g.size → IsCleared g level 1 x →
    IsBurningDown g q x y → (v : ℕ) → v < g.size → unsigned_abs (at y.chips v) ≤ 17 * level_limit_at 0
chips_limit g q level x y graph vertex cleared state v inside =
    led_limit g q (at x.chips) (at y.chips) (level_limit_at 0) v vertex graph.few cleared.chips state.led inside

pub burning_down-chips : (g : Multigraph) (q : ℕ) (level : ℕ → ℕ) (x y : FiringTrace) → IsGraph g → q < g.size →
    IsCleared g level 1 x →
    IsBurningDown g q x y → (v : ℕ) → v < g.size → unsigned_abs (at y.chips v) ≤ 2 ^ 120
burning_down-chips g q level x y graph vertex cleared state v inside =
    let most : unsigned_abs (at y.chips v) ≤ 17 * level_limit_at 0 =
    chips_limit g q level x y graph vertex cleared state v inside in
    let small : level_limit_at 0 < 2 ^ 111 = level_limit_at-small 0 in
    omega arith

near_both : (a b : ℤ) (m n : ℕ) → unsigned_abs (a -ℤ b) ≤ m → unsigned_abs b ≤ n → unsigned_abs a ≤ m + n
near_both a b m n apart near =
    let (low, high) = within_abs (a -ℤ b) m apart in
    let (low', high') = within_abs b n near in
    abs_within a (m + n) (omega (arith, ints)) (omega (arith, ints))

pub burning_down-script : (g : Multigraph) (q : ℕ) (level : ℕ → ℕ) (x y : FiringTrace) → IsGraph g → q < g.size →
    IsCleared g level 1 x →
    IsBurningDown g q x y → ((v : ℕ) → v < g.size → unsigned_abs (at x.start v) ≤ 2000000) →
    (v : ℕ) → v < g.size → unsigned_abs (at y.script v) ≤ 2 ^ 126
burning_down-script g q level x y graph vertex cleared state range v inside =
    let range' : (w : ℕ) → w < g.size → unsigned_abs (at y.start w) ≤ 2000000 =
    λ w below. rw (state.begun) (range w below) in
    let apart : unsigned_abs (at y.script v -ℤ at y.script q) ≤ 225 * (2000000 + 17 * level_limit_at 0) =
    script_between g q (at y.start) (at y.script) 2000000 (17 * level_limit_at 0) v graph.multigraph vertex graph.few
    (λ w below _. range' w below)
    (λ w below _. rw (← state.tied.led w below) (chips_limit g q level x y graph vertex cleared state w below)) inside
    in
    let at_q : unsigned_abs (at y.script q) ≤ level_limit_at 0 = rw (state.kept) (cleared.script q vertex) in
    let most : unsigned_abs (at y.script v) ≤ 225 * (2000000 + 17 * level_limit_at 0) + level_limit_at 0 =
    near_both (at y.script v) (at y.script q) (225 * (2000000 + 17 * level_limit_at 0)) (level_limit_at 0) apart at_q in
    let small : level_limit_at 0 < 2 ^ 111 = level_limit_at-small 0 in
    omega arith
