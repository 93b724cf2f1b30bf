-- That nobody off q is in debt any more, by the levels and without them.
--   levels_cleared   once level 1 and those farther are cleared, nobody off q is in debt
--   cleared_levels   and then they are cleared, for the distances from q
use Rattle.dg_reduce.proofs.Common.{ℕ, ◌<◌, Multigraph, IsDistance, not_q, clear_all, distance_from, distance_from-is, IsGraph, at, FiringTrace, IsCleared, IsClearedOff}

pub levels_cleared : (g : Multigraph) (q : ℕ) (level : ℕ → ℕ) (x : FiringTrace) → IsDistance g q level →
    IsCleared g level 1 x →
    IsClearedOff g q x
levels_cleared g q level x distance cleared = record {
  tied = cleared.tied;
  no_debt = clear_all g q level (at x.chips) distance cleared.clear;
  chips = cleared.chips;
  script = cleared.script;
}

pub cleared_levels : (g : Multigraph) (q : ℕ) (x : FiringTrace) → IsGraph g → q < g.size → IsClearedOff g q x →
    IsCleared g (distance_from g q) 1 x
cleared_levels g q x graph vertex cleared = record {
  tied = cleared.tied;
  clear = λ v inside far.
      cleared.no_debt v inside
      (not_q g q (distance_from g q) v (distance_from-is g q graph.multigraph vertex) far);
  chips = cleared.chips;
  script = cleared.script;
}
