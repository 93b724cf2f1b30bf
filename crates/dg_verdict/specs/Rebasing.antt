-- Verdicts that are carried along a drift, which is what some moves together lend.
--   IsRebasable q x m == the verdict x is right for some divisor of a graph and vertex q, and
--                        firing that divisor by the drift m leaves all amounts within the limit of
--                        a divisor
use Rattle.std.specs.Prelude.{◌≡◌, ℕ, ◌<◌}
use Rattle.dg_chips.specs.Vector.{Vector, at, IsInRange}
use Rattle.dg_graph.specs.Graph.{IsGraph}
use Rattle.dg_theory.specs.Firing.{Amounts, fired}
use Rattle.dg_theory.specs.Multigraph.{Multigraph}
use Rattle.dg_verdict.specs.declared.verdict.Verdict.{Verdict}
use Rattle.dg_verdict.specs.Right.{IsRightVerdict}

pub record IsRebasable (q : ℕ) (x : Verdict) (m : Vector) : Type 0 where
  pub graph : Multigraph
  pub start : Amounts
  pub is_graph : IsGraph graph
  pub vertex : q < graph.size
  pub right : IsRightVerdict graph q start x
  pub size : m.size ≡ graph.size
  pub in_range : IsInRange graph.size (fired graph start (at m))
