-- Levels from a vertex q at which neighbours differ by at most one.
--   gradual-distance  once every vertex but q has a nearer neighbour, the levels are the distances
use Rattle.dg_reduce.proofs.Common.{◌≢◌, ℕ, ◌+◌, ◌<◌, ◌≤◌, arith, Multigraph, IsMultigraph, IsDistance, HasNearer, IsGradual, gradual-few}

pub gradual-distance : (g : Multigraph) (q : ℕ) (level : ℕ → ℕ) → IsMultigraph g → IsGradual g q level → q < g.size →
    ((v : ℕ) → v < g.size → v ≢ q → HasNearer g level v) → IsDistance g q level
gradual-distance g q level graph gradual start nearer = record {
  start = gradual.start;
  few = λ v vertex. gradual-few g q level v graph gradual start vertex;
  stepped = λ v vertex other.
      let (w, below, edge, less) = nearer v vertex other in
      let step : level v ≤ level w + 1 = gradual.close v w vertex below edge in
      (w, below, edge, omega arith);
  close = gradual.close;
}
