-- How high the levels from a vertex q can be when neighbours differ by at most one.
--   IsGradual g q level   q is at level 0, and the levels of two neighbours differ by at most one
--   before_many   at least k vertices have a level below k, if some vertex has level k or more: an edge leaves the
--                 vertices below level k, and it leads to a vertex of level k
--   gradual-few   so every level is less than the number of vertices
use Rattle.dg_theory.proofs.Common.{◌≡◌, ℕ, zero, suc, ◌+◌, ◌<◌, ◌≤◌, arith, ltb, Bool, true, false, nat_tests, Multigraph, IsMultigraph, edges_between}
use Rattle.dg_theory.proofs.Climbs.{Leaves, IsConnectedTo-leaves}
use Rattle.dg_theory.proofs.Counting.{count_of, count_of-some, count_of-more, count_of-missing}

pub record IsGradual (g : Multigraph) (q : ℕ) (level : ℕ → ℕ) : Type 0 where
  pub start : level q ≡ 0
  pub close : (v w : ℕ) → v < g.size → w < g.size → 0 < edges_between g v w → level v ≤ level w + 1

abbrev before : (ℕ → ℕ) → ℕ → ℕ → Bool
before level k w = ltb (level w) k

before_in : (level : ℕ → ℕ) (k w : ℕ) → level w < k → before level k w ≡ true
before_in level k w less = grind (arith, nat_tests)

before_off : (level : ℕ → ℕ) (k w : ℕ) → k ≤ level w → before level k w ≡ false
before_off level k w more = grind (arith, nat_tests)

in_before : (level : ℕ → ℕ) (k w : ℕ) → before level k w ≡ true → level w < k
in_before level k w member = grind (arith, nat_tests)

before_many : (g : Multigraph) (q : ℕ) (level : ℕ → ℕ) (v : ℕ) → IsMultigraph g → IsGradual g q level → q < g.size →
    v < g.size → (k : ℕ) → k ≤ level v → k ≤ count_of g.size (before level k)
before_many g q level v graph gradual start vertex zero low = omega arith
before_many g q level v graph gradual start vertex (suc zero) low =
    let nearest : level q ≡ 0 = gradual.start in
    count_of-some g.size (before level 1) q start (before_in level 1 q (omega arith))
before_many g q level v graph gradual start vertex (suc (suc k)) low =
    let nearest : level q ≡ 0 = gradual.start in
    let out : Leaves g.size (edges_between g) (before level (suc k)) =
    IsConnectedTo-leaves (before level (suc k)) start (before_in level (suc k) q (omega arith))
    (graph.connected q v start vertex) (before_off level (suc k) v (omega arith)) in
    let near : level out.a < suc k = in_before level (suc k) out.a out.within in
    let step : level out.b ≤ level out.a + 1 =
    gradual.close out.b out.a out.to out.from
    (let back : 0 < edges_between g out.b out.a = omega (arith, graph.symmetric out.a out.b, out.edge) in back) in
    let more : count_of g.size (before level (suc k)) < count_of g.size (before level (suc (suc k))) =
    count_of-more g.size (before level (suc k)) (before level (suc (suc k)))
    (λ w member.
    let less : level w < suc k = in_before level (suc k) w member in before_in level (suc (suc k)) w (omega arith))
    out.b out.to out.outside (before_in level (suc (suc k)) out.b (omega arith)) in
    let many : suc k ≤ count_of g.size (before level (suc k)) =
    before_many g q level v graph gradual start vertex (suc k) (omega arith) in
    omega arith

pub gradual-few : (g : Multigraph) (q : ℕ) (level : ℕ → ℕ) (v : ℕ) → IsMultigraph g → IsGradual g q level → q < g.size →
    v < g.size → level v < g.size
gradual-few g q level v graph gradual start vertex =
    let many : level v ≤ count_of g.size (before level (level v)) =
    before_many g q level v graph gradual start vertex (level v) (omega arith) in
    let missing : count_of g.size (before level (level v)) < g.size =
    count_of-missing g.size (before level (level v)) v vertex (before_off level (level v) v (omega arith)) in
    omega arith
