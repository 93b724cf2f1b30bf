-- Distances from a vertex q.
--   not_q            a vertex of a level above 0 is not q
--   level_positive   every vertex but q has a level above 0
use Rattle.dg_theory.proofs.Common.{◌≡◌, ◌≢◌, ℕ, ◌<◌, arith, ap, Multigraph, IsDistance}

pub not_q : (g : Multigraph) (q : ℕ) (level : ℕ → ℕ) (v : ℕ) → IsDistance g q level → 0 < level v → v ≢ q
not_q g q level v distance far same =
    let at : level v ≡ level q = ap level same in let nearest : level q ≡ 0 = distance.start in absurd (omega arith)

pub level_positive : (g : Multigraph) (q : ℕ) (level : ℕ → ℕ) (v : ℕ) → IsDistance g q level → v < g.size → v ≢ q →
    0 < level v
level_positive g q level v distance inside other =
    let (u, below, edge, step) = distance.stepped v inside other in omega arith
