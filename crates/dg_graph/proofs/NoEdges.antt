-- The table of no edges.
--   entry-none    each of its cells is 0
use Rattle.dg_graph.proofs.Common.{◌≡◌, ℕ, zero, suc, get_or, replicate, refl}
use Rattle.dg_theory.specs.Multigraph.{entry}

zero_in : (k v : ℕ) → get_or {A = ℕ} (replicate k 0) v 0 ≡ 0
zero_in zero v = refl
zero_in (suc k) zero = refl
zero_in (suc k) (suc v) = zero_in k v

pub entry-none : (rows columns u v : ℕ) → entry (replicate rows (replicate columns 0)) u v ≡ 0
unfolding entry
entry-none zero columns u v = refl
entry-none (suc rows) columns zero v = zero_in columns v
entry-none (suc rows) columns (suc u) v = entry-none rows columns u v
