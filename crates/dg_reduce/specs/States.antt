-- The states of a reduction.
--   IsFiringTrace g x           == the script of the walk x leads from its amounts at the start to those now
--   IsTraceAfter g S k x y      == the walk y is x after k lendings of each vertex of the set S
--   level_limit_at j            == 2000000 * 64 ^ (15 - j), which bounds all amounts before the debts of
--                                  level j are cleared
--   IsCleared g level j x       == in the walk x nobody of level j or farther is in debt, and its amounts
--                                  and script are within the limit of level j - 1, which is the next to be
--                                  cleared
--   IsLargestDebt n level j D m == m is the largest debt of the vertices of level j, of n vertices; 0 if
--                                  none owes
--   IsClearedOff g q x          == in the walk x nobody off q is in debt, and its amounts and script are
--                                  within the limit of level 0
use Rattle.std.specs.Prelude.{◌≡◌, ℕ, ◌-◌, ◌*◌, ◌^◌, ◌<◌, ◌≤◌, Bool, ℤ, pos, ◌+ℤ◌, ◌≤ℤ◌, ◌⊎◌}
use Rattle.std.specs.Int.RustNames.{unsigned_abs}
use Rattle.dg_chips.specs.Vector.{at}
use Rattle.dg_theory.specs.Firing.{Amounts, fired, indicator, multiple, IsEffectiveOff, FiresTo}
use Rattle.dg_theory.specs.Multigraph.{Multigraph}
use Rattle.dg_reduce.specs.declared.walk.FiringTrace.{FiringTrace}

pub record IsFiringTrace (g : Multigraph) (x : FiringTrace) : Type 0 where
  pub start_size : x.start.size ≡ g.size
  pub chips_size : x.chips.size ≡ g.size
  pub script_size : x.script.size ≡ g.size
  pub led : FiresTo g (at x.script) (at x.start) (at x.chips)

pub record IsTraceAfter (g : Multigraph) (S : ℕ → Bool) (k : ℤ) (x y : FiringTrace) : Type 0 where
  pub tied : IsFiringTrace g y
  pub begun : y.start ≡ x.start
  pub chips : (v : ℕ) → v < g.size →
      at y.chips v ≡ fired g (at x.chips) (multiple k (indicator S)) v
  pub script : (v : ℕ) → v < g.size → at y.script v ≡ at x.script v +ℤ multiple k (indicator S) v

unfoldable pub level_limit_at : ℕ → ℕ
level_limit_at j = 2000000 * 64 ^ (15 - j)

pub record IsCleared (g : Multigraph) (level : ℕ → ℕ) (j : ℕ) (x : FiringTrace) : Type 0 where
  pub tied : IsFiringTrace g x
  pub clear : (v : ℕ) → v < g.size → j ≤ level v → pos 0 ≤ℤ at x.chips v
  pub chips : (v : ℕ) → v < g.size → unsigned_abs (at x.chips v) ≤ level_limit_at (j - 1)
  pub script : (v : ℕ) → v < g.size → unsigned_abs (at x.script v) ≤ level_limit_at (j - 1)

pub record IsLargestDebt (n : ℕ) (level : ℕ → ℕ) (j : ℕ) (D : Amounts) (m : ℤ) : Type 0 where
  pub some : pos 0 ≤ℤ m
  pub enough : (v : ℕ) → v < n → level v ≡ j → pos 0 ≤ℤ (D v +ℤ m)
  pub owed : (m ≡ pos 0) ⊎ ((v : ℕ) × (v < n) × (level v ≡ j) × (D v +ℤ m ≡ pos 0))

pub record IsClearedOff (g : Multigraph) (q : ℕ) (x : FiringTrace) : Type 0 where
  pub tied : IsFiringTrace g x
  pub no_debt : IsEffectiveOff g q (at x.chips)
  pub chips : (v : ℕ) → v < g.size → unsigned_abs (at x.chips v) ≤ level_limit_at 0
  pub script : (v : ℕ) → v < g.size → unsigned_abs (at x.script v) ≤ level_limit_at 0
