-- What burning leaves, with what it gains as it fires.
--   IsUnburntRest g q D x   == the set of the rest x has a member and fires freely, and x has what each
--                              vertex gains as it fires once
--   IsFloorOff q f          == f is 0 at each vertex but q
--   StaysAboveFloor n f D x == each of n vertices has at least its number in f after such a fire
use Rattle.std.specs.Prelude.{◌≡◌, ◌≢◌, ℕ, ◌<◌, ◌≤◌, true, List, ℤ, pos, ◌+ℤ◌, ◌≤ℤ◌}
use Rattle.std.specs.Int.RustNames.{unsigned_abs}
use Rattle.std.specs.List.{slice_index_or}
use Rattle.dg_graph.specs.Sets.{in_set}
use Rattle.dg_graph.specs.declared.graph.TheConstants.{MAX_VERTICES}
use Rattle.dg_reduce.specs.declared.effective_divisor.UnburntSet.{UnburntSet}
use Rattle.dg_theory.specs.Burning.{IsLegalSetFiring}
use Rattle.dg_theory.specs.Firing.{Amounts, gain, indicator}
use Rattle.dg_theory.specs.Multigraph.{Multigraph}

pub record IsUnburntRest (g : Multigraph) (q : ℕ) (D : Amounts) (x : UnburntSet) : Type 0 where
  pub free : IsLegalSetFiring g q D (in_set x.set)
  pub member : (v : ℕ) × (in_set x.set v ≡ true)
  pub gains : (v : ℕ) → v < MAX_VERTICES → slice_index_or x.gains v (pos 0) ≡ gain g (indicator (in_set x.set)) v
  pub small : (v : ℕ) → unsigned_abs (slice_index_or x.gains v (pos 0)) ≤ 63

abbrev pub IsFloorOff : ℕ → List ℤ → Type 0
IsFloorOff q f = (v : ℕ) → v ≢ q → slice_index_or f v (pos 0) ≡ pos 0

abbrev pub StaysAboveFloor : ℕ → List ℤ → Amounts → UnburntSet → Type 0
StaysAboveFloor n f D x = (v : ℕ) → v < n → slice_index_or f v (pos 0) ≤ℤ (D v +ℤ slice_index_or x.gains v (pos 0))
