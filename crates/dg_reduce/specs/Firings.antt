-- How often a set of vertices can fire at once.
--   IsMaxFirings g q D S m    == m is at least 1; after m firings of S nobody off q is in debt, and
--                                after one more some vertex of S is
--   IsNextFiring g q D S m    == S has a member and fires freely, and m, which is within 2^120, is
--                                how often it can fire at once
--   largest                   == the largest number of 128 bits
--   LacksForFirings g D S v m == v is in S and has no dollars for m firings of S
--   SendsNothing g S v        == v sends no dollar out of S
--   LastsForFirings g D S v m == v has dollars for m firings of S, and lacks some for one more; if it
--                                sends nothing, m may be the largest number
use Rattle.std.specs.Prelude.{◌≡◌, ℕ, ◌^◌, ◌<◌, ◌≤◌, Bool, true, ℤ, pos, ◌+ℤ◌, ◌*ℤ◌, ◌≤ℤ◌, ◌<ℤ◌, ◌⊎◌}
use Rattle.std.specs.Int.RustNames.{unsigned_abs}
use Rattle.dg_theory.specs.Burning.{IsLegalSetFiring}
use Rattle.dg_theory.specs.Firing.{Amounts, fired, indicator, multiple, IsEffectiveOff}
use Rattle.dg_theory.specs.Multigraph.{Multigraph}
use Rattle.dg_theory.specs.Reduced.{edges_out}

pub record IsMaxFirings (g : Multigraph) (q : ℕ) (D : Amounts) (S : ℕ → Bool) (m : ℤ) : Type 0 where
  pub some : pos 1 ≤ℤ m
  pub no_debt : IsEffectiveOff g q (fired g D (multiple m (indicator S)))
  pub last : (v : ℕ) × (v < g.size) × (S v ≡ true) ×
      (fired g D (multiple (m +ℤ pos 1) (indicator S)) v <ℤ pos 0)

pub record IsNextFiring (g : Multigraph) (q : ℕ) (D : Amounts) (S : ℕ → Bool) (m : ℤ) : Type 0 where
  pub free : IsLegalSetFiring g q D S
  pub member : (v : ℕ) × (S v ≡ true)
  pub most : IsMaxFirings g q D S m
  pub few : unsigned_abs m ≤ 2 ^ 120

abbrev pub largest : ℤ
largest = pos 170141183460469231731687303715884105727

abbrev pub LacksForFirings : Multigraph → Amounts → (ℕ → Bool) → ℕ → ℤ → Type 0
LacksForFirings g D S v m = (S v ≡ true) × (D v <ℤ (pos (edges_out g S v) *ℤ m))

abbrev pub SendsNothing : Multigraph → (ℕ → Bool) → ℕ → Type 0
SendsNothing g S v = S v ≡ true → edges_out g S v ≡ 0

pub record LastsForFirings (g : Multigraph) (D : Amounts) (S : ℕ → Bool) (v : ℕ) (m : ℤ) : Type 0 where
  pub some : pos 1 ≤ℤ m
  pub few : m ≤ℤ largest
  pub enough : S v ≡ true → (pos (edges_out g S v) *ℤ m) ≤ℤ D v
  pub last : LacksForFirings g D S v (m +ℤ pos 1) ⊎ ((m ≡ largest) × SendsNothing g S v)
