-- Sets of vertices. A set is a test of a number.
--   IsVertexSet n S    == each member of the set S is below n
--   IsSetWith S v T    == T is the set S with v
--   IsSetWithout S v T == T is the set S without v
--   IsEmptySet S       == S has no vertex
use Rattle.std.specs.Prelude.{◌≡◌, ◌≢◌, ℕ, ◌<◌, Bool, true, false}

abbrev pub IsVertexSet : ℕ → (ℕ → Bool) → Type 0
IsVertexSet n S = (v : ℕ) → S v ≡ true → v < n

pub record IsSetWith (S : ℕ → Bool) (v : ℕ) (T : ℕ → Bool) : Type 0 where
  pub here : T v ≡ true
  pub others : (w : ℕ) → w ≢ v → T w ≡ S w

pub record IsSetWithout (S : ℕ → Bool) (v : ℕ) (T : ℕ → Bool) : Type 0 where
  pub here : T v ≡ false
  pub others : (w : ℕ) → w ≢ v → S w ≡ T w

abbrev pub IsEmptySet : (ℕ → Bool) → Type 0
IsEmptySet S = (v : ℕ) → S v ≡ false
