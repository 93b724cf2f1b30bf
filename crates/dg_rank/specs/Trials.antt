-- Trials: the effective divisors of a degree, as lists of amounts in vertex order, and how many
-- there are.
--   IsTrial n k E                == n amounts, none a debt, that add up to k
--   IsTrialBefore E F            == E holds less than F at the first place at which they differ
--   IsTrialNumbering n k P c nth == the trials with the property P are nth 0, nth 1, .. up to nth (c - 1), in
--                                   their order, each once
--   AreTrialsCounted n k P c     == there are c trials with the property P
--   AnyTrial E                   == the property that every trial has
use Rattle.std.specs.Prelude.{◌≡◌, ℕ, ◌<◌, ⊤, List, length, slice_index}
use Rattle.std.specs.List.{sum}

pub record IsTrial (n k : ℕ) (E : List ℕ) : Type 0 where
  pub places : length E ≡ n
  pub amount : sum E ≡ k

pub record IsTrialBefore (E F : List ℕ) : Type 0 where
  pub place : ℕ
  pub same : (u : ℕ) → u < place → slice_index E u ≡ slice_index F u
  pub smaller : slice_index E place < slice_index F place

pub record IsTrialNumbering (n k : ℕ) (P : List ℕ → Type 0) (c : ℕ) (nth : ℕ → List ℕ) : Type 0 where
  pub each : (i : ℕ) → i < c → IsTrial n k (nth i) × P (nth i)
  pub all : (E : List ℕ) → IsTrial n k E → P E → (i : ℕ) × (i < c) × (nth i ≡ E)
  pub ascending : (i j : ℕ) → i < j → j < c → IsTrialBefore (nth i) (nth j)

abbrev pub AreTrialsCounted : ℕ → ℕ → (List ℕ → Type 0) → ℕ → Type 0
AreTrialsCounted n k P c = (nth : ℕ → List ℕ) × IsTrialNumbering n k P c nth

abbrev pub AnyTrial : List ℕ → Type 0
AnyTrial E = ⊤
