-- Trials as divisors.
--   amounts_of_trial E    == the amounts of the trial E
--   HoldsTrial n E d      == the divisor d holds the amounts of the trial E for n vertices
--   IsTrialNumber n k i d == d holds a trial of degree k, and just i trials come before it
use Rattle.std.specs.Prelude.{◌≡◌, ℕ, ◌<◌, pos, List, slice_index}
use Rattle.dg_chips.specs.Vector.{Vector, at}
use Rattle.dg_theory.specs.Firing.{Amounts}
use Rattle.dg_rank.specs.Trials.{IsTrial, IsTrialBefore, AreTrialsCounted}

abbrev pub amounts_of_trial : List ℕ → Amounts
amounts_of_trial E v = pos (slice_index E v)

pub record HoldsTrial (n : ℕ) (E : List ℕ) (d : Vector) : Type 0 where
  pub size : d.size ≡ n
  pub amounts : (v : ℕ) → v < n → at d v ≡ amounts_of_trial E v

pub record IsTrialNumber (n k i : ℕ) (d : Vector) : Type 0 where
  pub amounts : List ℕ
  pub trial : IsTrial n k amounts
  pub held : HoldsTrial n amounts d
  pub before : AreTrialsCounted n k (λ E. IsTrialBefore E amounts) i
