-- Losses: trials whose loss a divisor D can't bear.
--   AreSmallAmounts n D       == each of n amounts is within 1,999,000
--   HasSmallDegree n D        == n amounts add up to at most 32,000,000
--   WinsWithout g D E         == D less the trial E is winnable
--   AllTrialsWin g D k i j    == D less each trial from number i up to, but not including, number j is
--                                winnable
--   IsFirstLossIn g D k i j E == E is the first trial of the piece from i up to j whose loss leaves D
--                                unwinnable
--   IsFewDivisor g D x        == x is effective, adds up to few, and D can be fired to it
use Rattle.std.specs.Prelude.{◌≡◌, ℕ, ◌<◌, ◌≤◌, pos, ◌≤ℤ◌, List}
use Rattle.std.specs.Int.RustNames.{unsigned_abs}
use Rattle.dg_chips.specs.Vector.{Vector, at}
use Rattle.dg_reduce.specs.Effective.{IsInLinearSystem}
use Rattle.dg_theory.specs.Firing.{Amounts, degree}
use Rattle.dg_theory.specs.Multigraph.{Multigraph}
use Rattle.dg_theory.specs.Play.{IsWinnable}
use Rattle.dg_theory.specs.Rank.{minus}
use Rattle.dg_rank.specs.Divisors.{amounts_of_trial}
use Rattle.dg_rank.specs.Numbering.{nth_trial}

abbrev pub AreSmallAmounts : ℕ → Amounts → Type 0
AreSmallAmounts n D = (v : ℕ) → v < n → unsigned_abs (D v) ≤ 1999000

abbrev pub HasSmallDegree : ℕ → Amounts → Type 0
HasSmallDegree n D = degree n D ≤ℤ pos 32000000

abbrev pub WinsWithout : Multigraph → Amounts → List ℕ → Type 0
WinsWithout g D E = IsWinnable g (minus D (amounts_of_trial E))

abbrev pub AllTrialsWin : Multigraph → Amounts → ℕ → ℕ → ℕ → Type 0
AllTrialsWin g D k i j = (m : ℕ) → i ≤ m → m < j → WinsWithout g D (nth_trial g.size k m)

pub record IsFirstLossIn (g : Multigraph) (D : Amounts) (k i j : ℕ) (E : List ℕ) : Type 0 where
  pub number : ℕ
  pub from : i ≤ number
  pub to : number < j
  pub trial : E ≡ nth_trial g.size k number
  pub loses : ¬ WinsWithout g D E
  pub first : AllTrialsWin g D k i number

pub record IsFewDivisor (g : Multigraph) (D : Amounts) (x : Vector) : Type 0 where
  pub form : IsInLinearSystem g D x
  pub few : HasSmallDegree g.size (at x)
