-- What becomes of a row. An array has one for each divisor, with n places from place s on.
--   row_at xs s               == the numbers from place s on
--   Holds z n xs s f          == n places from s on hold f, of those that the array xs has
--   HoldsDivisor n xs s d     == the divisor d has just the n amounts from place s on
--   RefusesRow n xs s told    == an amount of the row is past the limit of a divisor; told is -1 less the first such vertex
--   Keeps z n xs ys s         == the n places from place s on hold in ys what they held in xs
--   KeepsElsewhere z n xs ys s   == all other places do; here and above z is what is read past the end of an array
--   told_of b                 == 1 for yes and 0 for no
--   IsJudged                  == the row is a divisor; told says whether that is winnable, by the verdict that `judge` gives; and
--                                what is there of the arrays for scripts, reduced divisors and orders holds those of the verdict
--   AnswersJudge              == so it is, or the row is refused, and keeps what it had
--   IsRanked                  == the row is a divisor; told is 0, place r of ranks holds its rank, and that of duals, if it is
--                                there, the rank of its residual
--   AnswersRank               == so it is, or the row is refused, and keeps what it had
--   FailsTest                 == told is 0, the divisor fails the test of degree k, and the row of losses holds its first loss
--   IsTestTold                == told is 1 and the divisor passes the test; or it fails so; or told is 2, it fails, and the test
--                                is past the limits within which a first loss is named
--   AnswersTest               == the row is a divisor, and so it is told; or the row is refused. Without a loss the row keeps
--                                what it had
use Rattle.std.specs.Prelude.{if◌then◌else◌, ◌≡◌, ℕ, ℤ, ◌+◌, ◌<◌, ◌≤◌, ◌⊎◌, Bool, List, length, pos, ◌-ℤ◌}
use Rattle.std.specs.List.{slice_index_or}
use Rattle.dg_chips.specs.Vector.{Vector, at, IsDivisorVector, IsFirstBeyond}
use Rattle.dg_chips.specs.declared.divisor.TheConstants.{MAX_AMOUNT}
use Rattle.dg_theory.specs.Firing.{Amounts}
use Rattle.dg_theory.specs.Multigraph.{Multigraph}
use Rattle.dg_theory.specs.Rank.{HasRankAtLeast, IsFirstLoss}
use Rattle.dg_rank.specs.Limits.{IsPastLimits}
use Rattle.dg_rank.specs.Ranks.{AreBothRanks}
use Rattle.dg_verdict.specs.Right.{IsVerdictOn}
use Rattle.dg_verdict.specs.declared.verdict.Verdict.{Verdict}

abbrev pub row_at : List ℤ → ℕ → Amounts
row_at xs s v = slice_index_or xs (s + v) (pos 0)

abbrev pub Holds : {X : Type 0} → X → ℕ → List X → ℕ → (ℕ → X) → Type 0
Holds z n xs s f = (v : ℕ) → v < n → s + v < length xs → slice_index_or xs (s + v) z ≡ f v

pub record HoldsDivisor (n : ℕ) (xs : List ℤ) (s : ℕ) (d : Vector) : Type 0 where
  pub size : d.size ≡ n
  pub divisor : IsDivisorVector d
  pub amounts : (v : ℕ) → v < n → at d v ≡ row_at xs s v

pub record RefusesRow (n : ℕ) (xs : List ℤ) (s : ℕ) (told : ℤ) : Type 0 where
  pub vertex : ℕ
  pub past : IsFirstBeyond MAX_AMOUNT n (row_at xs s) vertex
  pub is_told : told ≡ (pos 0 -ℤ pos 1) -ℤ pos vertex

abbrev pub Keeps : {X : Type 0} → X → ℕ → List X → List X → ℕ → Type 0
Keeps z n xs ys s = (v : ℕ) → v < n → slice_index_or ys (s + v) z ≡ slice_index_or xs (s + v) z

abbrev pub KeepsElsewhere : {X : Type 0} → X → ℕ → List X → List X → ℕ → Type 0
KeepsElsewhere z n xs ys s = (k : ℕ) → (k < s) ⊎ (s + n ≤ k) → slice_index_or ys k z ≡ slice_index_or xs k z

abbrev pub told_of : Bool → ℤ
told_of b = if b then pos 1 else pos 0

pub record IsJudged (g : Multigraph) (q : ℕ) (xs : List ℤ) (s : ℕ) (told : ℤ) (scripts reduced : List ℤ)
    (orders : List ℕ) : Type 0 where
  pub divisor : Vector
  pub holds : HoldsDivisor g.size xs s divisor
  pub verdict : Verdict
  pub right : IsVerdictOn g q (at divisor) verdict
  pub is_told : told ≡ told_of verdict.winnable
  pub has_script : Holds (pos 0) g.size scripts s (at verdict.script)
  pub has_reduced : Holds (pos 0) g.size reduced s (at verdict.reduced)
  pub has_order : Holds 0 g.size orders s (λ v. slice_index_or verdict.order v 0)

pub record LeavesJudged (g : Multigraph) (xs : List ℤ) (s : ℕ) (told : ℤ) (scripts scripts' reduced reduced' : List ℤ)
    (orders orders' : List ℕ) : Type 0 where
  pub refused : RefusesRow g.size xs s told
  pub keeps_script : Keeps (pos 0) g.size scripts scripts' s
  pub keeps_reduced : Keeps (pos 0) g.size reduced reduced' s
  pub keeps_order : Keeps 0 g.size orders orders' s

abbrev pub AnswersJudge : Multigraph → ℕ → List ℤ → ℕ → ℤ → List ℤ → List ℤ → List ℤ → List ℤ → List ℕ → List ℕ → Type 0
AnswersJudge g q xs s told scripts scripts' reduced reduced' orders orders' =
    IsJudged g q xs s told scripts' reduced' orders' ⊎ LeavesJudged g xs s told scripts scripts' reduced reduced' orders orders'

pub record IsRanked (g : Multigraph) (xs : List ℤ) (s r : ℕ) (told : ℤ) (ranks duals : List ℤ) : Type 0 where
  pub divisor : Vector
  pub holds : HoldsDivisor g.size xs s divisor
  pub is_told : told ≡ pos 0
  pub both : ℤ × ℤ
  pub right : AreBothRanks g (at divisor) both
  pub has_rank : slice_index_or ranks r (pos 0) ≡ both.0
  pub has_dual : r < length duals → slice_index_or duals r (pos 0) ≡ both.1

pub record LeavesRanked (g : Multigraph) (xs : List ℤ) (s r : ℕ) (told : ℤ) (ranks ranks' duals duals' : List ℤ) : Type 0 where
  pub refused : RefusesRow g.size xs s told
  pub keeps_rank : slice_index_or ranks' r (pos 0) ≡ slice_index_or ranks r (pos 0)
  pub keeps_dual : slice_index_or duals' r (pos 0) ≡ slice_index_or duals r (pos 0)

abbrev pub AnswersRank : Multigraph → List ℤ → ℕ → ℕ → ℤ → List ℤ → List ℤ → List ℤ → List ℤ → Type 0
AnswersRank g xs s r told ranks ranks' duals duals' =
    IsRanked g xs s r told ranks' duals' ⊎ LeavesRanked g xs s r told ranks ranks' duals duals'

pub record FailsTest (g : Multigraph) (D : Amounts) (k s : ℕ) (losses : List ℤ) : Type 0 where
  pub loss : Vector
  pub first : IsFirstLoss g D k (at loss)
  pub has_loss : Holds (pos 0) g.size losses s (at loss)

abbrev pub IsTestTold : Multigraph → Amounts → ℕ → ℕ → ℤ → List ℤ → List ℤ → Type 0
IsTestTold g D k s told losses losses' =
    ((told ≡ pos 1) × HasRankAtLeast g D k × Keeps (pos 0) g.size losses losses' s) ⊎ ((told ≡ pos 0) × FailsTest g D k s losses')
    ⊎ ((told ≡ pos 2) × (¬ HasRankAtLeast g D k) × IsPastLimits g.size k × Keeps (pos 0) g.size losses losses' s)

pub record IsTested (g : Multigraph) (xs : List ℤ) (k s : ℕ) (told : ℤ) (losses losses' : List ℤ) : Type 0 where
  pub divisor : Vector
  pub holds : HoldsDivisor g.size xs s divisor
  pub right : IsTestTold g (at divisor) k s told losses losses'

abbrev pub AnswersTest : Multigraph → List ℤ → ℕ → ℕ → ℤ → List ℤ → List ℤ → Type 0
AnswersTest g xs k s told losses losses' =
    IsTested g xs k s told losses losses' ⊎ (RefusesRow g.size xs s told × Keeps (pos 0) g.size losses losses' s)
