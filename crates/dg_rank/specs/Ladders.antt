-- Ranks by tests one after another: of degree 0, 1, 2 and so on, until one is not passed. What each
-- test answers is a function f of its degree.
--   AnswersRankTest g D k answer == the rank test of degree k on D is so answered: rightly, or with
--                                   `TooMany`, and then it is past the limits
--   AreTestAnswers g D f         == each test of D is answered as f says
--   PassesBelow f k              == the answers of the tests of degrees below k are that the rank is so much
--   FailsAfter f r               == so are those up to degree r, and that of the next degree is a loss
--   MeetsTooMany f               == so are those before some degree, whose test is past the limits
--   TestsTellRank                == the rank of D is r, and is told within the limits, exactly if the tests
--                                   of D fail after r; and D needs too many tests exactly if they meet one
--                                   past the limits before one that fails
--   TestsTellBoth                == so it is of D and its residual E: both ranks are told within the limits
--                                   exactly if the tests of both fail, each after its rank; and one of the
--                                   two needs too many exactly if the tests of one meet a test past the
--                                   limits
use Rattle.std.specs.Prelude.{◌≡◌, ◌↔◌, ℕ, ◌<◌, ◌⊎◌, ℤ, pos, ◌+ℤ◌, Result, Ok, Err, MatchResult}
use Rattle.dg_chips.specs.Divisors.{IsDualOf}
use Rattle.dg_chips.specs.Vector.{Vector}
use Rattle.dg_theory.specs.Firing.{Amounts}
use Rattle.dg_theory.specs.Multigraph.{Multigraph}
use Rattle.dg_verdict.specs.RankTests.{IsRightRank}
use Rattle.dg_verdict.specs.declared.rank_verdict.RankVerdict.{RankVerdict}
use Rattle.dg_verdict.specs.declared.rank_verdict.RankVerdict.TheVariants.{AtLeast, Below}
use Rattle.dg_rank.specs.Limits.{IsPastLimits}
use Rattle.dg_rank.specs.Ranks.{IsTestable, IsTestedRank, AreTestedRanks, NeedsTooMany, EitherNeedsMore}
use Rattle.dg_rank.specs.declared.rank_fault.RankFault.{RankFault}
use Rattle.dg_rank.specs.declared.rank_fault.RankFault.TheVariants.{TooMany}

abbrev pub AnswersRankTest : Multigraph → Amounts → ℕ → Result RankVerdict RankFault → Type 0
AnswersRankTest g D k answer = MatchResult answer
    (λ x. IsTestable g.size k × IsRightRank g D k x)
    (λ e. (e ≡ TooMany) × IsPastLimits g.size k)

abbrev pub AreTestAnswers : Multigraph → Amounts → (ℕ → Result RankVerdict RankFault) → Type 0
AreTestAnswers g D f = (k : ℕ) → AnswersRankTest g D k (f k)

abbrev pub PassesBelow : (ℕ → Result RankVerdict RankFault) → ℕ → Type 0
PassesBelow f k = (j : ℕ) → j < k → f j ≡ Ok (AtLeast j)

pub record FailsAfter (f : ℕ → Result RankVerdict RankFault) (r : ℤ) : Type 0 where
  pub next : ℕ
  pub follows : pos next ≡ r +ℤ pos 1
  pub passed : PassesBelow f next
  pub loss : Vector
  pub fails : f next ≡ Ok (Below next loss)

pub record MeetsTooMany (f : ℕ → Result RankVerdict RankFault) : Type 0 where
  pub degree : ℕ
  pub passed : PassesBelow f degree
  pub past : f degree ≡ Err TooMany

abbrev pub TestsTellRank : Type 0
TestsTellRank = (g : Multigraph) (D : Amounts) (f : ℕ → Result RankVerdict RankFault) →
    AreTestAnswers g D f → ((r : ℤ) → IsTestedRank g D r ↔ FailsAfter f r)
    × (NeedsTooMany g D ↔ MeetsTooMany f)

abbrev pub TestsTellBoth : Type 0
TestsTellBoth = (g : Multigraph) (D E : Amounts) (f h : ℕ → Result RankVerdict RankFault) →
    IsDualOf g D E → AreTestAnswers g D f → AreTestAnswers g E h →
    ((r : ℤ × ℤ) → AreTestedRanks g D r ↔ (FailsAfter f r.0 × FailsAfter h r.1))
    × (EitherNeedsMore g D ↔ (MeetsTooMany f ⊎ MeetsTooMany h))
