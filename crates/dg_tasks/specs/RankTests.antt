-- Rank tests of a table, printed, and both sides of Riemann-Roch (Baker and Norine 2007, theorem
-- 1.12; Corry and Perkinson, chapter 5).
--   IsRankAnswer o k names text == a rank test of degree k is within the limits, and the text is that of
--                                  a reply with a rank verdict of this degree which is right for the
--                                  amounts of the start o, and a newline
--   RefusesRank n k w fault     == a rank test of degree k on n vertices is past the limits; or memory
--                                  was refused; or a thread, which only a test by two workers or more
--                                  starts, of which there are w
--   labelled_line label z       == the label, the number and a newline
--   riemann_roch_text o r s     == the lines of the start divisor's degree, of the genus, and of the
--                                  ranks r and s
--   IsRiemannRochAnswer o text  == the residual is in range, and the text is those lines, with the rank
--                                  of the divisor and that of its residual, each told by tests within the
--                                  limits; the two differ by the degree, plus 1, less the genus
--   RefusesRiemannRoch o fault  == the residual is out of range; else one of the two ranks needs a test
--                                  past the limits; of want of memory nothing is said
use Rattle.std.specs.Prelude.{◌≡◌, ◌≤◌, ℕ, ℤ, pos, ◌+ℤ◌, ◌-ℤ◌, List, ◌++◌, codes, ⊤}
use Rattle.std.specs.Fmt.{signed_decimal}
use Rattle.dg_tasks.specs.Common.{genus, degree, minus, canonical, IsDualFault, StartData, at, IsInRange, IsPastLimits, IsRightRank, IsTestable, IsTestedRank, RefusesBothRanks, RankVerdict, Rank, text_of, OutOfMemory, Spawn}
use Rattle.dg_tasks.specs.declared.fault.TaskFault.{TaskFault}
use Rattle.dg_tasks.specs.declared.fault.TaskFault.TheVariants.{TooMany, Chip, Shortage}

pub record IsRankAnswer (o : StartData) (k : ℕ) (names : List (List ℕ)) (text : List ℕ) : Type 0 where
  pub within : IsTestable o.graph.size k
  pub verdict : RankVerdict
  pub right : IsRightRank o.graph (at o.divisor) k verdict
  pub printed : text ≡ text_of names (Rank verdict) ++ codes "\n"

abbrev pub RefusesRank : ℕ → ℕ → ℕ → TaskFault → Type 0
RefusesRank n k w TooMany = IsPastLimits n k
RefusesRank n k w (Shortage OutOfMemory) = ⊤
RefusesRank n k w (Shortage Spawn) = 2 ≤ w
RefusesRank n k w fault = ⊥

abbrev pub labelled_line : List ℕ → ℤ → List ℕ
labelled_line label z = label ++ signed_decimal z ++ codes "\n"

abbrev pub riemann_roch_text : StartData → ℤ → ℤ → List ℕ
riemann_roch_text o rank dual_rank =
    labelled_line (codes "degree ") (degree o.graph.size (at o.divisor))
    ++ labelled_line (codes "genus ") (genus o.graph)
    ++ labelled_line (codes "rank ") rank
    ++ labelled_line (codes "dual ") dual_rank

pub record IsRiemannRochAnswer (o : StartData) (text : List ℕ) : Type 0 where
  pub in_range : IsInRange o.graph.size (minus (canonical o.graph) (at o.divisor))
  pub rank : ℤ
  pub of_divisor : IsTestedRank o.graph (at o.divisor) rank
  pub dual_rank : ℤ
  pub of_dual : IsTestedRank o.graph (minus (canonical o.graph) (at o.divisor)) dual_rank
  pub apart : rank -ℤ dual_rank ≡ (degree o.graph.size (at o.divisor) +ℤ pos 1) -ℤ genus o.graph
  pub printed : text ≡ riemann_roch_text o rank dual_rank

abbrev pub RefusesRiemannRoch : StartData → TaskFault → Type 0
RefusesRiemannRoch o (Chip fault) = IsDualFault o.graph (at o.divisor) fault
RefusesRiemannRoch o TooMany = RefusesBothRanks o.graph (at o.divisor)
RefusesRiemannRoch o (Shortage OutOfMemory) = ⊤
RefusesRiemannRoch o fault = ⊥
