-- Boxes of losses: at each vertex at most so much is lost, and in all at most so many dollars. And
-- the first loss of the trials that hold nothing before a place.
--   IsInBox n r j E            == E is effective, of degree at most j, and holds at each of n vertices at
--                                 most what the list r has there
--   BoxWins g A r j            == A less each of these is winnable
--   IsBoxLoss g A r j E        == the trial E is one of these, and A less E is not winnable
--   HaveOnlyTwins g l         == whoever is in the set that the list l has at a vertex of g is a twin of that
--                                 vertex
--   IsLossFrom g A r d E  == A less E is not winnable, where E is a trial of degree at most r that holds
--                                 nothing before place d
--   IsLastLoss g A r p E  == A less the trial E is not winnable, where E begins at p: it is of degree at most r, holds
--                                 a dollar at p, and nothing before; but A less each trial of degree r that begins later is
--   IsTrialFrom n r d F        == F is effective, of degree r, and holds nothing before place d
--   TrialsWinFrom g A r d      == A less each of these is winnable
--   IsFirstLossFrom g A r d E == the trial E is the first of these without which A is not winnable
--   TrialsWinIf g A r d P      == A less each of the F with the property P is winnable
--   IsFirstTrialIf g A r d P E == the trial E is the first of these without which A is not winnable
--   TellsFirstIf g A r d P x == x is this first trial, or they all win
--   IsNotBefore n S F          == F does not come before the trial S
--   HoldsAt p a F              == F holds a at least at place p
use Rattle.std.specs.Prelude.{◌≡◌, ℕ, ◌+◌, ◌<◌, ◌≤◌, true, pos, ◌≤ℤ◌, List, Option, MatchOption, length, slice_index}
use Rattle.dg_theory.specs.Firing.{Amounts, degree, IsEffective}
use Rattle.dg_theory.specs.Multigraph.{Multigraph}
use Rattle.dg_theory.specs.Play.{IsWinnable}
use Rattle.dg_theory.specs.Rank.{minus, IsLexBefore}
use Rattle.dg_theory.specs.Twins.{AreTwins}
use Rattle.dg_graph.specs.Sets.{in_set}
use Rattle.dg_rank.specs.Divisors.{amounts_of_trial}
use Rattle.dg_rank.specs.Losses.{WinsWithout}

pub record IsInBox (n : ℕ) (r : List ℕ) (j : ℕ) (E : Amounts) : Type 0 where
  pub effective : IsEffective n E
  pub few : degree n E ≤ℤ pos j
  pub within : (v : ℕ) → v < n → E v ≤ℤ pos (slice_index r v)

abbrev pub BoxWins : Multigraph → Amounts → List ℕ → ℕ → Type 0
BoxWins g A r j = (E : Amounts) → IsInBox g.size r j E → IsWinnable g (minus A E)

pub record IsBoxLoss (g : Multigraph) (A : Amounts) (r : List ℕ) (j : ℕ) (E : List ℕ) : Type 0 where
  pub places : length E ≡ g.size
  pub inside : IsInBox g.size r j (amounts_of_trial E)
  pub loses : ¬ WinsWithout g A E

abbrev pub HaveOnlyTwins : Multigraph → List ℕ → Type 0
HaveOnlyTwins g l = (v u : ℕ) → v < g.size → in_set (slice_index l v) u ≡ true → AreTwins g v u

pub record IsLossFrom (g : Multigraph) (A : Amounts) (r d : ℕ) (E : List ℕ) : Type 0 where
  pub places : length E ≡ g.size
  pub few : degree g.size (amounts_of_trial E) ≤ℤ pos r
  pub empty : (v : ℕ) → v < d → slice_index E v ≡ 0
  pub loses : ¬ WinsWithout g A E

pub record IsTrialFrom (n r d : ℕ) (F : Amounts) : Type 0 where
  pub effective : IsEffective n F
  pub of_degree : degree n F ≡ pos r
  pub empty : (v : ℕ) → v < d → F v ≡ pos 0

abbrev pub TrialsWinFrom : Multigraph → Amounts → ℕ → ℕ → Type 0
TrialsWinFrom g A r d = (F : Amounts) → IsTrialFrom g.size r d F → IsWinnable g (minus A F)

pub record IsLastLoss (g : Multigraph) (A : Amounts) (r p : ℕ) (E : List ℕ) : Type 0 where
  pub inside : p < g.size
  pub loss : IsLossFrom g A r p E
  pub held : 1 ≤ slice_index E p
  pub later : TrialsWinFrom g A r (p + 1)

pub record IsFirstLossFrom (g : Multigraph) (A : Amounts) (r d : ℕ) (E : List ℕ) : Type 0 where
  pub places : length E ≡ g.size
  pub from : IsTrialFrom g.size r d (amounts_of_trial E)
  pub loses : ¬ WinsWithout g A E
  pub first : (F : Amounts) → IsTrialFrom g.size r d F → IsLexBefore g.size F (amounts_of_trial E) →
      IsWinnable g (minus A F)

abbrev pub TrialsWinIf : Multigraph → Amounts → ℕ → ℕ → (Amounts → Type 0) → Type 0
TrialsWinIf g A r d P = (F : Amounts) → IsTrialFrom g.size r d F → P F → IsWinnable g (minus A F)

pub record IsFirstTrialIf (g : Multigraph) (A : Amounts) (r d : ℕ) (P : Amounts → Type 0) (E : List ℕ) : Type 0 where
  pub places : length E ≡ g.size
  pub from : IsTrialFrom g.size r d (amounts_of_trial E)
  pub among : P (amounts_of_trial E)
  pub loses : ¬ WinsWithout g A E
  pub first : (F : Amounts) → IsTrialFrom g.size r d F → P F → IsLexBefore g.size F (amounts_of_trial E) →
      IsWinnable g (minus A F)

abbrev pub TellsFirstIf : Multigraph → Amounts → ℕ → ℕ → (Amounts → Type 0) → Option (List ℕ) → Type 0
TellsFirstIf g A r d P x = MatchOption x (TrialsWinIf g A r d P) (IsFirstTrialIf g A r d P)

abbrev pub IsNotBefore : ℕ → List ℕ → Amounts → Type 0
IsNotBefore n S F = ¬ IsLexBefore n F (amounts_of_trial S)

abbrev pub HoldsAt : ℕ → ℕ → Amounts → Type 0
HoldsAt p a F = pos a ≤ℤ F p
