-- Pieces of the trials of a rank test. A search is what all of them have in common.
--   piece_start s j        == the number of the first trial of piece j; past the last piece it is the
--                             number of all trials
--   CanSearch s            == the amounts are within the limits, and the trials as well; or none are made
--   TellsFirstLoss s i j x == x is the first loss of the trials from number i up to j, or they all
--                             win
use Rattle.std.specs.Prelude.{◌≡◌, ℕ, ◌*◌, ◌/◌, ◌⊎◌, List, Option, MatchOption}
use Rattle.dg_chips.specs.Vector.{at}
use Rattle.dg_rank.specs.Limits.{HasTrials}
use Rattle.dg_rank.specs.Losses.{AreSmallAmounts, AllTrialsWin, IsFirstLossIn}
use Rattle.dg_rank.specs.declared.pieces.Search.{Search}

abbrev pub piece_start : Search → ℕ → ℕ
piece_start s j = j * s.count / s.workers

pub record CanSearch (s : Search) : Type 0 where
  pub size : s.chips.size ≡ s.graph.size
  pub range : AreSmallAmounts s.graph.size (at s.chips)
  pub limits : (s.count ≡ 0) ⊎ HasTrials s.graph.size s.k s.count

abbrev pub TellsFirstLoss : Search → ℕ → ℕ → Option (List ℕ) → Type 0
TellsFirstLoss s i j x = MatchOption x (AllTrialsWin s.graph (at s.chips) s.k i j)
    (IsFirstLossIn s.graph (at s.chips) s.k i j)
