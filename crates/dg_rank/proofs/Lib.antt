-- The numbering of trials.
pub mod Lists
pub mod Numbering
pub mod CountedOnce
pub mod Pascal
pub mod Unranking
-- Trials and effective divisors.
pub mod TrialLists
-- What the search over all trials finds.
pub mod FirstLosses
pub mod PieceLosses
pub mod Elsewhere
-- Boxes of losses.
pub mod LossBoxes
pub mod FirstFrom
pub mod FixedBeginnings
pub mod LastLosses
-- The trials from one on.
pub mod Starts
-- The search for any loss.
pub mod AnyLoss
-- Leaves that are folded.
pub mod Leaves
pub mod RowPrices
pub mod Spared
-- Ranks and rank tests by the residual.
pub mod SmallDegrees
pub mod DualTests
pub mod TestDegrees
pub mod RankByTests
pub mod LeastLosses
pub mod Ladder
pub mod Common
