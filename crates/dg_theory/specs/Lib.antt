-- The definitions of the dollar game, in reading order: what has to be believed.
pub mod Sums
pub mod Multigraph
pub mod Sets
pub mod Firing
pub mod Play
pub mod Reduced
pub mod Burning
pub mod Rank
pub mod Joins
pub mod Twins
pub mod Orders
-- The laws, which are proved.
pub mod FiringLaws
pub mod EquivalenceLaws
pub mod WinningLaws
pub mod ReducedLaws
pub mod BurningLaws
pub mod ExistenceLaws
pub mod RankLaws
pub mod JoinLaws
pub mod DualityLaws
-- For the proofs of other crates.
pub mod Distances
