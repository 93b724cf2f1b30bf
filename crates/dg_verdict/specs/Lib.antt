-- When a verdict is right, when it can be carried along a drift, and when the answer to a rank test is right.
pub mod RankTests
pub mod Right
pub mod Rebasing
