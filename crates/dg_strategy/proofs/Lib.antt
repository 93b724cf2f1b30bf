-- Lemmas about turns in a row, and what a move or a claim of a strategy comes to.
pub mod Gained
pub mod Kept
pub mod Turned
pub mod Greedily
pub mod SettledGreedily
pub mod OneGame
pub mod Common
