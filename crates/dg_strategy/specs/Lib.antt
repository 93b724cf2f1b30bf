-- Strategies: what may be chosen, and what comes of playing so.
pub mod Choices
pub mod Plays
pub mod Greedy
pub mod GreedyLaws
pub mod Common
