-- Looks, and what is computed on them.
pub mod Views
pub mod Commits
