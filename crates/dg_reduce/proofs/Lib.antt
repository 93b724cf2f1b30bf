-- The distances from q.
pub mod Gradual
pub mod Reaching
-- How often a set can fire at once.
pub mod Most
-- Limits, and the steps of the fallback's two loops.
pub mod LevelLimits
pub mod Ties
pub mod LevelSteps
pub mod Cleared
pub mod BurningSteps
-- What a reduction comes to, also one that begins with a script.
pub mod Outcome
pub mod Joined
-- A burning that is kept.
pub mod Burnings
-- Debts that are paid back.
pub mod DebtSteps
pub mod Entries
pub mod FormSteps
pub mod Halves
pub mod Common
