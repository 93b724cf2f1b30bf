-- Sweeps: what lines are answered, how a stream is cut into lines, and how a sweep ends.
pub mod FaultTexts
pub mod Answers
pub mod Divisors
pub mod Kinds
pub mod Sweeps
pub mod DivisorLaws
pub mod AnswerLaws
-- What serves the steps of a sweep alone.
pub mod Steps
pub mod Subjects
pub mod Pieces
pub mod Common
