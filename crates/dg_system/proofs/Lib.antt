-- The lemmas that the proofs cite.
mod Limited
mod OneByOne
pub mod Growing
pub mod InputReads
pub mod Common
