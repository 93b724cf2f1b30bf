-- The lemmas that the proofs cite.
pub mod NamesLaws
mod Writing
mod Labelling
mod Naming
mod NoDecimals
mod Reading
pub mod Signs
pub mod Common
