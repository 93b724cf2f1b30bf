-- The lemmas that the proofs cite.
pub mod Orders
pub mod Verdicts
pub mod Rebased
pub mod Agreement
pub mod Between
pub mod Common
