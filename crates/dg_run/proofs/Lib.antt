-- The lemmas that the proofs cite, over plain variables.
pub mod Ends
pub mod Serving
pub mod Common
