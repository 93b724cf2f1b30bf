-- The lemmas that the proofs cite, each file over plain variables.
pub mod Cutting
pub mod Coming
pub mod InOrder
pub mod Entered
pub mod Made
pub mod Lines
pub mod Seated
pub mod Going
pub mod SessionLaws
mod Begun
mod Printing
pub mod Whole
pub mod Common
