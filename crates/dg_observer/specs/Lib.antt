-- What observers keep.
pub mod Folds
