-- What is asked for.
pub mod Invocation
