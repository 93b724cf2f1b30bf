mod Telling
mod Adding
pub mod Parsing
pub mod Common
