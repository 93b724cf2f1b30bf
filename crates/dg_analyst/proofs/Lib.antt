pub mod Kept
pub mod Staleness
pub mod Common
