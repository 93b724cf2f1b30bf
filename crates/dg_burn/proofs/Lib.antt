pub mod Orders
pub mod Steps
pub mod Rests
pub mod Told
pub mod Fires
pub mod Capped
pub mod Lanes
pub mod Common
