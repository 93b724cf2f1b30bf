pub mod Reading
pub mod Common
