pub mod KeptLaws
pub mod RehearsalLaws
pub mod Common
