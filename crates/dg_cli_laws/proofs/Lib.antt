-- Why no words both ask for something and are refused.
mod Alike
mod Apart
mod Written
pub mod Common
