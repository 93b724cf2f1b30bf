-- Laws of rows, and of edge items.
pub mod Small
pub mod Kept
pub mod Items
