-- The names of a table's vertices, and the decimals of numbers.
pub mod Names
pub mod Decimals
pub mod Labels
-- What serves the reading of digits alone.
pub mod Digits
