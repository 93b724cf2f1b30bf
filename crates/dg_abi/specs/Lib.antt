-- What the functions for C answer: of rows of arrays, and to calls.
pub mod Rows
pub mod Calls
