-- What divisors, scripts and moves hold, and what a move does.
pub mod Vector
pub mod Divisors
pub mod Scripts
pub mod Moves
pub mod MoveFaults
pub mod Starts
