-- What trials are, how far rank tests go, and what they tell.
pub mod Trials
pub mod Limits
pub mod Divisors
pub mod Ranks
pub mod Ladders
-- Words of private functions: how trials are numbered, and what the search for a loss finds.
pub mod Numbering
pub mod Losses
pub mod Boxes
pub mod Folding
pub mod Prices
pub mod Pieces
