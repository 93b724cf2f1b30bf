-- What a reader of the contracts has to believe: what a reduction gives and is shown by, what
-- amounts without debts are, and a burning that is kept.
pub mod Reductions
pub mod Certificates
pub mod Effective
pub mod Burnings
-- What serves the steps alone: what burning leaves, the search for the distances from a vertex,
-- how often a set can fire, and the states on the way.
pub mod Rests
pub mod Reaching
pub mod Firings
pub mod States
