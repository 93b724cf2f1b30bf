-- The locked table: what seats know, how they are answered, and how the table is closed.
pub mod Seats
pub mod SeatLaws
pub mod Histories
pub mod Opened
pub mod Answered
pub mod Looks
pub mod Settled
pub mod Faults
pub mod Closing
pub mod Turns
-- Words of private fields.
pub mod Lock
pub mod Common
