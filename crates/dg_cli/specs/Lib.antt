-- The command line of the program: its commands, what words ask for, and why they are refused.
pub mod Commands
pub mod Numbers
pub mod Asks
pub mod Refusals
pub mod Faults
pub mod Building
pub mod Telling
