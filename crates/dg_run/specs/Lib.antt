-- Sessions, parties and sweeps of the program; faults and exit statuses; and when what is asked for
-- is done.
pub mod Streams
pub mod Sessions
pub mod Parties
pub mod Sweeping
pub mod Status
pub mod Performed
pub mod Runs
pub mod Common
