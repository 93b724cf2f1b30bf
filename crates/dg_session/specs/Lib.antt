-- Sessions: how a stream is cut into lines, what a command and a line of a seat come to, whom lines are for, how
-- they are answered one after another, and how a session ends. Parties: sessions side by side on one table.
pub mod Streams
pub mod Commands
pub mod State
pub mod Ends
pub mod Parties
pub mod Printed
pub mod Common
-- Words of private functions, for single steps of a session: who reads the promises can skip them.
pub mod SoFar
