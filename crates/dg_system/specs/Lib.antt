-- What is known of files and streams.
pub mod Held
pub mod AllHeld
pub mod Streams
pub mod Growth
