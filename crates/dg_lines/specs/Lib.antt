-- The grammar of lines, and the texts of replies and of entries, all of them on lists of bytes.
pub mod Cuts
pub mod Streams
pub mod CommandWords
pub mod Commands
pub mod LineFaults
pub mod Steps
pub mod Schedules
pub mod LineLaws
pub mod Texts
pub mod Judgements
pub mod Columns
-- What serves the reading alone.
pub mod Keywords
