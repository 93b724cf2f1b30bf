-- What a table file says and describes, and why it is refused.
pub mod Content
pub mod TableFiles
pub mod FileFaults
pub mod FileLaws
-- What serves the reading alone.
pub mod Reading
