-- Reading.
mod NamesRead
mod Listing
-- Files have one meaning.
mod OneContent
mod OneShape
mod OneName
mod OneGraph
pub mod OneTable
mod OneFile
pub mod Common
