-- The one-player game: positions, histories, and what may be asked and replied.
pub mod Position
pub mod History
pub mod Step
pub mod Requests
pub mod Refusals
pub mod MoveReplies
pub mod GiftReplies
pub mod JoinReplies
pub mod Replies
pub mod Legal
pub mod Look
pub mod LegalLaws
pub mod State
pub mod Common
