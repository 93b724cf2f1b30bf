-- The lemmas that the proofs cite, each file over plain variables.
pub mod Taken
pub mod Pieces
pub mod Swept
pub mod Amounts
mod FirstAmounts
-- Each line has one answer.
pub mod OneText
pub mod OneMeaning
pub mod OneAnswer
pub mod Common
