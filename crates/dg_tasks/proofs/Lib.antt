-- The lemmas that the proofs cite, over plain variables.
pub mod UnderWay
pub mod GreedyTurns
pub mod OneReply
pub mod OneText
pub mod Common
