-- What a rehearsal, a judgement, a rank test and a greedy game print, and when they are refused.
pub mod Rehearsals
pub mod RankTests
pub mod Games
pub mod OneText
pub mod Refusals
pub mod Tasks
pub mod Common
