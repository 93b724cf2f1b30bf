-- What serves burning alone: how far it has come, and the fire that keeps count of it. What a
-- reader of the contract of burning has to believe stands in dg_theory and dg_graph.
pub mod SoFar
pub mod Fires
