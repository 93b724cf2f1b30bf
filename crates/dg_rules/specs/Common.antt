-- The names that the specs of this crate cite, passed on from one place. Declares nothing.
pub use Rattle.dg_chips.specs.Moves.{IsAfterMove, HasOtherSize, FiresEmptySet, IsApplicableMove, NamesNoVertex, move_script}
pub use Rattle.dg_chips.specs.Starts.{StartData}
pub use Rattle.dg_chips.specs.Vector.{IsDivisorVector, IsOutOfRange, Vector, at}
pub use Rattle.dg_chips.specs.declared.script.TheConstants.{MAX_ENTRY}
pub use Rattle.dg_chips.specs.declared.moves.Move.{Move}
pub use Rattle.dg_chips.specs.declared.moves.MoveFault.{MoveFault}
pub use Rattle.dg_graph.specs.Graph.{IsGraph}
pub use Rattle.dg_graph.specs.Joins.{IsJoinable, IsJoinFault}
pub use Rattle.dg_graph.specs.declared.fault.JoinFault.{JoinFault}
pub use Rattle.dg_theory.specs.Firing.{Amounts, IsEffective, fired, only_at}
pub use Rattle.dg_theory.specs.Joins.{with_edge}
pub use Rattle.dg_theory.specs.Multigraph.{Multigraph}
pub use Rattle.dg_verdict.specs.RankTests.{IsRightRank}
pub use Rattle.dg_verdict.specs.Right.{IsRightVerdict}
pub use Rattle.dg_verdict.specs.declared.rank_verdict.RankVerdict.{RankVerdict}
pub use Rattle.dg_verdict.specs.declared.rank_verdict.RankVerdict.TheVariants.{AtLeast, Below}
