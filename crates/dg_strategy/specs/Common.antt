-- The names that the specs of this crate cite, passed on from one place. Declares nothing.
pub use Rattle.dg_chips.specs.Moves.{IsApplicableMove}
pub use Rattle.dg_chips.specs.Starts.{StartData}
pub use Rattle.dg_chips.specs.Vector.{Vector, at}
pub use Rattle.dg_chips.specs.declared.moves.Move.{Move}
pub use Rattle.dg_chips.specs.declared.moves.Move.TheVariants.{Borrow}
pub use Rattle.dg_rules.specs.History.{gifts_in, position_after}
pub use Rattle.dg_rules.specs.Legal.{IsLegal}
pub use Rattle.dg_rules.specs.Position.{Position, ShowsPosition}
pub use Rattle.dg_rules.specs.Replies.{Replies}
pub use Rattle.dg_rules.specs.declared.entry.Entry.{Entry}
pub use Rattle.dg_rules.specs.declared.entry.Refusal.TheVariants.{Range}
pub use Rattle.dg_rules.specs.declared.entry.Reply.{Reply}
pub use Rattle.dg_rules.specs.declared.entry.Reply.TheVariants.{Moved, Refused, Won}
pub use Rattle.dg_rules.specs.declared.entry.Request.{Request}
pub use Rattle.dg_rules.specs.declared.entry.Request.TheVariants.{Claim}
pub use Rattle.dg_graph.specs.Graph.{IsGraph}
pub use Rattle.dg_log.specs.Tables.{TableData}
pub use Rattle.dg_table.specs.Answered.{IsAnsweredAfter, entering}
pub use Rattle.dg_table.specs.Faults.{RefusesCall, KeepsAfterRefusal}
pub use Rattle.dg_table.specs.Seats.{Keeps, SeatView}
pub use Rattle.dg_rules.specs.Requests.{choice_request}
pub use Rattle.dg_table.specs.declared.fault.Fault.{Fault}
pub use Rattle.dg_theory.specs.Firing.{IsEffective}
pub use Rattle.dg_theory.specs.Multigraph.{Multigraph}
