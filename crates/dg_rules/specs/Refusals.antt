-- A refused move, and a refused join, in the words of the history.
--   refusal_for fault       == the refusal of the same name
--   join_refusal_for fault  == the refusal of the same name
use Rattle.dg_rules.specs.Common.{MoveFault, JoinFault}
use Rattle.dg_chips.specs.declared.moves.MoveFault.TheVariants as fault
use Rattle.dg_graph.specs.declared.fault.JoinFault.TheVariants as join
use Rattle.dg_rules.specs.declared.entry.Refusal.{Refusal}
use Rattle.dg_rules.specs.declared.entry.Refusal.TheVariants as refusal

abbrev pub refusal_for : MoveFault → Refusal
refusal_for fault.NoVertex = refusal.NoVertex
refusal_for fault.Empty = refusal.Empty
refusal_for fault.Script = refusal.Script
refusal_for fault.Range = refusal.Range

abbrev pub join_refusal_for : JoinFault → Refusal
join_refusal_for join.NoVertex = refusal.NoVertex
join_refusal_for join.Loop = refusal.Loop
join_refusal_for join.Valence = refusal.Valence
