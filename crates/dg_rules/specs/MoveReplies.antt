-- What may be replied to a move at the position p.
--   RefusesMove p m refusal == the move is refused for this cause, and for no earlier one
--   RepliesToMove p m reply == the reply is the right one: the amounts after the move, or its
--                              refusal
use Rattle.dg_rules.specs.Common.{fired, IsOutOfRange, move_script, NamesNoVertex, FiresEmptySet, HasOtherSize, IsApplicableMove, IsAfterMove, Move}
use Rattle.dg_rules.specs.Position.{Position}
use Rattle.dg_rules.specs.declared.entry.Refusal.{Refusal}
use Rattle.dg_rules.specs.declared.entry.Refusal.TheVariants.{NoVertex, Empty, Script, Range}
use Rattle.dg_rules.specs.declared.entry.Reply.{Reply}
use Rattle.dg_rules.specs.declared.entry.Reply.TheVariants.{Moved, Refused}

abbrev pub RefusesMove : Position → Move → Refusal → Type 0
RefusesMove p m NoVertex = NamesNoVertex p.graph.size m
RefusesMove p m Empty = FiresEmptySet m
RefusesMove p m Script = HasOtherSize p.graph.size m
RefusesMove p m Range =
    IsApplicableMove p.graph.size m × IsOutOfRange p.graph.size (fired p.graph p.amounts (move_script m))
RefusesMove p m refusal = ⊥

abbrev pub RepliesToMove : Position → Move → Reply → Type 0
RepliesToMove p m (Moved d) = IsAfterMove p.graph p.amounts m d
RepliesToMove p m (Refused refusal) = RefusesMove p m refusal
RepliesToMove p m reply = ⊥
