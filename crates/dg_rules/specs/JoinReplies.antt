-- What may be replied to a join, which asks for one more edge between u and v, at the position p,
-- if the gift count is g. A join is counted as a gift is.
--   IsAcceptedJoin p g u v count d == the count after the join, and the amounts, which are as before
--   RefusesJoin p u v refusal      == the join is refused for this cause, and for no earlier one
--   RepliesToJoin p g u v reply    == the reply is the right one
use Rattle.std.specs.Prelude.{◌≡◌, ℕ, ◌+◌}
use Rattle.dg_rules.specs.Common.{IsJoinable, IsJoinFault, Vector}
use Rattle.dg_graph.specs.declared.fault.JoinFault.TheVariants as fault
use Rattle.dg_rules.specs.Position.{Position, ShowsPosition}
use Rattle.dg_rules.specs.declared.entry.Refusal.{Refusal}
use Rattle.dg_rules.specs.declared.entry.Refusal.TheVariants.{NoVertex, Loop, Valence}
use Rattle.dg_rules.specs.declared.entry.Reply.{Reply}
use Rattle.dg_rules.specs.declared.entry.Reply.TheVariants.{Joined, Refused}

pub record IsAcceptedJoin (p : Position) (g u v count : ℕ) (d : Vector) : Type 0 where
  pub joinable : IsJoinable p.graph u v
  pub count' : count ≡ g + 1
  pub amounts : ShowsPosition p d

abbrev pub RefusesJoin : Position → ℕ → ℕ → Refusal → Type 0
RefusesJoin p u v NoVertex = IsJoinFault p.graph u v fault.NoVertex
RefusesJoin p u v Loop = IsJoinFault p.graph u v fault.Loop
RefusesJoin p u v Valence = IsJoinFault p.graph u v fault.Valence
RefusesJoin p u v refusal = ⊥

abbrev pub RepliesToJoin : Position → ℕ → ℕ → ℕ → Reply → Type 0
RepliesToJoin p g u v (Joined count d) = IsAcceptedJoin p g u v count d
RepliesToJoin p g u v (Refused refusal) = RefusesJoin p u v refusal
RepliesToJoin p g u v reply = ⊥
