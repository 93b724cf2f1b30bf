-- A position of the game.
--   Position           == a graph, and an amount for each of its vertices
--   ShowsPosition p d  == the divisor d holds the amounts of the position p
--   start_position o   == the position at the start: the graph and the amounts of the start o
--   with_gift p v x    == the amounts of the position p, with x more at v
--   with_join p u v    == the position p on the graph with one more edge between u and v
--   fired_position p s == the position p after every vertex has lent as often as the script s says
use Rattle.std.specs.Prelude.{◌≡◌, ℕ, ◌<◌, ℤ, ◌+ℤ◌}
use Rattle.dg_rules.specs.Common.{Multigraph, Amounts, fired, only_at, with_edge, StartData, Vector, IsDivisorVector, at}

pub record Position : Type 0 where
  pub graph : Multigraph
  pub amounts : Amounts

pub record ShowsPosition (p : Position) (d : Vector) : Type 0 where
  pub size : d.size ≡ p.graph.size
  pub divisor : IsDivisorVector d
  pub amounts : (v : ℕ) → v < p.graph.size → at d v ≡ p.amounts v

abbrev pub start_position : StartData → Position
start_position o = record { graph = o.graph; amounts = at o.divisor }

abbrev pub with_gift : Position → ℕ → ℤ → Amounts
with_gift p v x w = p.amounts w +ℤ only_at v x w

abbrev pub with_join : Position → ℕ → ℕ → Position
with_join p u v = record { graph = with_edge p.graph u v; amounts = p.amounts }

abbrev pub fired_position : Position → Amounts → Position
fired_position p s = record { graph = p.graph; amounts = fired p.graph p.amounts s }
