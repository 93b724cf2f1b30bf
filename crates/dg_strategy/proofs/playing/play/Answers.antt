use Rattle.std.specs.Borrow.{Bor}
use Rattle.dg_theory.specs.Multigraph.{Multigraph}
use Rattle.dg_strategy.proofs.Common.{Option, Vector, Move, subst, IsGraph, IsStart, IsTurnBy, IsStrategyTurn}
use Rattle.dg_strategy.proofs.Gained.{plays_as}
use Rattle.dg_strategy.proofs.Kept.{moves_given}
use Rattle.dg_strategy.proofs.Turned.{strategy_turn}
use Rattle.dg_strategy.proofs.playing.play.Goals as goal

pub returns : goal.returns
returns g c =
    let table = g.N.Name.table in
    let post = λ (p : Bor Multigraph) (q : Bor Vector) (m : Option Move).
    g.F.Fn.post c.args.strategy.now.choice (p, (q, tt)) m in
    let graph : IsGraph table.start.graph = (subst IsStart c.start.ensures c.graph-graph.ensures.start).graph in
    plays_as (IsTurnBy _ table) (IsStrategyTurn _ table)
    (λ x r y turn. strategy_turn _ table graph x r y
    (moves_given post c.requires.moves) turn)
    table c.args.turns c.args.seat.now c.play_turns.new.seat c.play_turns.result c.play_turns.ensures
