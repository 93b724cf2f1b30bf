use Rattle.std.specs.Borrow.{Bor}
use Rattle.dg_theory.specs.Multigraph.{Multigraph}
use Rattle.dg_strategy.proofs.Common.{Option, Vector, Move, subst, IsGraph, IsStart, IsTurnBy, IsSettlerTurn}
use Rattle.dg_strategy.proofs.Gained.{plays_as}
use Rattle.dg_strategy.proofs.Kept.{settles_given}
use Rattle.dg_strategy.proofs.Turned.{settler_turn}
use Rattle.dg_strategy.proofs.playing.settle_out.Goals as goal

pub returns : goal.returns
returns g c =
    let table = g.N.Name.table in
    let post = λ (p : Bor Multigraph) (q : Bor Vector) (m : Option Move).
    g.F.Fn.post c.args.settler.now.choice (p, (q, tt)) m in
    let graph : IsGraph table.start.graph = (subst IsStart c.start.ensures c.graph-graph.ensures.start).graph in
    plays_as (IsTurnBy _ table) (IsSettlerTurn _ table)
    (λ x r y turn. settler_turn _ table graph x r y
    (settles_given post c.requires.moves c.requires.claims) turn)
    table c.args.turns c.args.seat.now c.play_turns.new.seat c.play_turns.result c.play_turns.ensures
