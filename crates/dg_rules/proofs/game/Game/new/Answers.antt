use Rattle.dg_rules.proofs.StateLaws.{start_leads}
use Rattle.dg_rules.proofs.game.Game.new.Goals as goal

pub returns : goal.returns
returns c = rw (c.graph.ensures.graph, c.q.ensures, c.divisor.ensures)
    (start_leads c.args.start.now c.zero.result c.graph.ensures.start.size c.graph.ensures.start.divisor c.zero.ensures.entries)
