use Rattle.dg_game.proofs.Common.{sym, ◌∙◌}
use Rattle.dg_game.proofs.schedule.Rehearsal.q.Goals as goal

pub returns-clause-q : goal.returns-clause-q
returns-clause-q c = let (o, H, steps, playing) = c.requires in playing.q ∙ sym playing.leads.q

pub returns-clause-vertex : goal.returns-clause-vertex
returns-clause-vertex c =
    let (o, H, steps, playing) = c.requires in
    rw (playing.q ∙ sym playing.leads.q) c.position-position.ensures.state.vertex
