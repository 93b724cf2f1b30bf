use Rattle.dg_table.proofs.Turning.{barred_turn}
use Rattle.dg_table.proofs.held.Held.turn.Goals as goal

pub returns-in-Err-clause-asked : goal.returns-in-Err-clause-asked
returns-in-Err-clause-asked g c =
    barred_turn g.F.FnMut c.args.choose.now g.N.Name.table c.args.self.now c.args.seat.now _ c.in-Err.ensures.stands
    c.in-Err.ensures.barred
