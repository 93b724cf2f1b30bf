use Rattle.dg_system.proofs.Growing.{more_written}
use Rattle.dg_system.proofs.output.write_and_flush.Goals as goal

pub writes-preserved : goal.writes-preserved
writes-preserved g c =
    more_written _ _ _ c.args.text.now c.writes.at c.in-Ok.size c.writes.invariant.0 c.in-Ok.ensures.bound
    c.writes.invariant.1 c.in-Ok.ensures.bytes
