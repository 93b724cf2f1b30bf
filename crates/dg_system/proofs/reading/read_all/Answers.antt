use Rattle.dg_system.proofs.Common.{arith, take_all, take_more}
use Rattle.dg_system.proofs.OneByOne.{held_pushed, unread_taken, short_of}
use Rattle.dg_system.proofs.reading.read_all.Goals as goal

pub returns-in-Err-clause-refused : goal.returns-in-Err-clause-refused
returns-in-Err-clause-refused g c =
    unread_taken (g.S.Sources.held c.args.sources.now) c.args.names.now c.names.name-index _ _ c.in-Err.fault
    (take_more c.args.names.now c.names.name-index _ c.names-test.true) c.names.invariant c.in-Err.ensures.refused

pub returns-in-Err-push-clause-refused : goal.returns-in-Err-push-clause-refused
returns-in-Err-push-clause-refused g c =
    short_of (g.S.Sources.held c.args.sources.now) c.args.names.now c.names.name-index _ _ c.in-Ok.file.items
    (take_more c.args.names.now c.names.name-index _ c.names-test.true) c.names.invariant c.in-Ok.ensures.read

pub names-preserved : goal.names-preserved
names-preserved g c =
    held_pushed (g.S.Sources.held c.args.sources.now) c.args.names.now c.names.name-index _ c.names.all.items _
    c.in-Ok.file
    c.in-Ok-push.ensures.items (take_more c.args.names.now c.names.name-index _ c.names-test.true) c.names.invariant
    c.in-Ok.ensures.read

pub returns-clause-read : goal.returns-clause-read
returns-clause-read g c =
    rw (take_all c.names.name-index c.args.names.now (omega (arith, c.names-test.false))) at c.names.invariant
