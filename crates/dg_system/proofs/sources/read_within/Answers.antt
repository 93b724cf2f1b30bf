use Rattle.dg_system.proofs.Common.{rules, ◌<◌, length}
use Rattle.dg_system.proofs.Limited.{whole_of}
use Rattle.dg_system.proofs.sources.read_within.Goals as goal

pub returns-clause-all : goal.returns-clause-all
returns-clause-all g c =
    let few : length c.read_to_end.new.buf.items < 1048577 = search rules in
    whole_of g.I.Read.remaining c.args.reader c.take.result.inner c.take.result.limit 1048577 c.new-bytes.result.items
    c.read_to_end.new.buf.items c.take.ensures.inner c.take.ensures.limit c.new-bytes.ensures.items
    c.in_ok-read_to_end.ensures.bytes few
