use Rattle.dg_lines.proofs.Blocks.{place-found}
use Rattle.dg_lines.proofs.cuts.find_far_byte.Goals as goal

pub returns : goal.returns
returns c = place-found c.args.at c.args.bytes.now c.memchr.result c.memchr.ensures
