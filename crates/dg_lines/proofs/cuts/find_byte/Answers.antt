use Rattle.dg_lines.proofs.Common.{refl, arith}
use Rattle.dg_lines.proofs.Blocks.{place-first}
use Rattle.dg_lines.proofs.cuts.find_byte.Goals as goal

pub returns-then-places-ne0 : goal.returns-then-places-ne0
returns-then-places-ne0 c =
    place-first c.args.at _ c.byte_mask-places.result c.args.bytes.now c.if-bytes-lt32.false
    c.byte_mask-places.ensures (omega arith) refl
