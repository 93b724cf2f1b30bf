use Rattle.dg_lines.proofs.Common.{◌==◌, take, length-take-le, lit≤, w8, bitmask_splat}
use Rattle.dg_lines.proofs.cuts.byte_mask.Goals as goal

pub returns : goal.returns
returns c = bitmask_splat w8 (λ a b. a == b) (take 32 c.args.bytes.now) 32 c.args.at
    (length-take-le 32 c.args.bytes.now c.requires) (lit≤ tt)
