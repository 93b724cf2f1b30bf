use Rattle.dg_rank.proofs.Common.{rules, ◌+◌, ◌≤◌, ◌<◌, arith, piece_start}
use Rattle.dg_rank.proofs.PieceLosses.{piece_within, piece_ends}
use Rattle.dg_rank.proofs.pieces.+first_loss_among+fn-first_loss_among-later.Goals as goal

pub returns-in-Ok-later : goal.returns-in-Ok-later
returns-in-Ok-later g t c =
    let s = c.args.search.now in
    let some : 0 < s.workers = omega arith in
    let inside : c.args.piece + 1 ≤ s.workers = omega arith in
    c.earlier_loss.ensures s (piece_start s c.args.piece) (piece_start s (c.args.piece + 1)) s.count
    (piece_ends s c.args.piece some) (piece_within s (c.args.piece + 1) inside) (search rules) (search rules)
