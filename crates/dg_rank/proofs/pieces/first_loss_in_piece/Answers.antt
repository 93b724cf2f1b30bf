use Rattle.dg_rank.proofs.Common.{◌+◌, arith}
use Rattle.dg_rank.proofs.PieceLosses.{piece_ends, piece_within}
use Rattle.dg_rank.proofs.pieces.first_loss_in_piece.Goals as goal

pub first_loss_between-requires-clause-order : goal.first_loss_between-requires-clause-order
first_loss_between-requires-clause-order g c =
    let ends = piece_ends c.args.search.now c.enter-piece.result (omega (arith, c.requires.workers)) in
    omega (arith, c.piece_start.ensures, c.piece_start-2.ensures)

pub first_loss_between-requires-clause-within : goal.first_loss_between-requires-clause-within
first_loss_between-requires-clause-within g c =
    let within = piece_within c.args.search.now (c.enter-piece.result + 1)
    (omega (arith, c.enter-piece.ensures, c.requires.piece)) in
    omega (arith, c.piece_start-2.ensures)
