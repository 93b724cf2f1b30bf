use Rattle.dg_sweep.proofs.Common.{EndsWithNewline}
use Rattle.dg_sweep.proofs.Pieces.{all_and_one, pieces_more}
use Rattle.dg_sweep.proofs.workers.cut_pieces.Goals as goal

pub loop-piece-preserved : goal.loop-piece-preserved
loop-piece-preserved c = (
  all_and_one (λ piece. EndsWithNewline piece.now) c.loop-piece.pieces.items c.push.new.self.items c.in-Some.piece
      c.loop-piece.invariant.0 c.in-Some.ensures.0 c.in_ok-push.ensures.items,
  pieces_more c.loop-piece.pieces.items c.push.new.self.items c.in-Some.piece c.args.bytes.now c.loop-piece.rest.now
      c.in-Some.after.now c.loop-piece.invariant.1 c.in-Some.ensures.1 c.in_ok-push.ensures.items,
)
