use Rattle.dg_sweep.proofs.Common.{rules, map, IsAnswered}
use Rattle.dg_sweep.proofs.Pieces.{all_and_one, piece_at}
use Rattle.dg_sweep.specs.Kinds.{answers_of}
use Rattle.dg_sweep.proofs.workers.answer_pieces.Goals as goal

pub loop-preserved : goal.loop-preserved
loop-preserved g c =
    all_and_one (IsAnswered (answers_of c.args.context.now.kind.now) (map (λ piece. piece.now) c.args.pieces.now))
    c.loop.done.items c.push.new.self.items c.in_ok-answered.answered c.loop.invariant
    (piece_at _ c.args.pieces.now c.fetch_add-place.result c.in_ok-answered.answered.place _ c.in_ok-answered.answered.text.items
    (search rules) c.in_ok-answered.ensures.place c.in_ok-answered.ensures.text)
    c.in-Ok.ensures.items
