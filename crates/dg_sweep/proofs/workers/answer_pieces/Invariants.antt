-- What is done answers pieces.
use Rattle.dg_sweep.proofs.Common.{map, All, IsAnswered}
use Rattle.dg_sweep.specs.Kinds.{answers_of}
use Rattle.dg_sweep.proofs.workers.answer_pieces.Given as goal

abbrev pub invariant-loop : goal.invariant-loop
invariant-loop g l =
    All (IsAnswered (answers_of l.context.kind.now) (map (λ piece. piece.now) l.pieces)) l.done.items
