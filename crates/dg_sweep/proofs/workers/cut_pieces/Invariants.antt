-- The pieces so far end lines, and they and the rest are the bytes; each turn leaves a shorter rest.
use Rattle.dg_sweep.proofs.Common.{◌≡◌, ◌++◌, length, flat_map, All, EndsWithNewline}
use Rattle.dg_sweep.proofs.workers.cut_pieces.Given as goal

abbrev pub invariant-loop-piece : goal.invariant-loop-piece
invariant-loop-piece l =
    All (λ piece. EndsWithNewline piece.now) l.pieces.items × (l.bytes ≡ flat_map (λ piece. piece.now) l.pieces.items ++ l.rest)

abbrev pub decreases-loop-piece : goal.decreases-loop-piece
decreases-loop-piece l = length l.rest
