-- The text has the answers to the pieces so far.
use Rattle.dg_sweep.proofs.Common.{◌≡◌, ◌++◌, ℕ, List, flat_map, take, LeadsPiece}
use Rattle.dg_sweep.specs.Kinds.{answers_of}
use Rattle.dg_sweep.proofs.workers.push_answers.Given as goal

abbrev pub invariant-loop-place : goal.invariant-loop-place
invariant-loop-place g l =
    (said : List ℕ) × LeadsPiece (answers_of l.context.kind.now) (flat_map (λ piece. piece.now) (take l.place
    l.pieces)) said
    × (l.text.items ≡ l.fn.text.items ++ said)
