-- All lines but those of the rest are answered; each turn reads a shorter rest.
use Rattle.dg_sweep.proofs.Common.{length}
use Rattle.dg_sweep.proofs.Taken.{IsSoFar}
use Rattle.dg_sweep.specs.Kinds.{answers_of}
use Rattle.dg_sweep.proofs.taking.answer_lines.Given as goal

abbrev pub invariant-lines : goal.invariant-lines
invariant-lines l = IsSoFar (answers_of l.kind) l.bytes l.rest l.fn.text.items l.text.items

abbrev pub decreases-lines : goal.decreases-lines
decreases-lines l = length l.rest
