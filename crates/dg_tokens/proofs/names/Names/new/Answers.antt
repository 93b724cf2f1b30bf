use Rattle.dg_tokens.proofs.Common.{arith}
use Rattle.dg_tokens.proofs.NamesLaws.{AreNames-nil}
use Rattle.dg_tokens.proofs.names.Names.new.Goals as goal

pub invariant_of-result : goal.invariant_of-result
invariant_of-result c = (
  omega arith,
  rw c.new.ensures.empty AreNames-nil,
  rw c.new.ensures.empty (λ v other below. absurd (omega arith)),
)
