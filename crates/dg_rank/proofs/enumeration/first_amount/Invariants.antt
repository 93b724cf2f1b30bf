use Rattle.dg_rank.proofs.Unranking.{IsSought}
use Rattle.dg_rank.proofs.enumeration.first_amount.Given as goal

abbrev pub invariant-loop-amount : goal.invariant-loop-amount
invariant-loop-amount l = IsSought l.n l.k l.i l.amount l.rest
