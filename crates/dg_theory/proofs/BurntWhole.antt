-- Burning in any order.
--   burns_to_reduced   a divisor from which all vertices burn, in any order, is reduced
use Rattle.dg_theory.proofs.Common.{OrderShowsReduced}
use Rattle.dg_theory.proofs.BurningOrder.{burnt_of_set}

pub burns_to_reduced : OrderShowsReduced
burns_to_reduced g q D l graph vertex solvent burns = record {
  no_debt = solvent;
  none_fires = λ S without u below member. burnt_of_set g q D l S u burns.first burns.next without
      (burns.all u below) member;
}
