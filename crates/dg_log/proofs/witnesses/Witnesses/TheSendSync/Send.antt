-- A `Witnesses` holds names of cells and values that no thread has to itself.
use Rattle.dg_log.proofs.Common.{RattleType, IsSend}
use Rattle.dg_log.specs.contracts.witnesses.Witnesses.{the_row}
use Rattle.dg_log.proofs.AllNoted.{all_keyless}

pub send : (T : RattleType) → IsSend (the_row T)
send T =
    record { owned = λ f vs. ((λ vss. (tt, ((λ uss. (tt, tt)), tt))), all_keyless T f.items); leaving = λ k d w. tt }
