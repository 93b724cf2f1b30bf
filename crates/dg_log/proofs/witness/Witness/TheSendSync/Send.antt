-- A `Witness` holds the name of a cell and a value that no thread has to itself.
use Rattle.dg_log.proofs.Common.{RattleType, IsSend, the_row}

pub send : (T : RattleType) → IsSend (the_row T)
send T = record { owned = λ k vs. ((λ vss. (tt, ((λ uss. (tt, tt)), tt))), tt); leaving = λ k d w. tt }
