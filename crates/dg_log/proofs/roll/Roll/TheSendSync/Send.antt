-- A `Roll` names no thread's key.
use Rattle.dg_log.proofs.Common.{IsSend}
use Rattle.dg_log.specs.contracts.roll.Roll.{the_row}
use Rattle.dg_log.proofs.Rolls.{roll_keyless}

pub send : IsSend the_row
send = record {
  owned = λ r vs. ((λ vss. (tt, ((λ uss. (tt, tt)), tt))), roll_keyless r.names r.tallies r.claimed);
  leaving = λ k d w. tt;
}
