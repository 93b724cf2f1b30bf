-- A `Claim` names no thread's key.
use Rattle.dg_log.proofs.Common.{IsSend}
use Rattle.dg_log.specs.contracts.roll.Claim.{the_row}
use Rattle.dg_log.proofs.Rolls.{claim_keyless}

pub send : IsSend the_row
send = record {
  owned = λ c vs. ((λ vss. (tt, ((λ uss. (tt, tt)), tt))), claim_keyless c.names c.place c.tally);
  leaving = λ k d w. tt;
}
