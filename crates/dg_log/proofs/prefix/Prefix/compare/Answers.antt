use Rattle.dg_log.proofs.Common.{length, arith, inl, inr, cases_lt}
use Rattle.dg_log.proofs.ReceiptSets.{began_seen}
use Rattle.dg_log.proofs.prefix.Prefix.compare.Goals as goal

pub returns : goal.returns
returns g c =
    elim (cases_lt (length c.args.other.now) (length c.args.self.now)) [
      | inl fewer ↦ inr (began_seen _ _ _ c.other.view_is c.self.view_is c.agree-2.ensures c.other.invariant.1
          c.self.invariant.1 (omega arith))
      | inr more ↦ inl (began_seen _ _ _ c.self.view_is c.other.view_is c.agree.ensures c.self.invariant.1
          c.other.invariant.1 (omega arith))
    ]
