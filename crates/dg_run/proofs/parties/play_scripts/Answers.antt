use Rattle.dg_run.proofs.Common.{inl, inr, on_ok_weaker, IfErr-weaker, Shortage, Log}
use Rattle.dg_run.proofs.Serving.{party_on, refused_lent, as_it_was}
use Rattle.dg_run.proofs.parties.play_scripts.Goals as goal

pub returns-clause-done : goal.returns-clause-done
returns-clause-done g c = on_ok_weaker c.print_party.result (λ printed held known. record {
  ends = c.in-Ok.played.ends.items;
  text = c.in-Ok.played.text.items;
  party = party_on held c.args.task.now _ _ c.args.scripts.now _ _ known.0 known.1
      (rw (← c.start.ensures, ← c.names.ensures.value) c.in-Ok.ensures.played);
  whole = printed.0;
  printed = printed.1;
}) c.print_party.ensures.whole

pub returns-clause-refused : goal.returns-clause-refused
returns-clause-refused g c = IfErr-weaker c.print_party.result _ _ (λ fault printed held known. inr (record {
  ends = c.in-Ok.played.ends.items;
  text = c.in-Ok.played.text.items;
  party = party_on held c.args.task.now _ _ c.args.scripts.now _ _ known.0 known.1
      (rw (← c.start.ensures, ← c.names.ensures.value) c.in-Ok.ensures.played);
  printed = printed;
})) c.print_party.ensures.refused

pub returns-in-Err-Shortage-clause-refused : goal.returns-in-Err-Shortage-clause-refused
returns-in-Err-Shortage-clause-refused g c held known = inl (
  refused_lent held c.args.task.now _ (Shortage c.in-Err-Shortage.shortage) c.start.ensures c.names.ensures.value known.0
      known.1 (rw c.in-Err-Shortage.field-0-is at c.in-Err-Shortage.ensures.refused),
  as_it_was c.args.output.now.contents,
)

pub returns-in-Err-Log-clause-refused : goal.returns-in-Err-Log-clause-refused
returns-in-Err-Log-clause-refused g c held known = inl (
  refused_lent held c.args.task.now _ Log c.start.ensures c.names.ensures.value known.0 known.1
      (rw c.in-Err-Log.field-0-is at c.in-Err-Log.ensures.refused),
  as_it_was c.args.output.now.contents,
)
