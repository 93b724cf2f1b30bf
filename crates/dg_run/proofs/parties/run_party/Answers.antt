use Rattle.dg_run.proofs.Common.{rules, inl, inr, on_ok_weaker, IfErr-weaker}
use Rattle.dg_run.proofs.Serving.{may_play}
use Rattle.dg_run.proofs.parties.run_party.Goals as goal

pub play_scripts-requires-after_bounds : goal.play_scripts-requires-after_bounds
play_scripts-requires-after_bounds g c κs outlives =
    rw c.as_slice.ensures.value
    (may_play (g.S.Sources.held c.args.sources.now) c.len.result c.args.task.now.scripts.items c.in-Ok.read.1.items
    c.in-Ok.ensures.read.1 (search rules) (search rules) (search rules))

pub returns-clause-done : goal.returns-clause-done
returns-clause-done g c = on_ok_weaker c.play_scripts.result
    (λ played. played (g.S.Sources.held c.args.sources.now) (rw c.as_slice.ensures.value c.in-Ok.ensures.read))
    c.play_scripts.ensures.done

pub returns-clause-refused : goal.returns-clause-refused
returns-clause-refused g c = IfErr-weaker c.play_scripts.result _ _ (λ fault refused.
    elim (refused (g.S.Sources.held c.args.sources.now) (rw c.as_slice.ensures.value c.in-Ok.ensures.read)) [
      | inl wanting ↦ inr (inr (inl (search rules, wanting.0, wanting.1)))
      | inr some ↦ inr (inr (inr some))
    ]) c.play_scripts.ensures.refused
