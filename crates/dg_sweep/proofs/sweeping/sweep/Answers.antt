use Rattle.dg_sweep.proofs.Common.{[], refl}
use Rattle.dg_sweep.proofs.Swept.{swept_none, sweep_unsaid}
use Rattle.dg_sweep.proofs.sweeping.sweep.Goals as goal

pub returns-in_default-clause-swept : goal.returns-in_default-clause-swept
returns-in_default-clause-swept g c =
    sweep_unsaid (swept_none _ c.args.reader.now.remaining c.args.writer.now.contents [] refl)
