use Rattle.dg_sweep.proofs.Common.{sym}
use Rattle.dg_sweep.proofs.workers.text_of_piece.Goals as goal

pub returns : goal.returns
returns c =
    let (test, here, within, (less, is), later) = c.in_ok-answered.ensures.lookup in (
      c.in_ok-answered.answered.now,
      (c.in_ok-get.field-0.now, less, sym here),
      c.if-answered-place.false,
      c.deref.ensures.value,
    )
