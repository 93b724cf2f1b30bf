use Rattle.dg_analyst.proofs.Common.{◌≡◌, refl, ap, LookView}
use Rattle.dg_analyst.proofs.reckoning.try_rank.Goals as goal

pub returns-in-Err : goal.returns-in-Err
returns-in-Err g c =
    let shown : c.look.inside.shown ≡ c.args.look.shown = ap (λ (x : LookView). x.shown) c.look.view_is in
    (refl, rw shown at c.in-Err.ensures)
