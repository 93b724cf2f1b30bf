use Rattle.dg_analyst.proofs.Common.{◌≡◌, refl, ap, LookView}
use Rattle.dg_analyst.proofs.reckoning.try_rank_ungated.Goals as goal

pub returns-in-Err-clause-tried : goal.returns-in-Err-clause-tried
returns-in-Err-clause-tried g c =
    let shown : c.look.inside.shown ≡ c.args.look.shown = ap (λ (x : LookView). x.shown) c.look.view_is in
    (refl, rw shown at c.in-Err.ensures.1)
