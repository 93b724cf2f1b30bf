use Rattle.dg_burn.proofs.Lanes.{marks-few, marked}
use Rattle.dg_burn.proofs.fire.hot.Goals as goal

pub overflow_cast-result : goal.overflow_cast-result
overflow_cast-result c = record { fits = marks-few c.args.heat c.fits-heat.0 }

pub returns : goal.returns
returns c = λ v. marked c.args.heat v c.fits-heat.0
