use Rattle.dg_session.proofs.Common.{one_cutting}
use Rattle.dg_session.proofs.Cutting.{plain}
use Rattle.dg_session.proofs.laws.cut_one_way.Goals as goal

pub returns : goal.returns
returns c = one_cutting plain
