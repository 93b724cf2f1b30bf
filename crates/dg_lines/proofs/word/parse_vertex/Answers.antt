-- What is the name of no vertex names none.
use Rattle.dg_lines.proofs.Common.{sym, refl, []}
use Rattle.dg_lines.proofs.Given.{unnamed_among}
use Rattle.dg_lines.proofs.word.parse_vertex.Goals as goal

pub returns-in-None : goal.returns-in-None
returns-in-None c =
    (refl, unnamed_among c.args.names.now [] [] c.args.word.now (sym c.in-None.ensures.place))
