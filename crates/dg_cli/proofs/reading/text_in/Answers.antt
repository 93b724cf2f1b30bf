use Rattle.dg_cli.proofs.Common.{◌∙◌, found_of, first_value-rows}
use Rattle.dg_cli.proofs.reading.text_in.Goals as goal

pub returns : goal.returns
returns c = c.get_str.ensures ∙ first_value-rows (found_of c.args.inner.now) c.args.name.now
