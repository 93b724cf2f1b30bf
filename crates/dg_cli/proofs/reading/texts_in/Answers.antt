use Rattle.dg_cli.proofs.Common.{◌∙◌, found_of, raw_values-rows}
use Rattle.dg_cli.proofs.reading.texts_in.Goals as goal

pub returns : goal.returns
returns c = c.get_strs.ensures ∙ raw_values-rows (found_of c.args.inner.now) c.args.name.now
