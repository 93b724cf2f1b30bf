use Rattle.dg_cli_laws.proofs.Apart.{law}
use Rattle.dg_cli_laws.proofs.laws.meaning_is_unique.Goals as goal

pub returns : goal.returns
returns c = law
