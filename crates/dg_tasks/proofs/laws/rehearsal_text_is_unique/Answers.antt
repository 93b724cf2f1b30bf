use Rattle.dg_tasks.proofs.OneText.{legal_have_one_text, rehearsal_text_is_unique, greedy_has_one_text}
use Rattle.dg_tasks.proofs.laws.rehearsal_text_is_unique.Goals as goal

pub returns-clause-legal : goal.returns-clause-legal
returns-clause-legal c = legal_have_one_text

pub returns-clause-rehearsals : goal.returns-clause-rehearsals
returns-clause-rehearsals c = rehearsal_text_is_unique

pub returns-clause-greedy : goal.returns-clause-greedy
returns-clause-greedy c = greedy_has_one_text
