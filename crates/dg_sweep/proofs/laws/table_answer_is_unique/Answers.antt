use Rattle.dg_sweep.proofs.OneAnswer.{tables_have_one_answer}
use Rattle.dg_sweep.proofs.laws.table_answer_is_unique.Goals as goal

pub returns-clause-one : goal.returns-clause-one
returns-clause-one c = tables_have_one_answer c.file_meaning_is_unique.ensures.one

pub returns-in_err-file_meaning_is_unique-clause-one : goal.returns-in_err-file_meaning_is_unique-clause-one
returns-in_err-file_meaning_is_unique-clause-one c = tables_have_one_answer c.file_meaning_is_unique.ensures.one

pub returns-in_err-answer_line-clause-one : goal.returns-in_err-answer_line-clause-one
returns-in_err-answer_line-clause-one c = tables_have_one_answer c.file_meaning_is_unique.ensures.one
