use Rattle.dg_table.proofs.Entries.{none_of, own_more, other_more, entries_stand, own_alone}
use Rattle.dg_table.proofs.laws.law_of_seats.Goals as goal

pub returns-clause-none : goal.returns-clause-none
returns-clause-none c = none_of

pub returns-clause-own : goal.returns-clause-own
returns-clause-own c = own_more

pub returns-clause-other : goal.returns-clause-other
returns-clause-other c = other_more

pub returns-clause-stand : goal.returns-clause-stand
returns-clause-stand c = entries_stand

pub returns-clause-alone : goal.returns-clause-alone
returns-clause-alone c = own_alone
