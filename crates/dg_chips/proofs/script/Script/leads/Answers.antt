use Rattle.dg_chips.proofs.script.Script.leads.Goals as goal

pub returns : goal.returns
returns c = rw c.entries.ensures.entries at c.leads.ensures
