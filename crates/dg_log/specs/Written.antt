-- What a pen wrote.
--   Written         == the history, and whether the last entry was refused by its cell
--   nothing_written == nothing is written
--   with_entry p e  == after p the entry e is written
--   after_refusal p == after p an entry was refused
use Rattle.std.specs.Prelude.{List, [], ◌∷◌, ◌++◌, Bool, true, false}
use Rattle.dg_rules.specs.declared.entry.Entry.{Entry}

pub record Written : Type 0 where
  pub entries : List Entry
  pub stuck : Bool

abbrev pub nothing_written : Written
nothing_written = record { entries = []; stuck = false }

abbrev pub with_entry : Written → Entry → Written
with_entry p e = record { entries = p.entries ++ e ∷ []; stuck = false }

abbrev pub after_refusal : Written → Written
after_refusal p = record { entries = p.entries; stuck = true }
