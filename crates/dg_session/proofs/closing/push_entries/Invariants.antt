use Rattle.std.proofs.Common.{◌≡◌, ◌++◌, take}
use Rattle.dg_session.specs.Printed.{numbered_entries_text}
use Rattle.dg_session.proofs.closing.push_entries.Given as goal

abbrev pub invariant-entries : goal.invariant-entries
invariant-entries g l =
    l.text.items ≡ l.fn.text.items ++ numbered_entries_text l.names 0 (take l.number l.audit.pen.entries)
