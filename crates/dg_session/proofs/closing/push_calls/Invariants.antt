use Rattle.std.proofs.Common.{◌≡◌, ◌++◌, take}
use Rattle.dg_session.specs.Printed.{calls_text}
use Rattle.dg_session.proofs.closing.push_calls.Given as goal

abbrev pub invariant-seats : goal.invariant-seats
invariant-seats l = l.text.items ≡ l.fn.text.items ++ calls_text 1 (take l.place l.calls)
