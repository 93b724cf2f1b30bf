use Rattle.dg_session.proofs.Common.{◌≡◌, ◌≤◌, length, true, rules, tests}
use Rattle.dg_session.proofs.Cutting.{cuts_last}
use Rattle.dg_session.proofs.Going.{says_all, says_still, says_line, says_over, halts_line, more_fits, takes_all, takes_halts, takes_over}
use Rattle.dg_session.proofs.taking.take.Goals as goal

pub returns-in-Err-clause-taken : goal.returns-in-Err-clause-taken
returns-in-Err-clause-taken g c = takes_over (λ none. absurd none) _ c.in-Err.ensures

pub returns-in-Ok-end_line-clause-taken : goal.returns-in-Ok-end_line-clause-taken
returns-in-Ok-end_line-clause-taken g c =
    let says = says_all c.in-Ok.ensures in
    let pending = c.take_bytes.new.progress.pending.items in
    let some : 1 ≤ length pending = search (rules, tests) in
    let over : c.args.is_over ≡ true = search (rules, tests) in
    let line = c.in-Ok-end_line.ensures in
    takes_all (says_line says (cuts_last pending over says.goes.ready.line some) (more_fits says.goes.ready some)
    line.handled.1 line.handled.2 line.pending line.count)

pub returns-in-Err-end_line-clause-taken : goal.returns-in-Err-end_line-clause-taken
returns-in-Err-end_line-clause-taken g c =
    let says = says_all c.in-Ok.ensures in
    let pending = c.take_bytes.new.progress.pending.items in
    let some : 1 ≤ length pending = search (rules, tests) in
    let over : c.args.is_over ≡ true = search (rules, tests) in
    let line = c.in-Err-end_line.ensures.handled in
    takes_halts (says_over (λ none. absurd none) (says_still says line.1))
    (halts_line c.in-Err-end_line.end (cuts_last pending over says.goes.ready.line some) (more_fits says.goes.ready some) line.0)
