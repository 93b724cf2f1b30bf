use Rattle.std.proofs.Common.{ℕ, ◌<◌, List, length, arith, sym, append-nil}
use Rattle.std.proofs.lemmas.List.{take_more}
use Rattle.dg_session.specs.Printed.{calls_text}
use Rattle.dg_session.proofs.Printing.{calls_step}
use Rattle.dg_session.proofs.closing.push_calls.Goals as goal

pub seats-init : goal.seats-init
unfolding calls_text
seats-init c = sym (append-nil c.args.text.now.items)

pub seats-preserved : goal.seats-preserved
seats-preserved c =
    let calls : List ℕ = c.args.calls.now in
    let within : c.seats.place < length calls = omega arith in
    calls_step calls c.seats.place _ c.args.text.now.items c.seats.text.items _
    within (take_more calls c.seats.place 0 within)
    c.seats.invariant c.in_ok-push_seat.ensures
