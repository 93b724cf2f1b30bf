-- All but the rest is taken at each turn.
use Rattle.dg_session.proofs.Common.{◌<◌, ◌≤◌, ◌+◌, List, ℕ, length, subst, append-nil, ◌∙◌, nil_from_length, rules, tests, RefusesPart, MAX_LINE, MAX_LINES, part_plain, part_front, part_whole, part_line, line_shorter}
use Rattle.dg_session.proofs.Cutting.{cuts_line}
use Rattle.dg_session.proofs.Going.{says_none, says_still, says_part, says_line, halts_part, halts_line, line_with, takes_all, takes_halts}
use Rattle.dg_session.proofs.taking.take_bytes.Goals as goal

pub parts-init : goal.parts-init
parts-init g c = says_none c.requires

pub returns-in-Err : goal.returns-in-Err
returns-in-Err g c =
    let part = c.cut.result.0.now in
    let (more, whole) = part_front c.parts.rest.now part c.cut.ensures.before in
    let some : 1 ≤ length c.parts.rest.now = search (rules, tests) in
    takes_halts c.parts.invariant
    (halts_part _ ⊥ part more c.in-Err.end c.parts.invariant.goes.ready whole
    (part_plain c.parts.rest.now part c.cut.ensures.before) some
    (subst (λ (l : List ℕ). RefusesPart l c.parts.progress.count part c.in-Err.end) c.deref.ensures.value
    c.in-Err.ensures.refused))

pub returns-in-Ok-extend_from_slice : goal.returns-in-Ok-extend_from_slice
returns-in-Ok-extend_from_slice g c =
    let part = c.cut.result.0.now in
    let whole = part_whole c.parts.rest.now part c.cut.result.1 c.cut.ensures.before c.cut.ensures.after
    c.in_default.is in
    takes_all
    (says_part c.parts.invariant part c.extend_from_slice.new.self.items (whole ∙ append-nil part)
    c.in-Ok-extend_from_slice.ensures.items (part_plain c.parts.rest.now part c.cut.ensures.before)
    (subst (λ (l : List ℕ). length l + length part ≤ MAX_LINE) c.deref.ensures.value c.in-Ok.ensures.short)
    c.in-Ok.ensures.more)

pub returns-in-Err-end_line : goal.returns-in-Err-end_line
returns-in-Err-end_line g c =
    let part = c.cut.result.0.now in
    let few : c.parts.progress.count < MAX_LINES = search rules in
    let cut = part_line c.parts.rest.now part c.cut.result.1 c.in-Some.after c.cut.ensures.before c.cut.ensures.after
    c.in-Some.is in
    let is = line_with part c.parts.invariant.goes.ready (part_plain c.parts.rest.now part c.cut.ensures.before)
    (subst (λ (l : List ℕ). length l + length part ≤ MAX_LINE) c.deref.ensures.value c.in-Ok.ensures.short) in
    let (does, still) = c.in-Err-end_line.ensures.handled in
    takes_halts (says_still c.parts.invariant still)
    (halts_line c.in-Err-end_line.end (cuts_line c.parts.progress.pending.items part c.in-Some.after.now cut is) few does)

pub parts-smaller : goal.parts-smaller
parts-smaller g c =
    line_shorter c.parts.rest.now c.cut.result.0.now c.in-Some.after.now
    (part_line c.parts.rest.now c.cut.result.0.now c.cut.result.1 c.in-Some.after c.cut.ensures.before
    c.cut.ensures.after c.in-Some.is)

pub parts-preserved : goal.parts-preserved
parts-preserved g c =
    let part = c.cut.result.0.now in
    let few : c.parts.progress.count < MAX_LINES = search rules in
    let cut = part_line c.parts.rest.now part c.cut.result.1 c.in-Some.after c.cut.ensures.before c.cut.ensures.after
    c.in-Some.is in
    let is = line_with part c.parts.invariant.goes.ready (part_plain c.parts.rest.now part c.cut.ensures.before)
    (subst (λ (l : List ℕ). length l + length part ≤ MAX_LINE) c.deref.ensures.value c.in-Ok.ensures.short) in
    let line = c.in-Ok-end_line.ensures in
    says_line c.parts.invariant (cuts_line c.parts.progress.pending.items part c.in-Some.after.now cut is) few
    line.handled.1 line.handled.2 line.pending line.count

pub returns : goal.returns
returns g c =
    takes_all (rw (nil_from_length c.parts.rest.now (search (rules, tests))) at c.parts.invariant)
