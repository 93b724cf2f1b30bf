use Rattle.dg_session.proofs.Common.{◌≡◌, ◌∙◌, refl, arith, chunk_size, read_chunk, rules, tests}
use Rattle.dg_session.proofs.Going.{taken_all}
use Rattle.dg_session.proofs.SessionLaws.{so_far_new, so_far_more, session_reads, session_ends, session_halts, written_ok, said_whole, fewer_left}
use Rattle.dg_session.proofs.serving.serve_reads.Goals as goal

pub reads-init : goal.reads-init
reads-init g c = (rw c.requires.begins (so_far_new c.requires.some), c.requires.heard, c.requires.buffer, refl)

pub returns-in_default-clause-session : goal.returns-in_default-clause-session
returns-in_default-clause-session g c = session_reads c.reads.invariant.0 (c.in_default.ensures.kept refl)

pub returns-in_default-clause-read : goal.returns-in_default-clause-read
returns-in_default-clause-read g c e = c.in_default.ensures.failed refl

pub returns-in_default-clause-noted : goal.returns-in_default-clause-noted
returns-in_default-clause-noted g c differ = absurd (differ refl)

pub returns-in-Err-clause-noted : goal.returns-in-Err-clause-noted
returns-in-Err-clause-noted g c differ = c.in-Some.ensures.noted ∙ c.reads.invariant.3

pub returns-then-size-eq0-clause-noted : goal.returns-then-size-eq0-clause-noted
returns-then-size-eq0-clause-noted g c differ = c.in-Some.ensures.noted ∙ c.reads.invariant.3

pub returns-in_default-clause-write : goal.returns-in_default-clause-write
returns-in_default-clause-write g c e = absurd cc

pub returns-in-Err-clause-session : goal.returns-in-Err-clause-session
returns-in-Err-clause-session g c =
    let size = chunk_size c.in-Some.size c.deref.result.now c.read_some.new.buffer.items c.deref.ensures.value
    c.in-Some.ensures.bound in
    let room = c.read_some.ensures.size ∙ c.reads.invariant.2 in
    let takes = c.take-taken.ensures.taken in
    session_halts c.reads.writer c.write_said.new.writer c.reads.invariant.0 (λ over.
    let zero : c.in-Some.size ≡ 0 = search (rules, tests) in
    c.in-Some.ensures.end zero (omega (arith, c.reads.invariant.2)))
    (read_chunk _ _ _ _ _ c.deref.ensures.value c.in-Some.ensures.bytes) takes
    (λ write. omega (arith, size, c.in-Some.ensures.bound, room))
    (c.in-Err.ensures.written takes.says.text (said_whole _ c.reads.invariant.1 takes.says.grown))

pub returns-then-size-eq0-clause-session : goal.returns-then-size-eq0-clause-session
returns-then-size-eq0-clause-session g c =
    let zero = c.if-size-eq0.true in
    let takes = c.take-taken.ensures.taken in
    let written = c.in-Ok.ensures.written takes.says.text (said_whole _ c.reads.invariant.1 takes.says.grown) in
    let is = (written_ok c.take-taken.result takes.says.text c.reads.writer c.write_said.new.writer written).0 in
    session_ends c.reads.writer c.write_said.new.writer c.reads.invariant.0 (λ over.
    c.in-Some.ensures.end zero (omega (arith, c.reads.invariant.2)))
    (read_chunk _ _ _ _ _ c.deref.ensures.value c.in-Some.ensures.bytes) takes (search (rules, tests, zero))
    ((rw is at c.take-taken.ensures.pending) (search (rules, tests, zero))) written

pub reads-preserved : goal.reads-preserved
reads-preserved g c =
    let takes = c.take-taken.ensures.taken in
    let (is, written) = written_ok c.take-taken.result takes.says.text c.reads.writer c.write_said.new.writer
    (c.in-Ok.ensures.written takes.says.text (said_whole _ c.reads.invariant.1 takes.says.grown)) in (
      so_far_more c.reads.invariant.0 (read_chunk _ _ _ _ _ c.deref.ensures.value c.in-Some.ensures.bytes)
          (taken_all (λ over. let zero : c.in-Some.size ≡ 0 = search (rules, tests) in absurd (c.if-size-eq0.false zero))
          c.take-taken.result takes is) written,
      c.in-Ok.ensures.cleared,
      c.read_some.ensures.size ∙ c.reads.invariant.2,
      c.in-Some.ensures.noted ∙ c.reads.invariant.3,
    )

pub reads-smaller : goal.reads-smaller
reads-smaller g c =
    let size = chunk_size c.in-Some.size c.deref.result.now c.read_some.new.buffer.items c.deref.ensures.value
    c.in-Some.ensures.bound in
    let takes = c.take-taken.ensures.taken in
    let (is, written) = written_ok c.take-taken.result takes.says.text c.reads.writer c.write_said.new.writer
    (c.in-Ok.ensures.written takes.says.text (said_whole _ c.reads.invariant.1 takes.says.grown)) in
    fewer_left c.reads.invariant.0.says.goes.ready
    (taken_all (λ over. let zero : c.in-Some.size ≡ 0 = search (rules, tests) in absurd (c.if-size-eq0.false zero))
    c.take-taken.result takes is) (omega (arith, size, c.if-size-eq0.false))
