use Rattle.dg_sweep.proofs.Common.{◌≡◌, ◌<◌, ◌∙◌, length, take, refl, arith, chunk_size, read_chunk, read_nothing, READ_SIZE}
use Rattle.dg_sweep.proofs.Swept.{swept_none, swept_more, sweep_reads, sweep_unsaid, sweep_halts, sweep_over}
use Rattle.dg_sweep.proofs.sweeping.sweep_reads.Goals as goal

pub reads-init : goal.reads-init
reads-init g c = (
  swept_none _ c.args.reader.now.remaining c.args.writer.now.contents
      c.args.progress.now.pending.items c.requires.pending,
  c.requires.size,
  refl,
)

pub returns-in_default-clause-swept : goal.returns-in_default-clause-swept
returns-in_default-clause-swept g c =
    sweep_reads c.reads.invariant.0 (c.in_default.ensures.kept refl)

pub returns-then-size-eq0-clause-swept : goal.returns-then-size-eq0-clause-swept
returns-then-size-eq0-clause-swept g c =
    let room : 0 < length c.reads.buffer.items = omega (arith, c.reads.invariant.1) in
    sweep_over c.reads.invariant.0 c.finish.result
    (read_nothing _ _ _ _ c.if-size-eq0.true c.in-Some.ensures.bytes)
    (c.in-Some.ensures.end c.if-size-eq0.true room) c.finish.ensures.passed

pub reads-preserved : goal.reads-preserved
reads-preserved g c = (
  swept_more c.reads.invariant.0 (take c.in-Some.size c.deref.result.now)
      c.feed.new.self.pending.items
      (read_chunk _ _ _ _ _ c.deref.ensures.value c.in-Some.ensures.bytes) c.in-Ok.ensures.passed,
  c.in-Some.ensures.size ∙ c.reads.invariant.1,
  c.in-Some.ensures.noted ∙ c.reads.invariant.2,
)

pub returns-in-Err-clause-swept : goal.returns-in-Err-clause-swept
returns-in-Err-clause-swept g c =
    let room : length c.read_some.new.buffer.items ≡ READ_SIZE =
    c.in-Some.ensures.size ∙ c.reads.invariant.1 in
    let size = chunk_size c.in-Some.size c.deref.result.now c.read_some.new.buffer.items c.deref.ensures.value
    c.in-Some.ensures.bound in
    sweep_halts c.reads.invariant.0 (take c.in-Some.size c.deref.result.now)
    c.feed.new.self.pending.items c.in-Err.end
    (read_chunk _ _ _ _ _ c.deref.ensures.value c.in-Some.ensures.bytes)
    (omega (arith, size, c.in-Some.ensures.bound, room)) c.in-Err.ensures.passed

pub returns-clause-swept : goal.returns-clause-swept
returns-clause-swept g c = sweep_unsaid c.reads.invariant.0

pub returns-in_default-clause-noted : goal.returns-in_default-clause-noted
returns-in_default-clause-noted g c differ = absurd (differ refl)

pub returns-then-size-eq0-clause-noted : goal.returns-then-size-eq0-clause-noted
returns-then-size-eq0-clause-noted g c differ = c.in-Some.ensures.noted ∙ c.reads.invariant.2

pub returns-in-Err-clause-noted : goal.returns-in-Err-clause-noted
returns-in-Err-clause-noted g c differ = c.in-Some.ensures.noted ∙ c.reads.invariant.2

pub returns-clause-noted : goal.returns-clause-noted
returns-clause-noted g c differ = c.reads.invariant.2
