use Rattle.dg_game.proofs.Common.{◌≡◌, ◌<◌, [], ◌∷◌, ◌++◌, length, length-append, slice_get, Some, arith, refl, ◌∙◌, ap, slice_get_read}
use Rattle.dg_game.proofs.RehearsalLaws.{told_err}
use Rattle.dg_game.proofs.schedule.rehearse.Goals as goal

pub loop-step-init : goal.loop-step-init
loop-step-init g c =
    let empty : c.in-Ok.history.items ≡ [] = (c.in-Ok.ensures).items in
    record {
      room = omega (arith, (c.in-Ok.ensures).capacity, c.min.ensures);
      few = omega arith;
      played = ap length empty;
      playing = rw empty (c.new-rehearsal.ensures c.args.steps.now);
    }

pub returns-in_err-play : goal.returns-in_err-play
returns-in_err-play g c =
    let within : c.loop-step.step-index < length c.args.steps.now = omega arith in
    let read : slice_get c.args.steps.now c.loop-step.step-index ≡ Some c.step-item.result =
    slice_get_read c.args.steps.now
    (length c.args.steps.now) c.loop-step.step-index c.step-item.result refl within c.step-item.is in
    told_err c.from_residual.result _ _ _ (c.from_residual.ensures.1)
    (c.in_err-play.ensures.plays.1 c.args.start.now c.loop-step.history.items c.args.steps.now
    c.loop-step.invariant.playing
    (ap (slice_get c.args.steps.now) c.loop-step.invariant.played ∙ read))

pub unwrap-requires : goal.unwrap-requires
unwrap-requires g c =
    let within : c.loop-step.step-index < length c.args.steps.now = omega arith in
    let read : slice_get c.args.steps.now c.loop-step.step-index ≡ Some c.step-item.result =
    slice_get_read c.args.steps.now
    (length c.args.steps.now) c.loop-step.step-index c.step-item.result refl within c.step-item.is in
    let (below, playing) = c.in_ok-play.ensures.plays in
    c.push.ensures.succeeds
    (omega (
      arith,
      below,
      c.loop-step.invariant.playing.leads.entries,
      c.loop-step.invariant.played,
      c.loop-step.invariant.room,
      c.loop-step.history.ok,
    ))

pub loop-step-preserved : goal.loop-step-preserved
loop-step-preserved g c =
    let items : c.push.new.self.items ≡ c.loop-step.history.items ++ c.play.new.entry ∷ [] =
    rw c.unwrap.ensures at c.push.ensures.items in
    let within : c.loop-step.step-index < length c.args.steps.now = omega arith in
    let read : slice_get c.args.steps.now c.loop-step.step-index ≡ Some c.step-item.result =
    slice_get_read c.args.steps.now
    (length c.args.steps.now) c.loop-step.step-index c.step-item.result refl within c.step-item.is in
    let (below, plays) = c.in_ok-play.ensures.plays in
    record {
      room = omega (arith, c.push.ensures.capacity, c.loop-step.invariant.room);
      few = omega (arith, below, c.loop-step.invariant.playing.leads.entries, c.loop-step.invariant.played);
      played = ap length items
          ∙ omega (
            arith,
            length-append c.loop-step.history.items (c.play.new.entry ∷ []),
            c.loop-step.invariant.played,
          );
      playing = rw items (plays c.args.start.now c.loop-step.history.items c.args.steps.now
          c.loop-step.invariant.playing
          (ap (slice_get c.args.steps.now) c.loop-step.invariant.played ∙ read));
    }
