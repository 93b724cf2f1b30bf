use Rattle.dg_session.proofs.Common.{sym, refl, ◌∙◌}
use Rattle.dg_session.proofs.Seated.{spoken, unspoken, nobody}
use Rattle.dg_session.proofs.speaking.answer_line.Goals as goal

pub say-requires-in-Ok : goal.say-requires-in-Ok
say-requires-in-Ok g c = c.in-Ok.ensures.named

pub returns-in-Ok : goal.returns-in-Ok
returns-in-Ok g c =
    spoken _ _ c.args.seats.now c.args.kept.now c.in-Some.place _ _ _ _ _ _ _ c.in-Some.ensures.one
    c.in-Some.ensures.there c.requires.each c.tell.ensures c.follow.ensures.history (λ before made sized is few.
    c.follow.ensures.entered before made (sized ∙ sym c.calls-calls.ensures) is few) _ c.in-Ok.answer _
    c.in-Ok.ensures c.say-in-Ok.ensures

pub returns-in-Err : goal.returns-in-Err
returns-in-Err g c = (
  unspoken _ _ c.args.seats.now c.args.kept.now c.in-Some.place _ _ _ _ _ _ _ c.in-Some.ensures.one
      c.in-Some.ensures.there c.requires.each c.tell.ensures c.follow.ensures.history (λ before made sized is few.
      c.follow.ensures.entered before made (sized ∙ sym c.calls-calls.ensures) is few) c.in-Err.ensures,
  refl,
)

pub returns-in_default : goal.returns-in_default
returns-in_default g c = nobody _ _ _ _ _ (c.in_default.ensures.none refl) c.say.ensures
