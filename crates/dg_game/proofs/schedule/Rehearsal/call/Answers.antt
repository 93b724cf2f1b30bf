use Rattle.dg_game.proofs.Common.{◌≡◌, ℕ, length, length-set, ap, sym, subst, ◌∙◌, GameState, LeadsTo, Rehearsal}
use Rattle.dg_game.proofs.RehearsalLaws.{called, looks_looked, looks_left}
use Rattle.dg_game.proofs.schedule.Rehearsal.call.Goals as goal
use Rattle.dg_game.proofs.schedule.Rehearsal.call.Goals.{in-Look, in_default}

pub follow-requires-clause-right : goal.follow-requires-clause-right
follow-requires-clause-right c =
    let before : ℕ → ℕ = λ i. 0 in
    (before, c.reply_to_call.ensures.here before)

pub returns : goal.returns
returns c = λ o H steps playing there. elim c.match-plain.branch [
  | in-Look w ↦
      let game : c.args.self.now.game ≡ c.match-plain.self.game = ap (λ (r : Rehearsal). r.game) (sym w.self-is) in
      let looks = ap (λ (r : Rehearsal). r.looks) w.self-is in
      let leads : LeadsTo o H c.match-plain.self.game = subst
      (λ (s : GameState). LeadsTo o H s) game playing.leads in
      called o H _ steps c.args.self.now _ c.args.seat c.args.plain.now playing there c.requires.seat
      c.reply_to_call.ensures.seat c.reply_to_call.ensures.request
      (c.reply_to_call.ensures.legal o H leads playing.legal c.requires.seat)
      (c.follow.ensures.leads o H leads (c.reply_to_call.ensures.replies o H leads))
      (ap (λ (r : Rehearsal). r.q) w.self-is)
      (ap length looks ∙ length-set _ _ _ ∙ playing.places)
      (rw (looks, w.from.ensures)
      (looks_looked o H _ steps c.args.self.now c.args.seat c.args.plain.now w.look_data.result playing there
      c.requires.seat c.reply_to_call.ensures.request w.in-Look.is w.look_data.ensures.number w.look_data.ensures.gifts
      w.look_data.ensures.graph w.look_data.ensures.position))
  | in_default w ↦
      let game : c.args.self.now.game ≡ c.match-plain.self.game = ap (λ (r : Rehearsal). r.game) (sym w.self-is) in
      let looks = ap (λ (r : Rehearsal). r.looks) w.self-is in
      let leads : LeadsTo o H c.match-plain.self.game = subst
      (λ (s : GameState). LeadsTo o H s) game playing.leads in
      called o H _ steps c.args.self.now _ c.args.seat c.args.plain.now playing there c.requires.seat
      c.reply_to_call.ensures.seat c.reply_to_call.ensures.request
      (c.reply_to_call.ensures.legal o H leads playing.legal c.requires.seat)
      (c.follow.ensures.leads o H leads (c.reply_to_call.ensures.replies o H leads))
      (ap (λ (r : Rehearsal). r.q) w.self-is)
      (ap length looks ∙ playing.places)
      (rw looks (looks_left o H _ steps c.args.self.now c.args.seat c.args.plain.now playing there w.in_default.not-Look))
]
