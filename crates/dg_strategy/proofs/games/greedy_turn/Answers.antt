use Rattle.dg_strategy.proofs.Common.{ℕ, ◌∙◌}
use Rattle.dg_strategy.proofs.Greedily.{turn_made}
use Rattle.dg_strategy.proofs.games.greedy_turn.Goals as goal

pub follow-requires-clause-right : goal.follow-requires-clause-right
follow-requires-clause-right c =
    let before : ℕ → ℕ = λ i. 0 in
    (before, c.reply_to_call.ensures.here before)

pub returns-clause-turn : goal.returns-clause-turn
returns-clause-turn c = λ o H leads.
    turn_made o H c.args.game.now c.greedy_choice-choice.result _ c.is_none-settled.result leads
    (rw c.position.ensures.amounts at c.greedy_choice-choice.ensures) c.reply_to_call.ensures.seat
    (c.reply_to_call.ensures.request ∙ c.from_choice.ensures) (c.reply_to_call.ensures.replies o H leads)
    c.is_none-settled.ensures

pub returns-clause-leads : goal.returns-clause-leads
returns-clause-leads c = λ o H leads.
    c.follow.ensures.leads o H leads (c.reply_to_call.ensures.replies o H leads)
