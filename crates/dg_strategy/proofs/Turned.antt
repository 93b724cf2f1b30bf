-- What a move or a claim of a strategy comes to.
--   move_answered    a move that can be made is refused for the range alone, and counts no gift
--   claim_won        a claim where nobody is in debt is won
--   settler_moves    a settler's moves can be made
--   strategy_turn    a turn by a choice whose moves can be made
--   settler_turn     a turn by a choice that settles debts
use Rattle.dg_strategy.proofs.Common.{◌≡◌, ℕ, ◌<◌, [], ◌∷◌, Option, Some, None, arith, refl, ap, subst, ◌∙◌, IsEffective, IsGraph, at, IsApplicableMove, Move, Borrow, no_vertex_playable, empty_playable, script_playable, position_after, change_count, Position, RepliesToMove, Replies, RepliesToClaim, Entry, NoVertex, Empty, Range, Reply, Moved, Refused, Won, NotWon, gifts_in-more, legal_part, graphs_hold, SeatView, choice_request, Choosing, BorrowsInDebt, IsTurnBy, IsMoveRequest, IsMovedOrPastRange, IsStrategyTurn, IsSettlerTurn, TableData}
use Rattle.dg_strategy.proofs.Kept.{GivesMoves, SettlesDebts}
use Rattle.dg_rules.specs.declared.entry.Refusal.TheVariants.{Script}
use Rattle.dg_rules.specs.declared.entry.Request.TheVariants as request

pub move_answered : (p : Position) (m : Move) (reply : Reply) → IsApplicableMove p.graph.size m → RepliesToMove p m reply →
    IsMovedOrPastRange reply × (change_count reply ≡ 0)
move_answered p m (Moved d) playable replies = (tt, refl)
move_answered p m (Refused NoVertex) playable replies = absurd (no_vertex_playable p m replies playable)
move_answered p m (Refused Empty) playable replies = absurd (empty_playable p m replies playable)
move_answered p m (Refused Script) playable replies = absurd (script_playable p m replies playable)
move_answered p m (Refused Range) playable replies = (tt, refl)
move_answered p m (Refused refusal) playable replies = absurd replies
move_answered p m reply playable replies = absurd replies

-- a claim gives nothing
claim_answered : (p : Position) (reply : Reply) → RepliesToClaim p reply → change_count reply ≡ 0
claim_answered p Won replies = refl
claim_answered p NotWon replies = refl
claim_answered p reply replies = absurd replies

-- a claim where nobody is in debt is won
pub claim_won : (p : Position) (reply : Reply) → IsEffective p.graph.size p.amounts → RepliesToClaim p reply → reply ≡ Won
claim_won p Won effective replies = refl
claim_won p NotWon effective replies = absurd (replies effective)
claim_won p reply effective replies = absurd replies

pub settler_moves : (A : Choosing) → SettlesDebts A → GivesMoves A
settler_moves A settles g d m graph size may = borrows m (settles.moves g d m graph size may)
  where
    borrows : (m : Move) → BorrowsInDebt d m → IsApplicableMove g.size m
    borrows (Borrow v) debt = subst (λ n. v < n) size debt.0
    borrows m debt = absurd debt

-- the graph that a turn finds is within the limits
graph_found : (A : Choosing) (table : TableData) (x : SeatView) (r : ℕ × Entry) (y : SeatView) →
    IsGraph table.start.graph → (turn : IsTurnBy A table x r y) → IsGraph (position_after table.start turn.history).graph
graph_found A table x r y graph turn =
    graphs_hold table.start turn.history graph (legal_part table.start turn.history (r.1 ∷ []) turn.answered.history.legal)

module _ (A : Choosing) (table : TableData) (start : IsGraph table.start.graph) (x : SeatView) (r : ℕ × Entry)
    (y : SeatView) where
  -- the reply to what was answered, and what is known of it where the answer is a move that can be made
  answered : (gives : GivesMoves A) (turn : IsTurnBy A table x r y) (m : Option Move) → turn.answer ≡ m →
      (IsMoveRequest r.1.request → IsMovedOrPastRange r.1.reply) × (change_count r.1.reply ≡ 0)
  answered gives turn (Some m) is =
      let graph = graph_found A table x r y start turn in
      let chosen = rw is at turn.chosen in
      let asked : r.1.request ≡ request.Move m = turn.answered.request' ∙ ap choice_request is in
      let replies : Replies table.start turn.history (request.Move m) r.1.reply =
      subst (λ q. Replies table.start turn.history q r.1.reply) (ap choice_request is) turn.answered.reply in
      let playable = gives (position_after table.start turn.history).graph turn.amounts m graph turn.shown.size chosen in
      let found = move_answered (position_after table.start turn.history) m r.1.reply playable replies in
      ((λ move. found.0), found.1)
  answered gives turn None is =
      let asked : r.1.request ≡ request.Claim = turn.answered.request' ∙ ap choice_request is in
      let replies : Replies table.start turn.history request.Claim r.1.reply =
      subst (λ q. Replies table.start turn.history q r.1.reply) (ap choice_request is) turn.answered.reply in (
        (λ move. absurd (subst IsMoveRequest asked move)),
        claim_answered (position_after table.start turn.history)
            r.1.reply replies,
      )

  pub strategy_turn : GivesMoves A → IsTurnBy A table x r y → IsStrategyTurn A table x r y
  strategy_turn gives turn =
      let found = answered gives turn turn.answer refl in
      record {
        turn = turn;
        gifts = omega (arith, gifts_in-more turn.history r.1, found.1);
        moved = found.0;
      }

  pub settler_turn : SettlesDebts A → IsTurnBy A table x r y → IsSettlerTurn A table x r y
  unfolding strategy_turn
  settler_turn settles turn =
      let graph = graph_found A table x r y start turn in
      let kept = strategy_turn (settler_moves A settles) turn in
      let p = position_after table.start turn.history in
      let won : turn.answer ≡ None → r.1.reply ≡ Won = λ is.
      let chosen = rw is at turn.chosen in
      let effective : IsEffective p.graph.size (at turn.amounts) =
      settles.claims p.graph turn.amounts graph turn.shown.size chosen in
      let replies : RepliesToClaim p r.1.reply =
      subst (λ q. Replies table.start turn.history q r.1.reply) (ap choice_request is) turn.answered.reply in
      claim_won p r.1.reply (λ v below. rw (← turn.shown.amounts v below) (effective v below)) replies in
      record {
        strategy = kept;
        borrows = λ m is. settles.moves p.graph turn.amounts m graph turn.shown.size (rw is at turn.chosen);
        won = won;
      }
