-- A greedy game, turn by turn.
--   IsUnderWay o H s  == the history H from the start o is legal and greedy, has moves alone, and leads to the state s
--   turn_made      what the least debtor answers makes a greedy turn
--   begun          before the first turn
--   legal_turn     a legal history with a greedy turn is legal
--   went_on        with one more turn that is a move
--   settled_game   with one more turn that is the claim the game is settled
--   used_up        or its turns are used up
use Rattle.dg_strategy.proofs.Common.{◌≡◌, ℕ, ◌<◌, Bool, true, false, not, is_some, List, [], ◌∷◌, ◌++◌, length, Option, Some, None, arith, refl, sym, subst, append_assoc, append-nil, IsEffective, StartData, Move, position_after, IsLegal, LooksBack, Position, Replies, GameState, LeadsTo, Entry, Request, legal_none, legal_more, choice_request, IsGreedyMove, IsGreedyCall, AreGreedy, AreMoves, EndsTurn, IsGreedyGame, IsGreedyTurn, IsMoveRequest}
use Rattle.dg_strategy.proofs.Turned.{claim_won}

pub record IsUnderWay (o : StartData) (H : List Entry) (s : GameState) : Type 0 where
  pub leads : LeadsTo o H s
  pub legal : IsLegal o H
  pub greedy : AreGreedy o [] H
  pub moves : AreMoves H

pub turn_made : (o : StartData) (H : List Entry) (s : GameState) (answer : Option Move) (e : Entry) (settled : Bool) →
    LeadsTo o H s → IsGreedyMove s.amounts answer → e.seat ≡ 1 → e.request ≡ choice_request answer →
    Replies o H e.request e.reply → is_some answer ≡ not settled → IsGreedyTurn o H e settled
turn_made o H s answer e settled leads least seat asked right there = record {
  seat = seat;
  call = record { amounts = s.amounts; shown = leads.amounts; answer = answer; least = least; asked = asked };
  right = right;
  ends = ends settled answer there asked least;
}
  where
    p : Position
    p = position_after o H

    ends : (b : Bool) (m : Option Move) → is_some m ≡ not b → e.request ≡ choice_request m → IsGreedyMove s.amounts m →
        EndsTurn b e
    ends false (Some m) there is at_least = subst IsMoveRequest (sym is) tt
    ends false None there is effective = absurd (cc)
    ends true (Some m) there is at_least = absurd (cc)
    ends true None there is effective =
        let everywhere : IsEffective p.graph.size p.amounts = λ v below.
        rw (← leads.amounts.amounts v below)
        (effective v (subst (λ (n : ℕ). v < n) (sym leads.amounts.size) below)) in (
          is,
          claim_won p e.reply everywhere (subst (λ (q : Request). Replies o H q e.reply) is right),
        )

pub begun : (o : StartData) (s : GameState) → LeadsTo o [] s → IsUnderWay o [] s
begun o s leads = record { leads = leads; legal = legal_none o; greedy = tt; moves = tt }

-- a move and a claim look back to nothing
back_for : (H : List Entry) (request : Request) (answer : Option Move) → request ≡ choice_request answer →
    LooksBack H request
back_for H request (Some m) is = subst (LooksBack H) (sym is) tt
back_for H request None is = subst (LooksBack H) (sym is) tt

pub legal_turn : (o : StartData) (H : List Entry) (e : Entry) (settled : Bool) → IsLegal o H →
    IsGreedyTurn o H e settled → IsLegal o (H ++ e ∷ [])
legal_turn o H e settled legal turn =
    legal_more o H e legal (omega (arith, turn.seat), omega (arith, turn.seat))
    (back_for H e.request turn.call.answer turn.call.asked) turn.right

greedy_more : (o : StartData) (K H : List Entry) (e : Entry) → e.seat ≡ 1 →
    IsGreedyCall (position_after o (K ++ H)) e.request → AreGreedy o K H → AreGreedy o K (H ++ e ∷ [])
greedy_more o K [] e seat call greedy = (
  seat,
  subst (λ (L : List Entry). IsGreedyCall (position_after o L) e.request) (append-nil K) call,
  tt,
)
greedy_more o K (x ∷ H) e seat call (one, asked, rest) = (
  one,
  asked,
  greedy_more o (K ++ x ∷ []) H e seat
      (subst (λ (L : List Entry). IsGreedyCall (position_after o L) e.request) (sym (append_assoc K (x ∷ []) H)) call)
      rest,
)

greedy_turns : (o : StartData) (H : List Entry) (e : Entry) (settled : Bool) → AreGreedy o [] H →
    IsGreedyTurn o H e settled → AreGreedy o [] (H ++ e ∷ [])
greedy_turns o H e settled greedy turn = greedy_more o [] H e turn.seat turn.call greedy

moves_more : (H : List Entry) (e : Entry) → AreMoves H → IsMoveRequest e.request → AreMoves (H ++ e ∷ [])
moves_more [] e moves move = (move, tt)
moves_more (x ∷ H) e moves move = (moves.0, moves_more H e moves.1 move)

pub went_on : (o : StartData) (H : List Entry) (e : Entry) (s t : GameState) (settled : Bool) → settled ≡ false →
    IsGreedyTurn o H e settled → LeadsTo o (H ++ e ∷ []) t → IsUnderWay o H s → IsUnderWay o (H ++ e ∷ []) t
went_on o H e s t false is turn leads known = record {
  leads = leads;
  legal = legal_turn o H e false known.legal turn;
  greedy = greedy_turns o H e false known.greedy turn;
  moves = moves_more H e known.moves turn.ends;
}
went_on o H e s t true is turn leads known = absurd (cc)

pub settled_game : (o : StartData) (n : ℕ) (H : List Entry) (e : Entry) (s : GameState) (settled : Bool) → settled ≡ true →
    IsGreedyTurn o H e settled → length H < n → IsUnderWay o H s → IsGreedyGame o n (H ++ e ∷ []) true
settled_game o n H e s true is turn few known = record {
  legal = legal_turn o H e true known.legal turn;
  greedy = greedy_turns o H e true known.greedy turn;
  ends = (H, e, refl, known.moves, few, turn.ends.0, turn.ends.1);
}
settled_game o n H e s false is turn few known = absurd (cc)

pub used_up : (o : StartData) (n : ℕ) (H : List Entry) (s : GameState) → length H ≡ n → IsUnderWay o H s →
    IsGreedyGame o n H false
used_up o n H s count known = record { legal = known.legal; greedy = known.greedy; ends = (known.moves, count) }
