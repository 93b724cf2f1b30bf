-- From one start there is one greedy game of so many turns.
--   least_of        what the choice of the greedy settler borrows at is the least vertex in debt
--   least_below     no vertex below the least one is in debt, so there is one least vertex in debt
--   chosen_once     it chooses one move, or none
--   asked_once      so at one position one request is asked for
--   same_reply      and there is one reply to a move
--   EndsOn n H settled == H ends so, told from its first entry on
--   ends_on         so does a greedy game
--   one_game_on     greedy games that go on from one history are the same
--   greedy_game_is_one   so are those from one start
use Rattle.dg_strategy.proofs.Common.{◌≡◌, ℕ, ◌-◌, ◌<◌, ◌≤◌, Bool, true, false, List, [], ◌∷◌, ◌++◌, length, take, Option, Some, None, ◌⊎◌, inl, inr, arith, refl, sym, ap, subst, ◌∙◌, append_assoc, ⊎_elim, cases_lt, ints, StartData, Vector, shown_once, move_once, Move, Borrow, position_after, gifts_in, IsLegal, Position, Replies, RepliesAt, Entry, Request, Reply, Won, right_here, choice_request, IsLeastInDebt, IsGreedyMove, IsGreedyCall, AreGreedy, AreMoves, EndsGame, GreedyIsUnique, IsMoveRequest}
use Rattle.dg_rules.specs.declared.entry.Request.TheVariants as request

least_of : (d : Vector) (m : Move) → IsGreedyMove d (Some m) → (v : ℕ) × (m ≡ Borrow v) × IsLeastInDebt d v
least_of d (Borrow v) least = (v, refl, least)
least_of d m least = absurd least

least_below : (d : Vector) (v w : ℕ) → IsLeastInDebt d v → IsLeastInDebt d w → w ≤ v
least_below d v w first second = ⊎_elim
    (λ (below : v < w). absurd (omega (arith, ints, first.debt.1, second.least v below)))
    (λ (above : w ≤ v). above)
    (cases_lt v w)

chosen_once : (d : Vector) (m l : Option Move) → IsGreedyMove d m → IsGreedyMove d l → m ≡ l
chosen_once d (Some m) (Some l) least least' =
    let (v, is, first) = least_of d m least in
    let (w, is', second) = least_of d l least' in
    let same : v ≡ w = omega (arith, least_below d v w first second, least_below d w v second first) in
    ap Some (is ∙ ap Borrow same ∙ sym is')
chosen_once d (Some m) None least effective =
    let (v, is, first) = least_of d m least in
    absurd (omega (arith, ints, first.debt.1, effective v first.debt.0))
chosen_once d None (Some l) effective least =
    let (v, is, first) = least_of d l least in
    absurd (omega (arith, ints, first.debt.1, effective v first.debt.0))
chosen_once d None None effective effective' = refl

asked_once : (p : Position) (q r : Request) → IsGreedyCall p q → IsGreedyCall p r → q ≡ r
asked_once p q r call other =
    let same : other.amounts ≡ call.amounts = shown_once p other.amounts call.amounts other.shown call.shown in
    call.asked
    ∙ ap choice_request
    (chosen_once call.amounts call.answer other.answer call.least
    (subst (λ (d : Vector). IsGreedyMove d other.answer) same other.least))
    ∙ sym other.asked

same_reply : (p : Position) (q : ℕ) (f : ℕ → ℕ) (i : ℕ) (r : Request) (a b : Reply) → IsMoveRequest r →
    RepliesAt p q f i r a → RepliesAt p q f i r b → a ≡ b
same_reply p q f i (request.Move m) a b move right right' = move_once p m a b right right'
same_reply p q f i r a b move right right' = absurd move

abbrev pub EndsOn : ℕ → List Entry → Bool → Type 0
EndsOn n [] settled = (n ≡ 0) × (settled ≡ false)
EndsOn n (e ∷ H) settled = (0 < n) × ((IsMoveRequest e.request × EndsOn (n - 1) H settled)
    ⊎ ((e.request ≡ request.Claim) × (e.reply ≡ Won) × (H ≡ []) × (settled ≡ true)))

ends_by_moves : (n : ℕ) (H : List Entry) → AreMoves H → length H ≡ n → EndsOn n H false
ends_by_moves n [] moves count = (sym count, refl)
ends_by_moves n (e ∷ H) moves count =
    (omega (arith, count), inl (moves.0, ends_by_moves (n - 1) H moves.1 (omega (arith, count))))

ends_by_claim : (n : ℕ) (H : List Entry) (e : Entry) → AreMoves H → length H < n → e.request ≡ request.Claim →
    e.reply ≡ Won → EndsOn n (H ++ e ∷ []) true
ends_by_claim n [] e moves few claim won = (omega (arith, few), inr (claim, won, refl, refl))
ends_by_claim n (x ∷ H) e moves few claim won =
    (omega (arith, few), inl (moves.0, ends_by_claim (n - 1) H e moves.1 (omega (arith, few)) claim won))

ends_on : (n : ℕ) (H : List Entry) (settled : Bool) → EndsGame n H settled → EndsOn n H settled
ends_on n H false (moves, count) = ends_by_moves n H moves count
ends_on n H true (moves, claim, is, all, few, asks, won) =
    subst (λ (L : List Entry). EndsOn n L true) (sym is) (ends_by_claim n moves claim all few asks won)

module _ (o : StartData) where
  one_game_on : (K : List Entry) (n : ℕ) (H M : List Entry) (s t : Bool) → IsLegal o (K ++ H) → IsLegal o (K ++ M) →
      AreGreedy o K H → AreGreedy o K M → EndsOn n H s → EndsOn n M t → (H ≡ M) × (s ≡ t)
  one_game_on K n [] [] s t legal legal' greedy greedy' ends ends' = (refl, ends.1 ∙ sym ends'.1)
  one_game_on K n [] (e ∷ M) s t legal legal' greedy greedy' ends ends' = absurd (omega (arith, ends.0, ends'.0))
  one_game_on K n (d ∷ H) [] s t legal legal' greedy greedy' ends ends' = absurd (omega (arith, ends.0, ends'.0))
  one_game_on K n (d ∷ H) (e ∷ M) s t legal legal' (seat, call, rest) (seat', call', rest') ends ends' =
      by_ends
      (λ same more more'. one_game_on (K ++ d ∷ []) (n - 1) H M s t
      (subst (IsLegal o) (sym (append_assoc K (d ∷ []) H)) legal)
      (subst (IsLegal o) (sym (append_assoc K (d ∷ []) M))
      (subst (λ (x : Entry). IsLegal o (K ++ x ∷ M)) (sym same) legal'))
      rest (subst (λ (x : Entry). AreGreedy o (K ++ x ∷ []) M) (sym same) rest') more more')
      ends.1 ends'.1
    where
      request' : d.request ≡ e.request
      request' = asked_once (position_after o K) d.request e.request call call'

      right' : Replies o K d.request e.reply
      right' = subst (λ (r : Request). Replies o K r e.reply) (sym request') (right_here o K e M legal')

      reply' : IsMoveRequest d.request → d.reply ≡ e.reply
      reply' move = same_reply (position_after o K) o.q (λ i. gifts_in (take i K)) (gifts_in K) d.request d.reply e.reply
          move (right_here o K d H legal) right'

      entry' : d.reply ≡ e.reply → d ≡ e
      entry' same = λ i. record { seat = (seat ∙ sym seat') i; request = request' i; reply = same i }

      joined : d ≡ e → H ≡ M → d ∷ H ≡ e ∷ M
      joined first others = λ i. first i ∷ others i

      by_ends : (d ≡ e → EndsOn (n - 1) H s → EndsOn (n - 1) M t → (H ≡ M) × (s ≡ t)) →
          ((IsMoveRequest d.request × EndsOn (n - 1) H s)
          ⊎ ((d.request ≡ request.Claim) × (d.reply ≡ Won) × (H ≡ []) × (s ≡ true))) →
          ((IsMoveRequest e.request × EndsOn (n - 1) M t)
          ⊎ ((e.request ≡ request.Claim) × (e.reply ≡ Won) × (M ≡ []) × (t ≡ true))) →
          (d ∷ H ≡ e ∷ M) × (s ≡ t)
      by_ends go (inl (move, more)) (inl (move', more')) =
          let same : d ≡ e = entry' (reply' move) in
          let (games, ended) = go same more more' in
          (joined same games, ended)
      by_ends go (inl (move, more)) (inr (claim, won, none, ended)) = absurd (subst IsMoveRequest (request' ∙ claim) move)
      by_ends go (inr (claim, won, none, ended)) (inl (move, more)) = absurd (subst IsMoveRequest (sym request' ∙ claim) move)
      by_ends go (inr (claim, won, none, ended)) (inr (claim', won', none', ended')) =
          (joined (entry' (won ∙ sym won')) (none ∙ sym none'), ended ∙ sym ended')

pub greedy_game_is_one : GreedyIsUnique
greedy_game_is_one o n H K settled ended first second =
    one_game_on o [] n H K settled ended first.legal second.legal first.greedy second.greedy
    (ends_on n H settled first.ends) (ends_on n K ended second.ends)
