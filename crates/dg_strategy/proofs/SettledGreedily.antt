-- What the greedy settler comes to, alone at a new table.
--   LeastDebtors    the greedy choice: the least vertex in debt borrows, and there is a claim if
--                   nobody is in debt
--   bare            entries without their numbers
--   bare_more       those of one more entry
--   bare_count      they are as many
--   bare_moves      they are moves where those are
--   asked_claim     who asks for a claim finds nobody in debt
--   NextTurn        after the history K a turn is entered with the receipt r, and the seat is then y
--   next_turn       a turn of the greedy settler after its calls K
--   turns_after     turns of the greedy settler after its calls K make a legal and greedy history
--   last_asked      how the last entry of a greedy history is asked for
--   claim_at_end    the claim at the end of a legal and greedy history is won
--   least_settling_out   a greedy game is made
--   least_turn       a turn of a settler whose choices are greedy is one of the greedy settler
--   settling_out_is_greedy   a greedy game is made by each such settler
use Rattle.dg_strategy.proofs.Common.{Ok, ◌≡◌, ℕ, ◌+◌, ◌<◌, List, [], ◌∷◌, ◌++◌, length, map, Some, Option, None, arith, refl, sym, ap, subst, ◌∙◌, append_assoc, append-nil, FoldsTo, enumerate_from, take-append_seam, slice_get_within, IsEffective, StartData, Move, position_after, IsLegal, Position, Replies, Entry, Request, Claim, Won, legal_none, slice_get-append, slice_get-seam, TableData, SeatView, AreOfSeats, entries_of, choice_request, enumerate_from-more, entries_enumerated, own_alone, IsGreedyMove, Choosing, IsGreedyChoice, IsGreedyCall, AreGreedy, AreMoves, IsAloneAt, SettlerIsGreedy, AreNumberedMoves, IsTurnBy, IsSettlerTurn, Gains, Settled, Turns}
use Rattle.dg_strategy.proofs.Gained.{plays_as}
use Rattle.dg_strategy.proofs.Turned.{claim_won}

abbrev LeastDebtors : Choosing
LeastDebtors g d answer = IsGreedyMove d answer

pub bare : List (ℕ × Entry) → List Entry
bare es = map (λ (p : ℕ × Entry). p.1) es

bare_more : (es : List (ℕ × Entry)) (r : ℕ × Entry) → bare (es ++ r ∷ []) ≡ bare es ++ r.1 ∷ []
unfolding bare
bare_more [] r = refl
bare_more (e ∷ es) r = ap (λ (L : List Entry). e.1 ∷ L) (bare_more es r)

bare_count : (es : List (ℕ × Entry)) → length (bare es) ≡ length es
unfolding bare
bare_count [] = refl
bare_count (e ∷ es) = omega (arith, bare_count es)

bare_moves : (es : List (ℕ × Entry)) → AreNumberedMoves es → AreMoves (bare es)
unfolding bare
bare_moves [] moves = tt
bare_moves (e ∷ es) moves = (moves.0, bare_moves es moves.1)

asked_claim : (p : Position) (request : Request) → IsGreedyCall p request → request ≡ Claim →
    IsEffective p.graph.size p.amounts
asked_claim p request call claim = finds call.answer call.least call.asked
  where
    finds : (m : Option Move) → IsGreedyMove call.amounts m → request ≡ choice_request m →
        IsEffective p.graph.size p.amounts
    finds (Some m) least asked = absurd (cc)
    finds None effective asked = λ v below.
        rw (← call.shown.amounts v below)
        (effective v (subst (λ (n : ℕ). v < n) (sym call.shown.size) below))

pub record NextTurn (table : TableData) (K : List Entry) (r : ℕ × Entry) (y : SeatView) : Type 0 where
  pub legal : IsLegal table.start (K ++ r.1 ∷ [])
  pub seat : r.1.seat ≡ 1
  pub call : IsGreedyCall (position_after table.start K) r.1.request
  pub mine : y.mine ≡ enumerate_from 0 (K ++ r.1 ∷ [])

module _ (table : TableData) (alone : table.seats ≡ 1) where
  next_turn : (K : List Entry) (x : SeatView) (r : ℕ × Entry) (y : SeatView) → x.mine ≡ enumerate_from 0 K →
      IsTurnBy LeastDebtors table x r y → NextTurn table K r y
  next_turn K x r y known turn =
      let H = turn.history in
      let seated : AreOfSeats 1 (H ++ r.1 ∷ []) =
      subst (λ (n : ℕ). AreOfSeats n (H ++ r.1 ∷ [])) alone turn.answered.history.seated in
      let bounds = seated (length H) r.1 (slice_get-seam H r.1 []) in
      let seat : r.1.seat ≡ 1 = omega (arith, bounds.0, bounds.1) in
      let number : x.number ≡ 1 = sym turn.answered.seat ∙ seat in
      let before : AreOfSeats 1 H = λ k e at.
      seated k e (slice_get-append H (r.1 ∷ []) k (slice_get_within H k e at) ∙ at) in
      let own : entries_of 1 H ≡ x.mine = ap (λ (s : ℕ). entries_of s H) (sym number) ∙ turn.answered.before.mine in
      let all : enumerate_from 0 H ≡ enumerate_from 0 K = sym (own_alone H before) ∙ own ∙ known in
      let same : H ≡ K = sym (entries_enumerated 0 H) ∙ ap (map (λ (p : ℕ × Entry). p.1)) all ∙ entries_enumerated 0 K in
      let call : IsGreedyCall (position_after table.start H) r.1.request =
      record {
        amounts = turn.amounts;
        shown = turn.shown;
        answer = turn.answer;
        least = turn.chosen;
        asked = turn.answered.request';
      } in
      let place : r.0 ≡ 0 + length K = omega (arith, turn.answered.place, ap (λ (L : List Entry). length L) same) in
      record {
        legal = subst (λ (L : List Entry). IsLegal table.start (L ++ r.1 ∷ [])) same turn.answered.history.legal;
        seat = seat;
        call = subst (λ (L : List Entry). IsGreedyCall (position_after table.start L) r.1.request) same call;
        mine = turn.answered.mine ∙ ap (λ (ps : List (ℕ × Entry)). ps ++ r ∷ []) known
            ∙ ap (λ (i : ℕ). enumerate_from 0 K ++ (i, r.1) ∷ []) place ∙ sym (enumerate_from-more 0 K r.1);
      }

  turns_after : (K : List Entry) (x : SeatView) (es : List (ℕ × Entry)) (y : SeatView) → x.mine ≡ enumerate_from 0 K →
      IsLegal table.start K → FoldsTo (IsSettlerTurn LeastDebtors table) x es y →
      AreGreedy table.start K (bare es) × IsLegal table.start (K ++ bare es)
      × (y.mine ≡ enumerate_from 0 (K ++ bare es))
  unfolding bare
  turns_after K x [] y known legal same = (
    tt,
    subst (IsLegal table.start) (sym (append-nil K)) legal,
    ap (λ (z : SeatView). z.mine) (sym same) ∙ known ∙ ap (enumerate_from 0) (sym (append-nil K)),
  )
  turns_after K x (r ∷ es) y known legal (z, turn, rest) =
      let next = next_turn K x r z known turn.strategy.turn in
      let (greedy, whole, mine) = turns_after (K ++ r.1 ∷ []) z es y next.mine next.legal rest in
      let joined = append_assoc K (r.1 ∷ []) (bare es) in (
        (next.seat, next.call, greedy),
        subst (IsLegal table.start) joined whole,
        mine ∙ ap (enumerate_from 0) joined,
      )

last_asked : (o : StartData) (K H : List Entry) (e : Entry) → AreGreedy o K (H ++ e ∷ []) →
    IsGreedyCall (position_after o (K ++ H)) e.request
last_asked o K [] e (seat, call, rest) =
    subst (λ (L : List Entry). IsGreedyCall (position_after o L) e.request) (sym (append-nil K)) call
last_asked o K (x ∷ H) e (seat, call, rest) =
    subst (λ (L : List Entry). IsGreedyCall (position_after o L) e.request) (append_assoc K (x ∷ []) H)
    (last_asked o (K ++ x ∷ []) H e rest)

claim_at_end : (o : StartData) (H : List Entry) (e : Entry) → IsLegal o (H ++ e ∷ []) → AreGreedy o [] (H ++ e ∷ []) →
    e.request ≡ Claim → e.reply ≡ Won
claim_at_end o H e legal greedy claim =
    let right = (legal (length H) e (slice_get-seam H e [])).2 in
    let here : Replies o H e.request e.reply =
    subst (λ (L : List Entry). Replies o L e.request e.reply) (take-append_seam H (e ∷ [])) right in
    claim_won (position_after o H) e.reply
    (asked_claim (position_after o H) e.request (last_asked o [] H e greedy) claim)
    (subst (λ (q : Request). Replies o H q e.reply) claim here)

-- what turns leave of a seat that had no call
gained : (table : TableData) (x : SeatView) (es : List (ℕ × Entry)) (y : SeatView) → IsAloneAt table x →
    Gains (IsSettlerTurn LeastDebtors table) x es y →
    AreGreedy table.start [] (bare es) × IsLegal table.start (bare es) × (y.mine ≡ enumerate_from 0 (bare es))
gained table x es y (alone, none) gains =
    let (greedy, legal, mine) = turns_after table alone [] x es gains.last none (legal_none table.start) gains.steps in
    (greedy, legal, gains.kept.mine ∙ mine)

least_settling_out : (N : Type 0) (table : TableData) → SettlerIsGreedy N LeastDebtors table
least_settling_out N table n x y Turns greedy new played =
    let (greedy, legal, mine) = gained table x played.entries y new played.gained in (
      bare played.entries,
      mine,
      record {
        legal = legal;
        greedy = greedy;
        ends = (bare_moves played.entries played.moves, bare_count played.entries ∙ played.count);
      },
    )
least_settling_out N table n x y (Settled r) greedy new played =
    let es = played.entries in
    let (greedy, legal, mine) = gained table x (es ++ r ∷ []) y new played.gained in
    let same = bare_more es r in
    let won = claim_at_end table.start (bare es) r.1 (subst (IsLegal table.start) same legal)
    (subst (AreGreedy table.start []) same greedy) played.claim in (
      bare (es ++ r ∷ []),
      mine,
      record {
        legal = legal;
        greedy = greedy;
        ends = (
          bare es,
          r.1,
          same,
          bare_moves es played.moves,
          omega (arith, bare_count es, played.few),
          played.claim,
          won,
        );
      },
    )

least_turn : (A : Choosing) (table : TableData) → IsGreedyChoice A → (x : SeatView) (r : ℕ × Entry) (y : SeatView) →
    IsSettlerTurn A table x r y → IsSettlerTurn LeastDebtors table x r y
least_turn A table greedy x r y settles =
    let turn = settles.strategy.turn in
    record {
      strategy = record {
        turn = record {
          history = turn.history;
          amounts = turn.amounts;
          answer = turn.answer;
          shown = turn.shown;
          chosen = greedy (position_after table.start turn.history).graph turn.amounts turn.answer turn.shown.size turn.chosen;
          answered = turn.answered;
        };
        gifts = settles.strategy.gifts;
        moved = settles.strategy.moved;
      };
      borrows = settles.borrows;
      won = settles.won;
    }

pub settling_out_is_greedy : (N : Type 0) (A : Choosing) (table : TableData) → SettlerIsGreedy N A table
settling_out_is_greedy N A table n x y ended greedy new played =
    least_settling_out N table n x y ended (λ g d m size least. least) new
    (plays_as (IsSettlerTurn A table) (IsSettlerTurn LeastDebtors table) (least_turn A table greedy) table n x y (Ok ended)
    played)
