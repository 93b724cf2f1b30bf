-- What a seat gains by turns in a row.
--   left_by          what turns in a row leave of a seat
--   gains        what is gained by turns in a row, whatever the seat's space after them
--   a_move           a turn that is no claim is a move
--   one_more         one more turn that is a move
--   claimed_by       a turn that is a claim
--   stopped_by       a turn that is refused
--   played_out       turns that were all moves
--   gained_as, plays_as   turns that are each of another kind too
use Rattle.dg_strategy.proofs.Common.{◌≡◌, ℕ, ◌+◌, ◌<◌, List, [], ◌∷◌, ◌++◌, length, length-append, Option, Some, None, append_assoc, append-nil, arith, refl, sym, ap, subst, ◌∙◌, FoldsTo-push, FoldsTo, Move, Entry, Claim, RefusesCall, KeepsAfterRefusal, choice_request, SeatView, Keeps, Fault, Choosing, IsTurnBy, IsMoveRequest, AreNumberedMoves, Gains, IsPlayedOut, IsClaimed, IsStopped, Plays, Result, Ok, Err, Ended, Settled, Turns, TableData}

-- the seat y is the seat x with the entries es
pub record Left (x : SeatView) (es : List (ℕ × Entry)) (y : SeatView) : Type 0 where
  pub number : y.number ≡ x.number
  pub mine : y.mine ≡ x.mine ++ es
  pub told : y.told ≡ x.told

pub left_by : (A : Choosing) (table : TableData) (x : SeatView) (es : List (ℕ × Entry)) (y : SeatView) →
    FoldsTo (IsTurnBy A table) x es y → Left x es y
left_by A table x [] y same =
    subst (Left x []) same (record { number = refl; mine = sym (append-nil x.mine); told = refl })
left_by A table x (r ∷ es) y (z, turn, rest) =
    let left = left_by A table z es y rest in
    record {
      number = left.number ∙ turn.answered.number;
      mine = left.mine ∙ ap (λ ps. ps ++ es) turn.answered.mine ∙ append_assoc x.mine (r ∷ []) es;
      told = left.told ∙ turn.answered.told;
    }

pub gains : (A : Choosing) (table : TableData) (x : SeatView) (es : List (ℕ × Entry)) (y z : SeatView) →
    FoldsTo (IsTurnBy A table) x es y → Keeps y z → Gains (IsTurnBy A table) x es z
gains A table x es y z steps kept =
    let left = left_by A table x es y steps in
    record {
      last = y;
      steps = steps;
      kept = kept;
      number = kept.number ∙ left.number;
      mine = kept.mine ∙ left.mine;
      told = kept.told ∙ left.told;
    }

moves_more : (es : List (ℕ × Entry)) (r : ℕ × Entry) → AreNumberedMoves es → IsMoveRequest r.1.request
    → AreNumberedMoves (es ++ r ∷ [])
moves_more [] r moves move = (move, tt)
moves_more (p ∷ es) r moves move = (moves.0, moves_more es r moves.1 move)

keeps_itself : (x : SeatView) → Keeps x x
keeps_itself x = record { number = refl; mine = refl; told = refl; prefix = refl; met = ([], sym (append-nil x.met)) }

module _ (A : Choosing) (table : TableData) where
  pub a_move : (x : SeatView) (r : ℕ × Entry) (y : SeatView) → IsTurnBy A table x r y → ¬ (r.1.request ≡ Claim) →
      IsMoveRequest r.1.request
  a_move x r y turn other = asks turn.answer turn.answered.request'
    where
      asks : (m : Option Move) → r.1.request ≡ choice_request m → IsMoveRequest r.1.request
      asks (Some m) is = subst IsMoveRequest (sym is) tt
      asks None is = absurd (other is)

  -- what turns that are moves leave of a seat, and how many they are
  abbrev pub Moved : SeatView → SeatView → ℕ → Type 0
  Moved x y n = (es : List (ℕ × Entry)) × FoldsTo (IsTurnBy A table) x es y × AreNumberedMoves es × (length es ≡ n)

  pub one_more : (x y z : SeatView) (r : ℕ × Entry) (n : ℕ) → Moved x y n → IsTurnBy A table y r z →
      ¬ (r.1.request ≡ Claim) → Moved x z (n + 1)
  one_more x y z r n (es, steps, moves, count) turn other = (
    es ++ r ∷ [],
    FoldsTo-push (IsTurnBy A table) x es y r z steps turn,
    moves_more es r moves (a_move y r z turn other),
    omega (arith, count, length-append es (r ∷ [])),
  )

  pub claimed_by : (x y z : SeatView) (r : ℕ × Entry) (i n : ℕ) → Moved x y i → i < n → IsTurnBy A table y r z →
      r.1.request ≡ Claim → IsClaimed (IsTurnBy A table) n x z r
  claimed_by x y z r i n (es, steps, moves, count) few turn claim = record {
    entries = es;
    gained = gains A table x (es ++ r ∷ []) z z (FoldsTo-push (IsTurnBy A table) x es y r z steps turn)
        (keeps_itself z);
    moves = moves;
    few = omega (arith, count, few);
    claim = claim;
  }

  pub stopped_by : (i n : ℕ) (x y z : SeatView) (fault : Fault) → Moved x y i → i < n → KeepsAfterRefusal fault y z →
      RefusesCall table z fault → IsStopped (IsTurnBy A table) table n x z fault
  unfolding gains
  stopped_by i n x y z fault (es, steps, moves, count) few kept refused = record {
    entries = es;
    gained = gains A table x es y z steps kept.0;
    moves = moves;
    few = omega (arith, count, few);
    kept = kept;
    refused = refused;
  }

  pub played_out : (n : ℕ) (x y : SeatView) → Moved x y n → IsPlayedOut (IsTurnBy A table) n x y
  played_out n x y (es, steps, moves, count) = record {
    entries = es;
    gained = gains A table x es y y steps (keeps_itself y);
    moves = moves;
    count = count;
  }

module _ (T S : SeatView → ℕ × Entry → SeatView → Type 0)
    (also : (x : SeatView) (r : ℕ × Entry) (y : SeatView) → T x r y → S x r y) where
  steps_as : (x : SeatView) (es : List (ℕ × Entry)) (y : SeatView) → FoldsTo T x es y → FoldsTo S x es y
  steps_as x [] y same = same
  steps_as x (r ∷ es) y (z, step, rest) = (z, also x r z step, steps_as z es y rest)

  pub gained_as : (x : SeatView) (es : List (ℕ × Entry)) (y : SeatView) → Gains T x es y → Gains S x es y
  gained_as x es y gained = record {
    last = gained.last;
    steps = steps_as x es gained.last gained.steps;
    kept = gained.kept;
    number = gained.number;
    mine = gained.mine;
    told = gained.told;
  }

  pub plays_as : {N : Type 0} (table : TableData) (n : ℕ) (x y : SeatView) (result : Result (Ended N) Fault) →
      Plays T table n x y result → Plays S table n x y result
  unfolding gained_as
  plays_as table n x y (Ok (Settled r)) played = record {
    entries = played.entries;
    gained = gained_as x (played.entries ++ r ∷ []) y played.gained;
    moves = played.moves;
    few = played.few;
    claim = played.claim;
  }
  plays_as table n x y (Ok Turns) played = record {
    entries = played.entries;
    gained = gained_as x played.entries y played.gained;
    moves = played.moves;
    count = played.count;
  }
  plays_as table n x y (Err fault) stopped = record {
    entries = stopped.entries;
    gained = gained_as x stopped.entries y stopped.gained;
    moves = stopped.moves;
    few = stopped.few;
    kept = stopped.kept;
    refused = stopped.refused;
  }
