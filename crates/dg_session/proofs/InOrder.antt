-- What the lines of a session enter comes in their order, and is what their seats gain.
--   calls_of      how many calls some seats have made
--   Fits n s      what the lines entered is in order, and the seats, which had n calls, made no others
--   fits_begun    so it is before the first line
--   stopped       a session whose writer took no more may have ended otherwise
--   throughout    what each turn leaves so, a session leaves so
--   fits_of       what the lines entered is in order at the end
--   session_of    a session that is over, if each seat has found a history of the table
use Rattle.dg_session.proofs.Common.{◌≡◌, ℕ, zero, suc, ◌+◌, inl, inr, List, [], ◌∷◌, ◌++◌, length, length-append, map, Some, slice_get, Result, Ok, Err, refl, sym, ap, subst, ◌∙◌, arith, append_assoc, append-nil, All, All-cons, All-nil, slice_set, StandIn, HasPrefix, SeatView, get_set, Setup, Ascend, State, begun, Turn, Answers, Passage, Ends, IsOver, IsSession, AreInOrder, SessionEnd, Read, Write, LongLine, Turns, Table, Memory, Spawn}
use Rattle.dg_session.proofs.Coming.{ascend_more, below_stand, stand_on, stand_both}
use Rattle.dg_session.proofs.Seated.{by_turns}

abbrev pub calls_of : List SeatView → ℕ
calls_of [] = 0
calls_of (x ∷ xs) = length x.mine + calls_of xs

pub record Fits (n : ℕ) (s : State) : Type 0 where
  pub order : AreInOrder s
  pub counted : calls_of s.seats ≡ n + length s.entered

pub fits_begun : (xs : List SeatView) → Fits (calls_of xs) (begun xs)
fits_begun xs = record { order = record { ascend = tt; stand = tt; met = inl refl }; counted = omega arith }

calls_set : (xs : List SeatView) (i k : ℕ) (x y : SeatView) → slice_get xs i ≡ Some x
    → length y.mine ≡ length x.mine + k → calls_of (slice_set xs i y) ≡ calls_of xs + k
calls_set [] i k x y at more = absurd cc
calls_set (w ∷ xs) zero k x y at more =
    let same : w ≡ x = cc in
    omega (arith, ap (λ (z : SeatView). length z.mine) same, more)
calls_set (w ∷ xs) (suc i) k x y at more = omega (arith, calls_set xs i k x y at more)

fits_on : {n : ℕ} {t : Setup} {text : List ℕ} {o : Result (List ℕ) SessionEnd} (i : ℕ) (s z : State) (turn : Turn t i text s z o)
    → Fits n s → Fits n z
fits_on {n} i s z turn fits =
    let x = turn.x in
    let y = turn.y in
    let made = turn.made in
    record {
      order = record {
        ascend = subst (Ascend 0) (sym turn.entered)
            (ascend_more 0 (length s.history) s.entered made (omega arith) fits.order.ascend
            (below_stand s.history s.entered fits.order.stand) turn.order.after);
        stand = subst (StandIn z.history) (sym turn.entered)
            (subst (λ L. StandIn L (s.entered ++ made)) (sym turn.history)
            (stand_both y.met s.entered made
            (stand_on s.history y.met s.entered turn.order.begins fits.order.stand) turn.order.stand));
        met = inr (
          i,
          y,
          ap (λ ys. slice_get ys i) turn.seat.new ∙ get_set s.seats i x y turn.seat.old,
          turn.history,
        );
      };
      counted =
          let mine : length y.mine ≡ length x.mine + length made =
          ap length turn.gained.mine ∙ length-append x.mine made in
          let all = calls_set s.seats i (length made) x y turn.seat.old mine in
          let more = length-append s.entered made in
          let seats = ap calls_of turn.seat.new in
          omega (arith, seats, all, ap length turn.entered, more, fits.counted);
    }

-- how a session stops at the next line, if it does
pub stopped : {t : Setup} {over : Type 0} {n : ℕ} {rest : List ℕ} {s z : State} (result : Result ℕ SessionEnd)
    → Ends t over n rest s z result → Ends t over n rest s z (Err Write)
stopped (Ok count) h = inl h.0
stopped (Err Read) h = inl h.0
stopped (Err LongLine) h = inl h.0
stopped (Err Turns) h = inl h.0
stopped (Err Write) h = h
stopped (Err Memory) h = elim h [ inl same ↦ inl same | inr stop ↦ inr (Memory, stop) ]
stopped (Err (Table fault)) h = inr (Table fault, h)
stopped (Err Spawn) h = inr (Spawn, h)

-- what each turn leaves so, a session leaves so
module _ {t : Setup} (P : State → Type 0)
    (turned : (i : ℕ) (text : List ℕ) (s z : State) (o : Result (List ℕ) SessionEnd) → Turn t i text s z o → P s → P z) where
  answered : (ls : List (List ℕ)) (s z : State) (text : List ℕ) → Answers t s ls z text → P s → P z
  unfolding Answers
  answered [] s z text p holds = subst P (sym p.0) holds
  answered (line ∷ ls) s z text p holds =
      let (m, front, back, does, more, whole) = p in
      answered ls m z back more (by_turns P turned s m line (Ok front) does holds)

  pub throughout : {input output : Passage} {xs ys : List SeatView} {result : Result ℕ SessionEnd}
      (over : IsOver t input output xs ys result) → P (begun xs) → P over.end
  throughout {xs = xs} {result = result} over holds =
      let after = answered over.answered (begun xs) over.after over.text over.answers holds in
      elim (stopped result over.ends) [
        | inl same ↦ subst P (sym same) after
        | inr stop ↦
            let (line, more, cut, few, does) = stop.1 in
            by_turns P turned over.after over.end line (Err stop.0) does after
      ]

-- each seat has its number at the end
numbers_set : (xs : List SeatView) (i : ℕ) (x y : SeatView) → slice_get xs i ≡ Some x → y.number ≡ x.number
    → map (λ (x : SeatView). x.number) (slice_set xs i y) ≡ map (λ (x : SeatView). x.number) xs
numbers_set [] i x y at same = absurd cc
numbers_set (w ∷ xs) zero x y at same = let is : w ≡ x = cc in ap (λ n. n ∷ map (λ (x : SeatView). x.number) xs)
    (same ∙ sym (ap (λ (x : SeatView). x.number) is))
numbers_set (w ∷ xs) (suc i) x y at same = ap (λ l. w.number ∷ l) (numbers_set xs i x y at same)

abbrev Numbered : List ℕ → State → Type 0
Numbered ns s = map (λ (x : SeatView). x.number) s.seats ≡ ns

numbers_of : {t : Setup} {input output : Passage} {xs ys : List SeatView} {result : Result ℕ SessionEnd}
    → IsOver t input output xs ys result → map (λ (x : SeatView). x.number) ys ≡ map (λ (x : SeatView). x.number) xs
numbers_of {xs = xs} over =
    let numbers : List SeatView → List ℕ = map (λ (x : SeatView). x.number) in
    ap numbers (sym over.seats) ∙ throughout (Numbered (numbers xs)) (λ i text s z o turn is.
    ap numbers turn.seat.new ∙ numbers_set s.seats i turn.x turn.y turn.seat.old turn.gained.number ∙ is) over refl

pub fits_of : {t : Setup} {input output : Passage} {xs ys : List SeatView} {result : Result ℕ SessionEnd}
    (over : IsOver t input output xs ys result) → Fits (calls_of xs) over.end
fits_of {xs = xs} over =
    throughout (Fits (calls_of xs)) (λ i text s z o turn fits. fits_on i s z turn fits) over (fits_begun xs)

-- a seat that is alone has made what the lines entered
abbrev Own : SeatView → State → Type 0
Own x s = (y : SeatView) × (s.seats ≡ y ∷ []) × (y.mine ≡ x.mine ++ s.entered)

alone_at : (w x y : SeatView) (i : ℕ) → slice_get (w ∷ []) i ≡ Some x → (x ≡ w) × (slice_set (w ∷ []) i y ≡ y ∷ [])
alone_at w x y zero at = (cc, refl)
alone_at w x y (suc i) at = absurd cc

own_turn : (x : SeatView) {t : Setup} {text : List ℕ} {o : Result (List ℕ) SessionEnd} (i : ℕ) (s z : State)
    (turn : Turn t i text s z o) → Own x s → Own x z
own_turn x i s z turn (w, alone, mine) =
    let (same, only) = alone_at w turn.x turn.y i (sym (ap (λ zs. slice_get zs i) alone) ∙ turn.seat.old) in (
      turn.y,
      turn.seat.new ∙ ap (λ zs. slice_set zs i turn.y) alone ∙ only,
      turn.gained.mine ∙ ap (λ (v : SeatView). v.mine ++ turn.made) same ∙ ap (λ l. l ++ turn.made) mine
          ∙ append_assoc x.mine s.entered turn.made ∙ ap (λ l. x.mine ++ l) (sym turn.entered),
    )

own_of : {t : Setup} {input output : Passage} {xs ys : List SeatView} {result : Result ℕ SessionEnd}
    (over : IsOver t input output xs ys result) (x : SeatView) → xs ≡ x ∷ []
    → All (λ (y : SeatView). y.mine ≡ x.mine ++ over.end.entered) ys
own_of over x alone =
    let P : SeatView → Type 0 = λ y. y.mine ≡ x.mine ++ over.end.entered in
    let own = throughout (Own x) (λ i text s z o turn holds. own_turn x i s z turn holds) over
    (x, alone, sym (append-nil x.mine)) in
    subst (All P) (sym own.1 ∙ over.seats) (All-cons P own.0 [] own.2 (All-nil P))

pub session_of : {t : Setup} {input output : Passage} {xs ys : List SeatView} {result : Result ℕ SessionEnd}
    → IsOver t input output xs ys result → All (HasPrefix t.table) ys → IsSession t input output xs ys result
session_of over found = record {
  over = over;
  numbers = numbers_of over;
  found = found;
  order = (fits_of over).order;
  own = own_of over;
}
