-- What the lines of all seats of a table entered is the history of the close.
--   few_between     as many numbers ascend between two as there is room
--   all_numbered    as many entries as a history has, which stand in it in order, are all of it
--   calls_none      seats that know of no entry made no call
--   calls_all       the calls of all seats are as many as the entries of their history
--   entered_all     what was entered is all of the history
--   full_at_close   which is full, where the session ended so
use Rattle.dg_session.proofs.Common.{◌≡◌, ℕ, zero, suc, ◌+◌, ◌<◌, ◌≤◌, inl, inr, List, [], ◌∷◌, ◌++◌, length, length-append, map, Some, sum, get_or, slice_get, Result, Err, refl, sym, ap, subst, ◌∙◌, arith, append_assoc, enumerate_from, same_Some, slice_get-get_or, slice_get-map, slice_get_within, option_map, length-map, nil_from_length, sum_by-cons, Entry, slice_get-seam, AreBelow, StandIn, IsPrefixOf, IsClosed, AreFresh, SeatView, entries_of, Full, seats_counted, begins_length, Setup, Ascend, Passage, Ends, IsAllRead, IsOver, SessionEnd, Table, get_set, TableData}
use Rattle.dg_session.proofs.Coming.{below_stand, stand_on}
use Rattle.dg_session.proofs.InOrder.{calls_of, fits_of}

few_between : (a b : ℕ) (ps : List (ℕ × Entry)) → Ascend a ps → AreBelow b ps → a ≤ b → a + length ps ≤ b
few_between a b [] up below few = omega (arith, few)
few_between a b (p ∷ ps) up below few =
    omega (arith, up.0, few_between (p.0 + 1) b ps up.1 below.1 (omega (arith, below.0)))

all_after : (K rest : List Entry) (ps : List (ℕ × Entry)) → Ascend (length K) ps → StandIn (K ++ rest) ps
    → length ps ≡ length rest → ps ≡ enumerate_from (length K) rest
all_after K [] ps up stand size = nil_from_length ps size
all_after K (e ∷ rest) [] up stand size = absurd (omega (arith, size))
all_after K (e ∷ rest) (p ∷ ps) up stand size =
    let whole : (K ++ e ∷ []) ++ rest ≡ K ++ e ∷ rest = append_assoc K (e ∷ []) rest in
    let all = length-append K (e ∷ rest) in
    let below = below_stand (K ++ e ∷ rest) (p ∷ ps) stand in
    let few = few_between (p.0 + 1) (length (K ++ e ∷ rest)) ps up.1 below.1 (omega (arith, below.0)) in
    let place : p.0 ≡ length K = omega (arith, few, all, size, up.0) in
    let entry : p.1 ≡ e = same_Some p.1 e (sym stand.0 ∙ ap (slice_get (K ++ e ∷ rest)) place ∙ slice_get-seam K e rest) in
    let more : length (K ++ e ∷ []) ≡ length K + 1 = length-append K (e ∷ []) in
    let next : length (K ++ e ∷ []) ≡ p.0 + 1 = omega (arith, more, place) in
    let tail = all_after (K ++ e ∷ []) rest ps (subst (λ n. Ascend n ps) (sym next) up.1)
    (subst (λ H. StandIn H ps) (sym whole) stand.1) (omega (arith, size)) in
    let head : p ≡ (length K, e) = ap (λ i. (i, p.1)) place ∙ ap (λ (x : Entry). (length K, x)) entry in
    ap (λ (q : ℕ × Entry). q ∷ ps) head
    ∙ ap (λ (qs : List (ℕ × Entry)). (length K, e) ∷ qs) (tail ∙ ap (λ n. enumerate_from n rest) more)

pub all_numbered : (H : List Entry) (ps : List (ℕ × Entry)) → Ascend 0 ps → StandIn H ps → length ps ≡ length H
    → ps ≡ enumerate_from 0 H
all_numbered H ps up stand size = all_after [] H ps up stand size

calls_none : (xs : List SeatView) → ((i : ℕ) (x : SeatView) → slice_get xs i ≡ Some x → x.mine ≡ [])
    → calls_of xs ≡ 0
calls_none [] none = refl
calls_none (x ∷ xs) none =
    omega (arith, ap length (none 0 x refl), calls_none xs (λ i y at. none (suc i) y at))

calls_sum : (xs : List SeatView) → sum (map (λ (x : SeatView). length x.mine) xs) ≡ calls_of xs
calls_sum [] = refl
calls_sum (x ∷ xs) =
    let counts = map (λ (x : SeatView). length x.mine) xs in
    omega (arith, sum_by-cons (λ y. y) (length x.mine) counts, calls_sum xs)

get_count : (xs : List SeatView) (i n : ℕ) → i < length xs
    → ((x : SeatView) → slice_get xs i ≡ Some x → length x.mine ≡ n)
    → get_or (map (λ (x : SeatView). length x.mine) xs) i 0 ≡ n
get_count [] i n low is = absurd (omega (arith, low))
get_count (x ∷ xs) zero n low is = is x refl
get_count (x ∷ xs) (suc i) n low is = get_count xs i n (omega (arith, low)) is

number_at : (xs ys : List SeatView) (i : ℕ) (y : SeatView)
    → map (λ (x : SeatView). x.number) ys ≡ map (λ (x : SeatView). x.number) xs
    → ((x : SeatView) → slice_get xs i ≡ Some x → x.number ≡ i + 1) → slice_get ys i ≡ Some y → y.number ≡ i + 1
number_at xs ys i y same fresh at =
    let number : SeatView → ℕ = λ x. x.number in
    let sizes = ap length same in
    let low : i < length xs = omega (arith, slice_get_within ys i y at, length-map ys number, length-map xs number, sizes) in
    let x = get_or xs i y in
    let there = slice_get-get_or xs i y low in
    let told : option_map number (Some y) ≡ option_map number (Some x) =
    ap (option_map number) (sym at) ∙ sym (slice_get-map number ys i) ∙ ap (λ l. slice_get l i) same
    ∙ slice_get-map number xs i ∙ ap (option_map number) there in
    same_Some y.number x.number told ∙ fresh x there

pub calls_all : {table : TableData} {H : List Entry} (xs ys : List SeatView) → AreFresh table.seats xs
    → map (λ (x : SeatView). x.number) ys ≡ map (λ (x : SeatView). x.number) xs → IsClosed table ys H
    → calls_of ys ≡ length H
calls_all {table} {H} xs ys fresh same closed =
    let number : SeatView → ℕ = λ x. x.number in
    let mine : SeatView → ℕ = λ x. length x.mine in
    let size : length ys ≡ table.seats = sym (length-map ys number) ∙ ap length same ∙ length-map xs number ∙ fresh.count in
    sym (calls_sum ys) ∙ seats_counted table.seats (map mine ys) H (length-map ys mine ∙ size)
    (λ i below. get_count ys i (length (entries_of (i + 1) H)) (omega (arith, below, size)) (λ y at.
    ap length (sym (closed.held i y at).mine)
    ∙ ap (λ s. length (entries_of s H)) (number_at xs ys i y same (λ x there. fresh.number i x there) at)))
    closed.history.seated

pub entered_all : {t : Setup} {table : TableData} {input output : Passage} {xs ys : List SeatView}
    {result : Result ℕ SessionEnd} {H : List Entry} (over : IsOver t input output xs ys result) → AreFresh table.seats xs
    → map (λ (x : SeatView). x.number) ys ≡ map (λ (x : SeatView). x.number) xs → IsClosed table ys H
    → over.end.entered ≡ enumerate_from 0 H
entered_all {t} {input = input} {xs = xs} {ys} {result} {H} over fresh same closed =
    let fits = fits_of over in
    let none = calls_none xs fresh.mine in
    let all = calls_all xs ys fresh same closed in
    let seats = ap calls_of over.seats in
    let begins : IsPrefixOf over.end.history H = elim fits.order.met [
      | inl empty ↦ subst (λ K. IsPrefixOf K H) (sym empty) (H, refl)
      | inr met ↦
          subst (λ K. IsPrefixOf K H) (sym met.3)
          (closed.held met.0 met.1 (sym (ap (λ zs. slice_get zs met.0) over.seats) ∙ met.2)).met
    ] in
    all_numbered H over.end.entered fits.order.ascend
    (stand_on over.end.history H over.end.entered begins fits.order.stand)
    (omega (arith, fits.counted, none, all, seats))

pub full_at_close : {t : Setup} {input output : Passage} {xs ys : List SeatView}
    {result : Result ℕ SessionEnd} {H : List Entry} (over : IsOver t input output xs ys result)
    → IsClosed t.table ys H → result ≡ Err (Table Full) → length H ≡ t.table.capacity
full_at_close {t} {input = input} {ys = ys} {result} {H = H} over closed is =
    let ends = subst (Ends t (IsAllRead result input.after) (length over.answered) over.rest over.after over.end) is over.ends in
    let (line, more, cut, few, does) = ends in
    elim does [
      | inl p ↦ absurd cc
      | inr q ↦ elim q [
        | inl p ↦ absurd cc
        | inr r ↦
            let turn = r.3 in
            let at : slice_get ys r.0 ≡ Some turn.y =
            ap (λ zs. slice_get zs r.0) (sym over.seats ∙ turn.seat.new)
            ∙ get_set over.after.seats r.0 turn.x turn.y turn.seat.old in
            omega (
              arith,
              turn.does.3.1.0.full,
              begins_length turn.y.met H (closed.held r.0 turn.y at).met,
              closed.history.few,
            )
      ]
    ]
