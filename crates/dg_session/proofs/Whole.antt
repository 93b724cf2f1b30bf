-- A party, from what its calls ensure.
--   number_kept      a session leaves its seat the number
--   AreAlong, along  there are as many ends as scripts, the seats keep their numbers, and each session has its own, before
--                    and after
--   calls_are        the calls that were counted are those of the history
--   contents_count   each script has its bytes
--   shown_size       the amounts after a history are as many as the graph's vertices
--   seats_back       seats that were lent as the front of a list come back there
--   whole            sessions of fresh seats, which a table was closed with, are a party
--   whole_lent       so are they where the seats were lent as the front of a list
--   party_unclosed   where the table was not closed with them, there is no party for that
use Rattle.dg_session.proofs.Common.{◌≡◌, ℕ, zero, suc, ◌+◌, ◌<◌, ◌≤◌, List, [], ◌∷◌, ◌++◌, length, map, take, slice_get, Some, arith, refl, sym, ap, subst, ◌∙◌, Result, codes, decimal, unwrap_or, slice_index, Vec, none-some, take-append_seam, length-map, StartData, Vector, at, ShowsPosition, position_after, gifts_in, pairs, Entry, vertices_stay, SeatView, entries_of, AreFresh, IsClosed, AreAuditTotals, IsCloseRefused, all_there, none_missing, Ghosts, Audit, SessionEnd, IsScriptOver, script_bytes, numbered_entries_text, seat_text, totals_text, IsParty, IsPartyRefused, Log, TableData}
use Rattle.dg_session.specs.Parties.{AreSessions}
use Rattle.dg_session.specs.Printed.{seats_text, calls_text}

number_kept : {table : TableData} {names : List (List ℕ)} {script : List ℕ} {x y : SeatView}
    {end : Result ℕ SessionEnd}
    → IsScriptOver table names script x y end → y.number ≡ x.number
number_kept h = ap (λ numbers. slice_index numbers 0) h.session.numbers

record IsSessionAt (table : TableData) (names : List (List ℕ)) (xs ys : List SeatView) (i : ℕ)
    (script : List ℕ)
    (end : Result ℕ SessionEnd) : Type 0 where
  before : SeatView
  after : SeatView
  first : slice_get xs i ≡ Some before
  last : slice_get ys i ≡ Some after
  session : IsScriptOver table names script before after end

-- what sessions side by side come to
record AreAlong (table : TableData) (names scripts : List (List ℕ)) (xs ys : List SeatView)
    (ends : List (Result ℕ SessionEnd)) : Type 0 where
  count : length ends ≡ length scripts
  numbers : map (λ (y : SeatView). y.number) ys ≡ map (λ (x : SeatView). x.number) xs
  each : (i : ℕ) (script : List ℕ) (end : Result ℕ SessionEnd) → slice_get scripts i ≡ Some script
      → slice_get ends i ≡ Some end → IsSessionAt table names xs ys i script end

along : (table : TableData) (names scripts : List (List ℕ)) (xs ys : List SeatView) (ends : List (Result ℕ SessionEnd))
    → AreSessions table names scripts xs ys ends → AreAlong table names scripts xs ys ends
unfolding AreSessions
along table names (c ∷ cs) (x ∷ xs) (y ∷ ys) (e ∷ es) are =
    let rest = along table names cs xs ys es are.1 in
    record {
      count = ap suc rest.count;
      numbers =
          ap (λ n. n ∷ map (λ (y : SeatView). y.number) ys) (number_kept are.0)
          ∙ ap (λ ns. x.number ∷ ns) rest.numbers;
      each = each rest.each;
    }
  where
    each : ((i : ℕ) (script : List ℕ) (end : Result ℕ SessionEnd) → slice_get cs i ≡ Some script
        → slice_get es i ≡ Some end → IsSessionAt table names xs ys i script end)
        → (i : ℕ) (script : List ℕ) (end : Result ℕ SessionEnd) → slice_get (c ∷ cs) i ≡ Some script
        → slice_get (e ∷ es) i ≡ Some end → IsSessionAt table names (x ∷ xs) (y ∷ ys) i script end
    each later zero script end there told =
        let same : c ≡ script = ap (λ t. unwrap_or t c) there in
        let told_so : e ≡ end = ap (λ t. unwrap_or t e) told in
        record { before = x; after = y; first = refl; last = refl; session = rw (← same, ← told_so) are.0 }
    each later (suc i) script end there told =
        let s = later i script end there told in
        record { before = s.before; after = s.after; first = s.first; last = s.last; session = s.session }
along table names [] [] [] [] are =
    record { count = refl; numbers = refl; each = λ i script end there told. absurd (none-some script there) }
along table names [] [] [] (e ∷ es) are = elim are [ ]
along table names [] [] (y ∷ ys) ends are = elim are [ ]
along table names [] (x ∷ xs) ys ends are = elim are [ ]
along table names (c ∷ cs) [] ys ends are = elim are [ ]
along table names (c ∷ cs) (x ∷ xs) [] ends are = elim are [ ]
along table names (c ∷ cs) (x ∷ xs) (y ∷ ys) [] are = elim are [ ]

calls_are : (H : List Entry) (s n : ℕ) (calls : List ℕ) → n ≤ length calls
    → ((k : ℕ) → k < n → slice_index calls k ≡ length (entries_of (s + k) H))
    → calls_text s (take n calls) ≡ seats_text s n H
unfolding calls_text seats_text
calls_are H s zero calls enough each = refl
calls_are H s (suc n) [] enough each = absurd (omega arith)
calls_are H s (suc n) (count ∷ calls) enough each =
    let here : s + 0 ≡ s = omega arith in
    let first : count ≡ length (entries_of s H) = each 0 (omega arith) ∙ ap (λ k. length (entries_of k H)) here in
    let rest : (k : ℕ) → k < n → slice_index calls k ≡ length (entries_of ((s + 1) + k) H) =
    λ k less.
    let number : s + suc k ≡ (s + 1) + k = omega arith in
    each (suc k) (omega (arith, less)) ∙ ap (λ j. length (entries_of j H)) number in
    ap (λ c. seat_text s c ++ calls_text (s + 1) (take n calls)) first
    ∙ ap (λ t. seat_text s (length (entries_of s H)) ++ t) (calls_are H (s + 1) n calls (omega (arith, enough)) rest)

call_counts : {N : Type 0} {named : Ghosts N} (table : TableData) (ys : List SeatView) (a : Audit N named)
    → IsClosed table ys a.pen.entries → AreAuditTotals table ys a
    → (k : ℕ) → k < table.seats → slice_index a.calls k ≡ length (entries_of (1 + k) a.pen.entries)
call_counts table ys a closed totals k less =
    let has = closed.complete (k + 1) (omega arith) (omega (arith, less)) in
    let same : k + 1 ≡ 1 + k = omega arith in
    totals.calls has.0 has.1 has.2 k has.3
    ∙ ap length (sym (closed.held has.0 has.1 has.2).mine)
    ∙ ap (λ j. length (entries_of j a.pen.entries)) (has.3 ∙ same)

pub contents_count : (scripts : List (Vec ℕ)) → length (script_bytes scripts) ≡ length scripts
contents_count [] = refl
contents_count (script ∷ scripts) = ap suc (contents_count scripts)

pub shown_size : (o : StartData) (H : List Entry) (position : Vector) → ShowsPosition (position_after o H) position
    → o.graph.size ≡ position.size
shown_size o H position shown = sym (shown.size ∙ vertices_stay o H)

-- the totals of a history, with other lines of seats
abbrev audit_with : List (List ℕ) → List Entry → Vector → List ℕ → List ℕ
audit_with names H position seats =
    codes "entries " ++ decimal (length H) ++ codes "\ngifts " ++ decimal (gifts_in H) ++ codes "\nposition "
    ++ pairs names (at position) ++ codes "\n" ++ seats

whole : {N : Type 0} {named : Ghosts N} (table : TableData) (names scripts : List (List ℕ)) (xs ys : List SeatView)
    (ends : List (Result ℕ SessionEnd)) (a : Audit N named) (text : List ℕ)
    → length scripts ≡ table.seats → AreFresh table.seats xs → AreSessions table names scripts xs ys ends
    → IsClosed table ys a.pen.entries → AreAuditTotals table ys a → table.seats ≤ length a.calls
    → text ≡ numbered_entries_text names 0 a.pen.entries
    ++ totals_text names a.entries a.gifts a.position (take table.seats a.calls)
    → IsParty table names scripts ends text
whole table names scripts xs ys ends a text many fresh are closed totals enough printed =
    let H = a.pen.entries in
    let all = along table names scripts xs ys ends are in
    record {
      history = H;
      is = closed.history;
      count = all.count;
      sessions = λ i script end there told.
          let s = all.each i script end there told in
          let number : s.after.number ≡ i + 1 = number_kept s.session ∙ fresh.number i s.before s.first in
          record {
            before = s.before;
            after = s.after;
            seat = fresh.number i s.before s.first;
            no_calls = fresh.mine i s.before s.first;
            begins = (closed.held i s.after s.last).prefix;
            met = (closed.held i s.after s.last).met;
            own = ap (λ k. entries_of k H) (sym number) ∙ (closed.held i s.after s.last).mine;
            session = s.session;
          };
      position = a.position;
      shown = totals.position;
      printed =
          printed
          ∙ ap (λ k. numbered_entries_text names 0 H ++ totals_text names k a.gifts a.position (take table.seats a.calls))
          totals.entries
          ∙ ap (λ k. numbered_entries_text names 0 H ++ totals_text names (length H) k a.position (take table.seats a.calls))
          totals.gifts
          ∙ ap (λ t. numbered_entries_text names 0 H ++ audit_with names H a.position t)
          (calls_are H 1 table.seats a.calls enough (call_counts table ys a closed totals)
          ∙ ap (λ k. seats_text 1 k H) (sym many));
    }

-- seats that were lent as the front of a list come back there
pub seats_back : (len : ℕ) (xs ys rest : List SeatView) → length xs ≡ len
    → map (λ (x : SeatView). x.number) ys ≡ map (λ (x : SeatView). x.number) xs → take len (ys ++ rest) ≡ ys
seats_back len xs ys rest whole numbers =
    let number : SeatView → ℕ = λ x. x.number in
    let all : length ys ≡ len = sym (length-map ys number) ∙ ap length numbers ∙ length-map xs number ∙ whole in
    ap (λ k. take k (ys ++ rest)) (sym all) ∙ take-append_seam ys rest

pub whole_lent : {N : Type 0} {named : Ghosts N} (table : TableData) (names scripts : List (List ℕ)) (n len : ℕ)
    (opened xs ys rest : List SeatView)
    (ends : List (Result ℕ SessionEnd)) (a : Audit N named) (text : List ℕ)
    → length scripts ≡ n → n ≡ table.seats → AreFresh n opened → xs ≡ opened → len ≡ length opened
    → AreSessions table names scripts xs ys ends
    → IsClosed table (take len (ys ++ rest)) a.pen.entries × AreAuditTotals table (take len (ys ++ rest)) a
    → n ≤ length a.calls
    → text ≡ numbered_entries_text names 0 a.pen.entries ++ totals_text names a.entries a.gifts a.position (take n a.calls)
    → IsParty table names scripts ends text
whole_lent table names scripts n len opened xs ys rest ends a text many same fresh lent counted are closed enough
    printed =
    let numbers = (along table names scripts xs ys ends are).numbers in
    let front = seats_back len xs ys rest (ap length lent ∙ sym counted) numbers in
    whole table names scripts xs ys ends a text (many ∙ same)
    (subst (λ k. AreFresh k xs) same (rw lent fresh)) are (rw (← front) closed.0) (rw (← front) closed.1)
    (subst (λ k. k ≤ length a.calls) same enough)
    (subst (λ k. text ≡ numbered_entries_text names 0 a.pen.entries
    ++ totals_text names a.entries a.gifts a.position (take k a.calls)) same printed)

pub party_unclosed : (table : TableData) (names scripts : List (List ℕ)) (n len : ℕ)
    (opened xs ys rest zs : List SeatView)
    (ends : List (Result ℕ SessionEnd)) (seat : ℕ)
    → n ≡ table.seats → AreFresh n opened → xs ≡ opened → len ≡ length opened
    → AreSessions table names scripts xs ys ends → IsCloseRefused table (take len (ys ++ rest)) zs seat
    → IsPartyRefused table names scripts Log
party_unclosed table names scripts n len opened xs ys rest zs ends seat same fresh lent counted are refused =
    let numbers = (along table names scripts xs ys ends are).numbers in
    let front = seats_back len xs ys rest (ap length lent ∙ sym counted) numbers in
    let begun : AreFresh table.seats xs = subst (λ k. AreFresh k xs) same (rw lent fresh) in
    let unclosed = subst (λ (ws : List SeatView). IsCloseRefused table ws zs seat) front refused in
    let complete = all_there table.seats xs ys begun numbers in
    let none = none_missing table ys zs seat complete unclosed in
    record {
      before = xs;
      after = ys;
      fresh = begun;
      holds = ((ends, are), (zs, subst (IsCloseRefused table ys zs) none unclosed));
    }
