-- Lines of the seats that they are for.
--   seat_past     a line that begins with a seat that is too large is for none
--   spoken, unspoken   a line that its seat hears, and is told the answer, or not
--   nobody        a line for nobody
--   by_turns      what each turn leaves so, a line leaves so
--   sizes_kept    as many seats, and as many looks
--   IsHalt, halts_by   a line ends a session for what the table, the memory or a thread refused
use Rattle.dg_session.proofs.Common.{◌≡◌, ℕ, ◌+◌, ◌<◌, ◌≤◌, inl, inr, List, [], ◌++◌, length, length-set, map, Option, Some, Result, Ok, Err, refl, sym, ap, subst, ◌∙◌, arith, ⊤, slice_set, slice_index_or, slice_get-get_or, slice_get-map, option_map, map-set, Entry, SeatView, HasMet, LookView, IsSeatedLine, seated_parts, line_fault_text, Gains, Hears, Setup, State, state_of, look_of, IsFor, IsForNobody, ReplacesAt, Turn, Does, OfLine, Handles, Passage, Answer, Tells, answer_entries, answer_text, seated, EntriesSoFarView, BySeat, SessionEnd, Table, Memory, Spawn}
use Rattle.dg_lines.specs.declared.line.LineFault.TheVariants.{Seat}
use Rattle.dg_session.proofs.Coming.{comes_from, met_keeps, gained_met, hears_one}

pub seat_past : (n seat : ℕ) (text line : List ℕ) → IsSeatedLine seat text line → (seat ≤ n → ⊥) → IsForNobody BySeat n line
seat_past n seat text line is prefix i other for =
    let one = seated_parts line seat text is in
    let two = seated_parts line (i + 1) other for.0 in
    let both : Some seat ≡ Some (i + 1) = sym one.2 ∙ two.2 in
    let same : seat ≡ i + 1 = cc in
    prefix (omega (arith, same, for.1))

seat_turned : (xs : List SeatView) (i : ℕ) (d y : SeatView) → i < length xs
    → ReplacesAt i xs (slice_set xs i y) (slice_index_or xs i d) y
seat_turned xs i d y low = record { old = slice_get-get_or xs i d low; new = refl }

look_turned : (ks : List (Option LookView)) (i : ℕ) (e l : Option LookView) → i < length ks
    → ReplacesAt i (map look_of ks) (map look_of (slice_set ks i l)) (look_of (slice_index_or ks i e)) (look_of l)
look_turned ks i e l low = record {
  old = slice_get-map look_of ks i ∙ ap (option_map look_of) (slice_get-get_or ks i e low);
  new = map-set look_of ks i l;
}

-- the entries after those of the seat are what is put to what all lines entered
abbrev Follows : SeatView → SeatView → List (ℕ × Entry) → List (ℕ × Entry) → Type 0
Follows x y ps qs = (before made : List (ℕ × Entry)) → length before ≡ length x.mine → y.mine ≡ before ++ made
    → length made ≤ 1 → qs ≡ ps ++ made

module _ {t : Setup} (line text : List ℕ) (xs : List SeatView) (ks : List (Option LookView)) (i : ℕ)
    (d m y : SeatView) (e l : Option LookView) (old new : EntriesSoFarView)
    (for : IsFor t.how (length xs) line i text) (low : i < length xs) (size : length ks ≡ length xs)
    (meets : HasMet old.history (slice_index_or xs i d) m) (history : new.history ≡ y.met)
    (follows : Follows (slice_index_or xs i d) y old.entered new.entered) where
  turn : (made : List (ℕ × Entry)) (o : Result (List ℕ) SessionEnd)
      → OfLine t text y (look_of (slice_index_or ks i e)) made (look_of l) o → Gains m y made
      → Does t (state_of xs ks old) line (state_of (slice_set xs i y) (slice_set ks i l) new) o
  turn made o hears gained = inr (inr (
    i,
    text,
    for,
    record {
      x = slice_index_or xs i d;
      y = y;
      look = look_of (slice_index_or ks i e);
      after = look_of l;
      seat = seat_turned xs i d y low;
      kept = look_turned ks i e l (omega (arith, low, size));
      made = made;
      does = hears;
      gained = gained_met (met_keeps meets) y made gained;
      order = comes_from old.history m.met y.met made meets.met.second gained.order;
      history = history;
      entered = follows m.mine made (ap length meets.mine) gained.mine (hears_one t text y _ made (look_of l) o hears);
    },
  ))

  pub unspoken : {N : Type 0} {end : SessionEnd}
      → Hears {N = N} t text (seated (look_of (slice_index_or ks i e)) m) (seated (look_of l) y) (Err end)
      → Does t (state_of xs ks old) line (state_of (slice_set xs i y) (slice_set ks i l) new) (Err end)
  unspoken {end = end} h = turn [] (Err end) h.does h.gained

  pub spoken : {N B : Type 0} (said : Passage) (answer : Answer N) (result : Result B SessionEnd)
      → Hears t text (seated (look_of (slice_index_or ks i e)) m) (seated (look_of l) y) (Ok answer)
      → Tells (answer_text t.names answer) said result
      → Handles t line (state_of xs ks old) (state_of (slice_set xs i y) (slice_set ks i l) new) said result
  spoken said answer (Ok b) h told = (
    answer_text t.names answer,
    turn (answer_entries answer) (Ok (answer_text t.names answer)) h.does h.gained,
    told,
  )
  spoken said answer (Err end) h told = (
    subst (λ e. Does t (state_of xs ks old) line (state_of (slice_set xs i y) (slice_set ks i l) new) (Err e))
        (sym told.0)
        (turn (answer_entries answer) (Err Memory) (inr (look_of l, answer_text t.names answer, h.does)) h.gained),
    told.1,
  )

-- for nobody: the answer is said, or memory is refused
pub nobody : {B : Type 0} (t : Setup) (line : List ℕ) (s : State) (said : Passage) (result : Result B SessionEnd)
    → IsForNobody t.how (length s.seats) line → Tells (line_fault_text Seat) said result
    → Handles t line s s said result
nobody t line s said (Ok b) none told = (line_fault_text Seat, inl (none, refl, refl), told)
nobody t line s said (Err end) none told = (inr (inl (ap (λ e. Err e) told.0, refl)), told.1)

-- what each turn leaves so, a line leaves so
pub by_turns : {t : Setup} (P : State → Type 0)
    → ((i : ℕ) (text : List ℕ) (s z : State) (o : Result (List ℕ) SessionEnd) → Turn t i text s z o → P s → P z)
    → (s z : State) (line : List ℕ) (o : Result (List ℕ) SessionEnd) → Does t s line z o → P s → P z
by_turns P turned s z line o does holds = elim does [
  | inl p ↦ subst P (sym p.1) holds
  | inr q ↦ elim q [ inl p ↦ subst P (sym p.1) holds | inr r ↦ turned r.0 r.1 s z o r.3 holds ]
]

abbrev HasSizes : ℕ → ℕ → State → Type 0
HasSizes n k s = (length s.seats ≡ n) × (length s.looks ≡ k)

pub sizes_kept : (t : Setup) (s z : State) (line : List ℕ) (o : Result (List ℕ) SessionEnd) → Does t s line z o
    → HasSizes (length s.seats) (length s.looks) z
sizes_kept t s z line o does = by_turns (HasSizes (length s.seats) (length s.looks)) (λ i text a b o' turn sizes. (
  ap length turn.seat.new ∙ length-set a.seats i turn.y ∙ sizes.0,
  ap length turn.kept.new ∙ length-set a.looks i turn.after ∙ sizes.1,
)) s z line o does (refl, refl)

-- a line that ends a session does so for what the table, the memory or a thread refused
abbrev pub IsHalt : SessionEnd → Type 0
IsHalt (Table fault) = ⊤
IsHalt Spawn = ⊤
IsHalt Memory = ⊤
IsHalt end = ⊥

pub halts_by : (t : Setup) (s z : State) (line : List ℕ) (end : SessionEnd) → Does t s line z (Err end) → IsHalt end
halts_by t s z line (Table fault) does = tt
halts_by t s z line Spawn does = tt
halts_by t s z line Memory does = tt
halts_by t s z line end does = elim does [
  | inl p ↦ absurd cc
  | inr q ↦ elim q [
    | inl p ↦ absurd cc
    | inr r ↦ absurd r.3.does.3
  ]
]
