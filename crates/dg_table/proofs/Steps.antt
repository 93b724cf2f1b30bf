-- One step of a table.
--   history_more  a history of the table, with one more entry, is one
--   holds_more    a history that holds what a seat knows, with one more entry of the seat, holds what it then knows
--   kept_more     what a seat keeps fits together after one more call of its own
--   answered      how a call is answered by the receipt of an entry that the game allows
--   told_of       how a request is entered by a seat that is told of an entry, where its call is answered and the entry
--                 stands
--   settled       how a finding is so entered, where the entry is its look
--   staled        how a question is so entered, where the entry is its look, and gifts were accepted since
--   not_stale     how a question is not stale, where the entry is its look, and no gift was accepted since
--   settling_refused   how a finding is refused, where its seat is admissible, its look's number is in the history, and
--                      the step
--                 is refused
--   held_none     what the lock holds at the start
--   held_more     what the lock holds after one more entry
use Rattle.dg_table.proofs.Common.{inl, inr, ◌≡◌, ◌≢◌, Option, take, ℕ, ◌+◌, ◌<◌, ◌≤◌, List, [], ◌∷◌, ◌++◌, length, get_or, set, slice_get, Some, arith, refl, sym, ap, subst, ◌∙◌, length-set, length_push, append-nil, slice_get_within, StartData, IsLegal, gifts_in, IsLookAt, request_for_finding, request_for_question, KeepsFinding, Replies, GameState, LeadsTo, Entry, MAX_SEATS, Stale, Request, Finding, Question, LookData, legal_none, slice_get-append, entering, IsEnteredAfter, IsAnsweredAfter, RefusesStep, RefusesSettling, Fault, OutOfMemory, Full, Log, IsUnderLock, IsReady, IsKeptLook, IsSeatState, IsPrefixOf, IsHistoryOf, IsLookOf, SeatView, HoldsKnown, IsAdmissible, HasMet, AreOfSeats, entries_of, IsSettledAfter, IsStaleAfter, IsNotStaleAfter, TableData, Written}
use Rattle.dg_table.proofs.Entries.{own_more}
use Rattle.dg_table.proofs.Findings.{stale_both, carried_over}
use Rattle.dg_table.proofs.Numbered.{stand_more, stand_longer}
use Rattle.dg_table.proofs.Counts.{seated_more, counted_more, counted_none}

pub holds_more : (H : List Entry) (e : Entry) (x y : SeatView) → HoldsKnown H x → e.seat ≡ x.number → y.number ≡ x.number →
    y.mine ≡ x.mine ++ (length H, e) ∷ [] → y.told ≡ x.told → y.prefix ≡ H ++ e ∷ [] → y.met ≡ H ++ e ∷ [] →
    HoldsKnown (H ++ e ∷ []) y
holds_more H e x y holds own number mine told prefix met = record {
  prefix = ([], sym (append-nil (H ++ e ∷ [])) ∙ ap (λ K. K ++ []) (sym prefix));
  met = ([], sym (append-nil (H ++ e ∷ [])) ∙ ap (λ K. K ++ []) (sym met));
  mine = ap (λ s. entries_of s (H ++ e ∷ [])) number ∙ own_more x.number H e own
      ∙ ap (λ ps. ps ++ (length H, e) ∷ []) holds.mine ∙ sym mine;
  told = rw told (stand_longer H (e ∷ []) x.told holds.told);
}

pub history_more : (table : TableData) (H : List Entry) (e : Entry) → AreOfSeats table.seats H → 1 ≤ e.seat →
    e.seat ≤ table.seats →
    length H < table.capacity → IsLegal table.start (H ++ e ∷ []) → IsHistoryOf table (H ++ e ∷ [])
history_more table H e seated least most room legal = record {
  legal = legal;
  few = omega (arith, length_push H e);
  seated = seated_more table.seats H e seated least most;
}

pub kept_more : {table : TableData} {x y : SeatView} {told : List (ℕ × Entry)} {look next : Option LookData}
    (H : List Entry) (e : Entry) → IsSeatState table x told look → IsHistoryOf table (H ++ e ∷ []) →
    entries_of x.number H ≡ x.mine → e.seat ≡ x.number → IsKeptLook table.start (x.mine ++ (length H, e) ∷ []) next →
    y.number ≡ x.number → y.mine ≡ x.mine ++ (length H, e) ∷ [] → y.told ≡ x.told → y.prefix ≡ H ++ e ∷ [] →
    y.met ≡ H ++ e ∷ [] → IsSeatState table y told next
kept_more {table} {x} {y} {told} {look} {next} H e seated found held own last number mine heard prefix met = record {
  least = rw number seated.least;
  most = rw number seated.most;
  found = rw prefix found;
  own = rw (number, prefix, mine) (own_more x.number H e own ∙ ap (λ ps. ps ++ (length H, e) ∷ []) held);
  met = rw met found;
  since = rw (prefix, met) ([], sym (append-nil (H ++ e ∷ [])));
  told_said = rw heard seated.told_said;
  look_kept = rw mine last;
}

pub answered : {table : TableData} {H : List Entry} {x : SeatView} (e : Entry) (y : SeatView) →
    Replies table.start H e.request e.reply → IsHistoryOf table (H ++ e ∷ []) → HoldsKnown H x → e.seat ≡ x.number →
    y.number ≡ x.number →
    y.mine ≡ x.mine ++ (length H, e) ∷ [] → y.told ≡ x.told → y.prefix ≡ H ++ e ∷ [] → y.met ≡ H ++ e ∷ [] →
    IsAnsweredAfter table e.request (entering H (length H, e) x y)
answered {table} {H} {x} e y replies history holds own number mine told prefix met = record {
  place = refl;
  seat = own;
  request' = refl;
  reply = replies;
  before = holds;
  history = history;
  holds = holds_more H e x y holds own number mine told prefix met;
  number = number;
  mine = mine;
  told = told;
  prefix = prefix;
  met = met;
}

pub told_of : {table : TableData} {H : List Entry} {request : Request} {r : ℕ × Entry} {s m : SeatView}
    (look : ℕ × Entry) (t : SeatView) →
    IsAnsweredAfter table request (entering H r s m) → slice_get H look.0 ≡ Some look.1 →
    t.number ≡ m.number → t.mine ≡ m.mine → t.told ≡ m.told ++ look ∷ [] → t.prefix ≡ m.prefix →
    t.met ≡ m.met →
    IsEnteredAfter table request (s.told ++ look ∷ []) (entering H r s t)
told_of {table} {H} {request} {r} {s} {m} look t answered stands number mine told prefix met =
    let hears : t.told ≡ s.told ++ look ∷ [] = told ∙ ap (λ ps. ps ++ look ∷ []) answered.told in
    let there : slice_get (H ++ r.1 ∷ []) look.0 ≡ Some look.1 =
    slice_get-append H (r.1 ∷ []) look.0 (slice_get_within H look.0 look.1 stands) ∙ stands in
    record {
      place = answered.place;
      seat = answered.seat;
      request' = answered.request';
      reply = answered.reply;
      before = answered.before;
      history = answered.history;
      holds = record {
        prefix = subst (λ K. IsPrefixOf K (H ++ r.1 ∷ [])) (sym prefix) answered.holds.prefix;
        met = subst (λ K. IsPrefixOf K (H ++ r.1 ∷ [])) (sym met) answered.holds.met;
        mine = ap (λ s. entries_of s (H ++ r.1 ∷ [])) number ∙ answered.holds.mine ∙ sym mine;
        told = rw told (stand_more (H ++ r.1 ∷ []) m.told look answered.holds.told there);
      };
      number = number ∙ answered.number;
      mine = mine ∙ answered.mine;
      told = hears;
      prefix = prefix ∙ answered.prefix;
      met = met ∙ answered.met;
    }

pub settled : (table : TableData) (H : List Entry) (look : ℕ × Entry) (x : LookData) (f : Finding) (r : ℕ × Entry)
    (s m t : SeatView) →
    IsAnsweredAfter table (request_for_finding x.number f) (entering H r s m) → IsLookOf look x →
    slice_get H look.0 ≡ Some look.1 →
    KeepsFinding f r.1.reply →
    t.number ≡ m.number → t.mine ≡ m.mine → t.told ≡ m.told ++ look ∷ [] → t.prefix ≡ m.prefix →
    t.met ≡ m.met →
    IsSettledAfter table look f (entering H r s t)
settled table H look x f r s m t answered of stands kept number mine told prefix met =
    let replies : Replies table.start H (request_for_finding look.0 f) r.1.reply =
    subst (λ i. Replies table.start H (request_for_finding i f) r.1.reply) of.number answered.reply in
    let answered_on = subst
    (λ i. IsAnsweredAfter table (request_for_finding i f) (entering H r s m)) of.number answered in
    record {
      entered = told_of look t answered_on stands number mine told prefix met;
      stands = stands;
      kept = kept;
      stale = stale_both table.start H look.0 f r.1.reply replies;
      carried = carried_over table.start H look.0 f r.1.reply kept replies;
    }

pub staled : (table : TableData) (H : List Entry) (look : ℕ × Entry) (x : LookData) (asks : Question)
    (game : GameState) (r : ℕ × Entry)
    (s m t : SeatView) →
    IsAnsweredAfter table (request_for_question x.number asks) (entering H r s m) → IsLookOf look x →
    slice_get H look.0 ≡ Some look.1 →
    LeadsTo table.start H game → IsLookAt table.start H x → x.gifts ≢ game.gifts → r.1.reply ≡ Stale game.gifts →
    t.number ≡ m.number → t.mine ≡ m.mine → t.told ≡ m.told ++ look ∷ [] → t.prefix ≡ m.prefix →
    t.met ≡ m.met →
    IsStaleAfter table look asks (entering H r s t)
staled table H look x asks game r s m t answered of stands leads at other reply number mine told prefix met =
    let answered_on = subst
    (λ i. IsAnsweredAfter table (request_for_question i asks) (entering H r s m)) of.number answered in
    record {
      entered = told_of look t answered_on stands number mine told prefix met;
      stands = stands;
      since = λ same. other (at.gifts ∙ ap (λ i. gifts_in (take i H)) of.number ∙ same ∙ sym leads.gifts);
      stale = reply ∙ ap Stale leads.gifts;
    }

pub not_stale : {table : TableData} {H : List Entry} {look : ℕ × Entry} {x : LookData} {game : GameState} {s t : SeatView} →
    IsHistoryOf table H → IsReady table.capacity H s → slice_get H look.0 ≡ Some look.1 → IsLookOf look x →
    IsLookAt table.start H x → LeadsTo table.start H game → game.gifts ≡ x.gifts → HasMet H s t →
    IsNotStaleAfter table look H s t
not_stale {H = H} history ready stands of at leads same met = record {
  history = history;
  holds = ready.holds;
  stands = stands;
  since = sym (at.gifts ∙ ap (λ i. gifts_in (take i H)) of.number) ∙ sym same ∙ leads.gifts;
  kept = record {
    number = met.number;
    mine = met.mine;
    told = met.told;
    prefix = met.prefix;
    met = met.met.first;
  };
  met = met.met.second_longer ready.admissible.met;
}

pub settling_refused : (table : TableData) (p q : Written) (i : ℕ) (x : SeatView) (f : Fault) →
    IsAdmissible p.entries x → i < length p.entries → RefusesStep table p q x f
    → RefusesSettling table p q i x f
settling_refused table p q i x OutOfMemory admissible read refused = refused
settling_refused table p q i x Full admissible read refused = refused
settling_refused table p q i x Log admissible read (room, refused) = (
  room,
  elim refused [
    | inl other ↦ absurd (other.0 admissible)
    | inr stuck ↦ inr (inr (admissible, read, stuck.1))
  ],
)

pub held_none : {o : StartData} {game : GameState} (seats : ℕ) (counts : List ℕ) → LeadsTo o [] game →
    length counts ≡ MAX_SEATS → ((s : ℕ) → s < MAX_SEATS → get_or counts s 0 ≡ 0) → seats ≤ MAX_SEATS →
    IsUnderLock o seats [] game counts
held_none {o} {game} seats counts leads places zeros few = record {
  legal = legal_none o;
  game' = leads;
  seated = λ k e at. absurd (cc);
  counted = counted_none counts zeros;
  places = places;
  few = few;
}

pub held_more : {o : StartData} {seats : ℕ} {H : List Entry} {game next : GameState} {counts : List ℕ} (e : Entry) (s c : ℕ) →
    IsUnderLock o seats H game counts → IsLegal o (H ++ e ∷ []) → LeadsTo o (H ++ e ∷ []) next → e.seat ≡ s + 1 →
    e.seat ≤ seats → c ≡ get_or counts s 0 + 1 → IsUnderLock o seats (H ++ e ∷ []) next (set counts s c)
held_more {o} {seats} {H} {game} {next} {counts} e s c held legal leads own few more = record {
  legal = legal;
  game' = leads;
  seated = seated_more seats H e held.seated (omega arith) few;
  counted = counted_more counts H e s c held.counted held.places own (omega (arith, held.few)) more;
  places = length-set counts s c ∙ held.places;
  few = held.few;
}
