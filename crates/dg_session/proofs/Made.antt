-- What a seat makes by a command, and what is said of it.
--   gains_none, gains_same   a seat that stays gains nothing
--   Stands          the seat has gained the entry of a request
--   entry_made      so it has by an entry that is made after a history
--   call_names_none   a call is about no look
--   call_made       so by that of a call
--   settled_made    so by that of a finding on a look, and it is asked for on the look's number
--   rank_made       so by that of a rank test
--   stale_made      so by that of a question on a stale look
--   rank_within     a rank test that was made is within the limits
--   rank_past       and one with too many trials is not
--   entered, call_refused   a command is obeyed: by an entry that stands, and by a table that refuses
--   obeys_after     a command that is obeyed to a seat after it met a longer history is obeyed to it
--   unlooked, at_look   so it is with none, and with the look that is kept
--   call_keeps      a call that is no look keeps the look
use Rattle.dg_session.proofs.Common.{◌≡◌, ◌≢◌, ℕ, List, [], ◌∷◌, ◌++◌, length, map, Option, None, slice_get, Result, Ok, Err, refl, sym, ap, subst, ◌∙◌, append-nil, arith, StartData, IsTestable, IsPastLimits, past_within, RankVerdict, AtLeast, Below, finding_degree, request_for_finding, request_for_question, call_request, Entry, Plain, Request, Judged, Ranked, Finding, Question, JudgeQuestion, RankQuestion, Command, LookView, IsTakenLook, IsTried, entry_text, IsSizedReply, legal_sized, slice_get-seam, begins_on, begins_length, stand_longer, StandIn, SeatView, Keeps, RefusesCall, KeepsAfterRefusal, Fault, entering, IsEnteredAfter, IsAnswered, IsSettled, IsStale, Gains, looks_named, Enters, look_after, AnswersCommand, SessionEnd, Table, look_of, CallsTable, Setup, Seated, seated, made_by, Obeys, answer_text, Answer, Made, NoLook, TableData}
use Rattle.dg_rules.specs.declared.entry.Plain.TheVariants as plain
use Rattle.dg_rules.specs.declared.entry.Request.TheVariants.{Rank as RankRequest}
use Rattle.dg_session.proofs.Coming.{gained_met}

pub gains_none : (x y : SeatView) → Keeps x y → Gains x y []
gains_none x y keeps = record {
  number = keeps.number;
  mine = keeps.mine ∙ sym (append-nil x.mine);
  looks = [];
  told = keeps.told ∙ sym (append-nil x.told);
  named = refl;
  stand = tt;
  prefix = ([], keeps.prefix ∙ sym (append-nil x.prefix));
  order = record { begins = keeps.met; stand = tt; after = tt };
  still = λ none. keeps.prefix;
}

pub gains_same : (x : SeatView) → Gains x x []
gains_same x = gains_none x x (record {
  number = refl;
  mine = refl;
  told = refl;
  prefix = refl;
  met = ([], sym (append-nil x.met));
})

pub obeys_after : {N : Type 0} {t : Setup} {command : Command} {x y : SeatView} {look : Option ℕ} {new : Seated}
    {result : Result (Answer N) SessionEnd} → Keeps x y → Obeys t command (seated look y) new result
    → Obeys t command (seated look x) new result
obeys_after {new = new} {result} keeps obeys = record {
  does = obeys.does;
  gained = gained_met keeps new.seat (made_by result) obeys.gained;
  named = obeys.named;
}

pub record Stands (o : StartData) (request : Request) (r : ℕ × Entry) (x y : SeatView) : Type 0 where
  pub asked' : r.1.request ≡ request
  pub sized : IsSizedReply o.graph.size r.1.reply
  pub gained : Gains x y (r ∷ [])

pub entry_made : (table : TableData) (H : List Entry) (request : Request) (known heard : List (ℕ × Entry))
    (r : ℕ × Entry) (x y : SeatView)
    → known ≡ x.told ++ heard → map (λ p. p.0) heard ≡ looks_named request → StandIn H heard
    → IsEnteredAfter table request known (entering H r x y) → Stands table.start request r x y
entry_made table H request known heard r x y told named stand e = record {
  asked' = e.request';
  sized = legal_sized table.start (H ++ r.1 ∷ []) (length H) r.1 e.history.legal (slice_get-seam H r.1 []);
  gained = record {
    number = e.number;
    mine = e.mine;
    looks = heard;
    told = e.told ∙ told;
    named = named ∙ ap looks_named (sym e.request') ∙ sym (append-nil (looks_named r.1.request));
    stand = subst (λ K. StandIn K heard) (sym e.met) (stand_longer H (r.1 ∷ []) heard stand);
    prefix = begins_on x.prefix H y.prefix e.before.prefix (r.1 ∷ [], e.prefix);
    order = record {
      begins = begins_on x.met H y.met e.before.met (r.1 ∷ [], e.met);
      stand = (
        ap (λ K. slice_get K r.0) e.met ∙ ap (slice_get (H ++ r.1 ∷ [])) e.place ∙ slice_get-seam H r.1 [],
        tt,
      );
      after = (omega (arith, begins_length x.met H e.before.met, e.place), tt);
    };
    still = λ none. absurd (cc);
  };
}

call_names_none : (call : Plain) → [] ≡ looks_named (call_request call)
call_names_none plain.Look = refl
call_names_none (plain.Move m) = refl
call_names_none (plain.Gift v x) = refl
call_names_none (plain.Join u v) = refl
call_names_none plain.Claim = refl

pub call_made : {table : TableData} (call : Plain) {r : ℕ × Entry} {x y : SeatView}
    → IsAnswered table (call_request call) r x y → Stands table.start (call_request call) r x y
call_made {table} call {r} {x} {y} answered = entry_made table answered.0 (call_request call) x.told [] r x y
    (sym (append-nil x.told)) (call_names_none call) tt answered.1

pub settled_made : {table : TableData} {look : ℕ × Entry} {f : Finding} {r : ℕ × Entry} {x y : SeatView}
    → IsSettled table look f r x y → Stands table.start (request_for_finding look.0 f) r x y
settled_made {table} {look} {f} {r} {x} {y} settled =
    entry_made table settled.0 (request_for_finding look.0 f) _ (look ∷ []) r x y refl (names f)
    (settled.1.stands, tt) settled.1.entered
  where
    names : (f : Finding) → look.0 ∷ [] ≡ looks_named (request_for_finding look.0 f)
    names (Judged v) = refl
    names (Ranked v) = refl

pub stale_made : {table : TableData} {look r : ℕ × Entry} {x y : SeatView} (asks : Question)
    → IsStale table look asks r x y → Stands table.start (request_for_question look.0 asks) r x y
stale_made {table} {look} {r} {x} {y} asks stale =
    entry_made table stale.0 (request_for_question look.0 asks) _ (look ∷ []) r x y refl (names asks)
    (stale.1.stands, tt) stale.1.entered
  where
    names : (asks : Question) → look.0 ∷ [] ≡ looks_named (request_for_question look.0 asks)
    names JudgeQuestion = refl
    names (RankQuestion k) = refl

degree_kept : (look : LookView) (k w : ℕ) (v : RankVerdict) → IsTried look k w v → finding_degree v ≡ k
degree_kept look k w (AtLeast j) tried = tried.right.0
degree_kept look k w (Below j d) tried = tried.right.0

pub rank_made : {table : TableData} {look found : LookView} {k w : ℕ} {v : RankVerdict} {r : ℕ × Entry}
    {x y : SeatView} → found ≡ look → IsTried look k w v → IsSettled table found.receipt (Ranked v) r x y
    → Stands table.start (RankRequest look.receipt.0 k) r x y
rank_made {table} {look} {found} {k} {w} {v} {r} {x} {y} same tried settled =
    subst (λ d. Stands table.start (RankRequest look.receipt.0 d) r x y) (degree_kept look k w v tried)
    (settled_made {f = Ranked v} (rw same at settled))

pub rank_within : {o : StartData} {look : LookView} {k : ℕ} → IsTakenLook o look
    → IsTestable look.shown.graph.size k
    → IsTestable o.graph.size k
rank_within {k = k} taken within = subst (λ n. IsTestable n k) taken.vertices.0 within

pub rank_past : {o : StartData} {look : LookView} {k : ℕ} → IsTakenLook o look → IsPastLimits look.shown.graph.size k
    → IsTestable o.graph.size k → ⊥
rank_past {o} {k = k} taken prefix = past_within o.graph.size k (subst (λ n. IsPastLimits n k) taken.vertices.0 prefix)

-- the entry stands, and its line is to be said
pub entered : {N : Type 0} {t : Setup} {command : Command} {request : Request} {r : ℕ × Entry} {old new : Seated}
    → length t.names ≡ t.table.start.graph.size → Stands t.table.start request r old.seat new.seat
    → ((text : List ℕ) → Enters t.names old.look request (r ∷ []) new.look text
    → AnswersCommand t old.look command (r ∷ []) new.look text)
    → new.look ≡ look_after old.look r.0 request → Obeys {N = N} t command old new (Ok (Made r))
entered {t = t} {r = r} {old} size stands opens keeps = record {
  does = opens (entry_text t.names r.0 r.1.reply)
      (r, stands.asked', refl, keeps ∙ sym (ap (look_after old.look r.0) stands.asked'), refl);
  gained = stands.gained;
  named = subst (λ n. IsSizedReply n r.1.reply) (sym size) stands.sized;
}

-- nothing is made, since the table refuses the call
pub call_refused : {N : Type 0} {t : Setup} {command : Command} {old new : Seated} {fault : Fault}
    → CallsTable t.table.start.graph.size old.look command → KeepsAfterRefusal fault old.seat new.seat
    → RefusesCall t.table new.seat fault → Obeys {N = N} t command old new (Err (Table fault))
call_refused {old = old} {new} calls keeps refused =
    record { does = (refl, (calls, refused)); gained = gains_none old.seat new.seat keeps.0; named = tt }

-- a command that needs a look finds none
pub unlooked : {N : Type 0} {t : Setup} {command : Command} {x : SeatView} {kept after : Option LookView} → kept ≡ None
    → after ≡ None → AnswersCommand t None command [] None (answer_text {N = N} t.names NoLook)
    → Obeys {N = N} t command (seated (look_of kept) x) (seated (look_of after) x) (Ok NoLook)
unlooked {x = x} p q answers = rw (p, q) (record { does = answers; gained = gains_same x; named = tt })

-- the look that is kept, if one is
pub at_look : {N : Type 0} {t : Setup} {command : Command} {x : SeatView} {kept look : Option LookView} {new : Seated}
    {result : Result (Answer N) SessionEnd} → kept ≡ look → Obeys t command (seated (look_of look) x) new result
    → Obeys t command (seated (look_of kept) x) new result
at_look {t = t} {command} {x} {new = new} {result} is obeys =
    subst (λ (k : Option LookView). Obeys t command (seated (look_of k) x) new result) (sym is) obeys

pub call_keeps : (kept : Option ℕ) (n : ℕ) (call : Plain) → call ≢ plain.Look → look_after kept n (call_request call) ≡ kept
call_keeps kept n plain.Look other = absurd (other refl)
call_keeps kept n (plain.Move m) other = refl
call_keeps kept n (plain.Gift v x) other = refl
call_keeps kept n (plain.Join u v) other = refl
call_keeps kept n plain.Claim other = refl

pub at_command : {N : Type 0} {t : Setup} {command other : Command} {old new : Seated} {result : Result (Answer N) SessionEnd}
    → command ≡ other → Obeys t other old new result → Obeys t command old new result
at_command {t = t} {old = old} {new} {result} is obeys = subst (λ c. Obeys t c old new result) (sym is) obeys
