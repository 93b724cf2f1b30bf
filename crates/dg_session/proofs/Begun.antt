-- Why sessions are not told, with one seat more.
--   none_begun     where the seats are as they were, none has begun
--   nobody_plays   no seats have no sessions
--   one_more       the session of a first seat before those of the others is one of all
--   more_begun     the session of a first seat, and what became of those after it
--   party_lacks    a party whose sessions are not told is refused for what they lack
use Rattle.dg_session.proofs.Common.{◌≡◌, ℕ, nil_from_length, suc, ◌≤◌, List, ◌∷◌, length, arith, sym, ap, subst, ◌∙◌, Result, Vec, AreFresh, SeatView, SessionEnd, IsScriptOver, IsSessionsFault, script_bytes, Shortage, OutOfMemory, NoThread, IsPartyRefused, TableData}
use Rattle.dg_session.specs.Parties.{AreSessions, FirstHaveRun}
use Rattle.dg_session.specs.declared.played.PartyRefusal.TheVariants as party
use Rattle.dg_session.proofs.Whole.{contents_count}

pub none_begun : (table : TableData) (names : List (List ℕ)) (scripts left : List (Vec ℕ)) (script : Vec ℕ)
    (xs rest ys : List SeatView) (x y : SeatView)
    → scripts ≡ script ∷ left → xs ≡ x ∷ rest → y ≡ x → ys ≡ rest → 2 ≤ length scripts
    → IsSessionsFault table names (script_bytes scripts) xs (y ∷ ys) NoThread
unfolding FirstHaveRun
none_begun table names scripts left script xs rest ys x y d e f h two = (
  rw (contents_count scripts) two,
  (0, rw d (omega arith), ap (λ z. z ∷ ys) f ∙ ap (λ zs. x ∷ zs) h ∙ sym e),
)

pub one_more : (table : TableData) (names : List (List ℕ)) (scripts left : List (Vec ℕ)) (script : Vec ℕ)
    (xs rest ys : List SeatView) (x y : SeatView) (end : Result ℕ SessionEnd) (ends : List (Result ℕ SessionEnd))
    → scripts ≡ script ∷ left → xs ≡ x ∷ rest → IsScriptOver table names script.items x y end
    → AreSessions table names (script_bytes left) rest ys ends
    → AreSessions table names (script_bytes scripts) xs (y ∷ ys) (end ∷ ends)
unfolding AreSessions
one_more table names scripts left script xs rest ys x y end ends e f session are = rw (e, f) (session, are)

pub nobody_plays : (table : TableData) (names : List (List ℕ)) (scripts : List (Vec ℕ)) (xs : List SeatView)
    (ends : List (Result ℕ SessionEnd))
    → length scripts ≡ length xs → length scripts ≡ length ends → length xs ≡ 0
    → AreSessions table names (script_bytes scripts) xs xs ends
unfolding AreSessions
nobody_plays table names scripts xs ends same told none =
    rw (nil_from_length scripts (same ∙ none), nil_from_length xs none, nil_from_length ends (sym told ∙ same ∙ none)) tt

pub more_begun : (table : TableData) (names : List (List ℕ)) (scripts left : List (Vec ℕ)) (script : Vec ℕ)
    (xs rest ys : List SeatView) (x y : SeatView) (end : Result ℕ SessionEnd) (lack : Shortage)
    → scripts ≡ script ∷ left → xs ≡ x ∷ rest → IsScriptOver table names script.items x y end
    → (lack ≡ NoThread) × IsSessionsFault table names (script_bytes left) rest ys NoThread
    → (lack ≡ NoThread) × IsSessionsFault table names (script_bytes scripts) xs (y ∷ ys) NoThread
unfolding FirstHaveRun
more_begun table names scripts left script xs rest ys x y end lack e f session (told, (two, (k, some, begun))) =
    (told, (rw e (omega (arith, two)), (suc k, rw e (omega (arith, some)), rw (e, f) ((end, session), begun))))

pub party_lacks : (table : TableData) (n : ℕ) (names scripts : List (List ℕ)) (opened xs ys : List SeatView)
    (lack : Shortage)
    → n ≡ table.seats → AreFresh n opened → xs ≡ opened
    → IsSessionsFault table names scripts xs ys lack → IsPartyRefused table names scripts (party.Shortage lack)
party_lacks table n names scripts opened xs ys OutOfMemory same fresh lent refused = tt
party_lacks table n names scripts opened xs ys NoThread same fresh lent refused = record {
  before = xs;
  after = ys;
  fresh = subst (λ k. AreFresh k xs) same (rw lent fresh);
  holds = refused;
}
