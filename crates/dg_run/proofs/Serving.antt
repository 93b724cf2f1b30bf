-- Seats that are lent and come back, and the parties that may be.
--   held_count     files that are held are as many as their names
--   may_play       scripts that are held are as many as may have seats
--   served         a session whose table is closed served it
--   unclosed       a session whose table is not closed, though all its seats were handed in
--   party_on       a party over files that are held is that of the table that one of them describes
--   refused_lent   so is one that is refused, where the start and the names were lent
--   as_it_was      what nobody writes to is as it was
--   reader_anew, writer_anew   a reader, and a writer, to which nothing has happened
use Rattle.dg_system.specs.Growth.{StreamReading, StreamWriting, reading_anew, writing_anew}
use Rattle.std.specs.Prelude.{false}
use Rattle.dg_run.proofs.Common.{◌≡◌, ℕ, suc, ◌≤◌, List, [], ◌∷◌, length, map, Option, None, Some, refl, sym, ap, subst, ◌∙◌, Bor, Vec, Global, length-map, MAX_SEATS, IsSeatCount, SeatView, Held, StartData, Entry, IsClosed, IsCloseRefused, all_there, none_missing, entered_all, full_at_close, Setup, Passage, IsHeard, IsServed, IsUnclosed, SessionEnd, script_bytes, IsParty, IsPartyRefused, contents_count, PartyRefusal, PartyTask, DescribesTable, MayHoldAll, Keeps, script_names, IsPartyOf, IsRefusedOn, table_data_of, Result}

pub held_count : (held : List ℕ → Held) (names all : List (List ℕ)) → MayHoldAll held names all
    → length all ≡ length names
held_count held [] [] known = refl
held_count held [] (b ∷ all) known = absurd known
held_count held (n ∷ names) [] known = absurd known
held_count held (n ∷ names) (b ∷ all) known = ap suc (held_count held names all known.1)

pub may_play : (held : List ℕ → Held) (n : ℕ) (names : List (Bor (List ℕ))) (all : List (Vec ℕ Global)) →
    MayHoldAll held (map (λ name. name.now) names) (map (λ script. script.items) all) → n ≡ length names → 1 ≤ n
    → n ≤ MAX_SEATS → IsSeatCount (length all)
may_play held n names all known count least most =
    let same : length (map (λ (script : Vec ℕ Global). script.items) all)
    ≡ length (map (λ (name : Bor (List ℕ)). name.now) names) =
    held_count held (map (λ (name : Bor (List ℕ)). name.now) names) (map (λ (script : Vec ℕ Global). script.items) all)
    known in
    let scripts : length (map (λ (script : Vec ℕ Global). script.items) all) ≡ length all =
    length-map all (λ (script : Vec ℕ Global). script.items) in
    let given : length (map (λ (name : Bor (List ℕ)). name.now) names) ≡ length names =
    length-map names (λ (name : Bor (List ℕ)). name.now) in
    let total : length all ≡ n = sym scripts ∙ same ∙ given ∙ sym count in
    rw total (least, most)

pub served : {t : Setup} {input output : Passage} {end : Result ℕ SessionEnd}
    (heard : IsHeard t input output end) (H : List Entry)
    → map (λ (x : SeatView). x.number) heard.after ≡ map (λ (x : SeatView). x.number) heard.seats
    → IsClosed t.table heard.after H → IsServed t input output end
served heard H same closed = record {
  heard = heard;
  history = H;
  closed = closed;
  full = full_at_close heard.session.over closed;
  whole = entered_all heard.session.over heard.fresh same closed;
}

pub unclosed : {t : Setup} {input output : Passage} {end : Result ℕ SessionEnd}
    (heard : IsHeard t input output end) (zs : List SeatView) (s : ℕ)
    → map (λ (x : SeatView). x.number) heard.after ≡ map (λ (x : SeatView). x.number) heard.seats
    → IsCloseRefused t.table heard.after zs s → IsUnclosed t input output
unclosed {t} {end = end} heard zs s same refused =
    let complete = all_there t.table.seats heard.seats heard.after heard.fresh same in
    let none = none_missing t.table heard.after zs s complete refused in
    record {
      end = end;
      heard = heard;
      met = zs;
      refused = subst (IsCloseRefused t.table heard.after zs) none refused;
    }

pub party_on : (held : List ℕ → Held) (task : PartyTask) (o : StartData) (names : List (List ℕ))
    (all : List (Vec ℕ Global))
    (ends : List (Result ℕ SessionEnd)) (text : List ℕ) → DescribesTable (held task.file.now) o names →
    MayHoldAll held (script_names task) (map (λ script. script.items) all)
    → IsParty (table_data_of o (length all) task.capacity) names (script_bytes all) ends text →
    IsPartyOf held task ends text
party_on held task o names all ends text table known party =
    record {
      start = o;
      names = names;
      table = table;
      holds = (
        script_bytes all,
        known,
        subst (λ n. IsParty (table_data_of o n task.capacity) names (script_bytes all) ends text)
            (sym (contents_count all)) party,
      );
    }

pub refused_lent : (held : List ℕ → Held) (task : PartyTask) {o o' : StartData} {names names' : List (List ℕ)}
    (all : List (Vec ℕ Global)) (refusal : PartyRefusal) → o' ≡ o → names' ≡ names → DescribesTable (held task.file.now)
    o names
    → MayHoldAll held (script_names task) (map (λ script. script.items) all)
    → IsPartyRefused (table_data_of o' (length all) task.capacity) names' (script_bytes all) refusal
    → IsRefusedOn held task refusal
refused_lent held task {o} {o'} {names} {names'} all refusal opened named table known refused =
    let at : ℕ → StartData → List (List ℕ) → Type 0 =
    λ n x ns. IsPartyRefused (table_data_of x n task.capacity) ns (script_bytes all) refusal in
    record {
      start = o;
      names = names;
      table = table;
      holds = (
        script_bytes all,
        known,
        subst (λ n. at n o names) (sym (contents_count all))
            (subst (λ x. at (length all) x names) opened (subst (at (length all) o') named refused)),
      );
    }

pub as_it_was : (held : Option (List ℕ)) → Keeps held held
as_it_was None = tt
as_it_was (Some bytes) = refl

pub reader_anew : {r : StreamReading} {left : Option (List ℕ)} → r.remaining ≡ left → r.has_failed ≡ false → r ≡ reading_anew left
reader_anew left none = rw (← left, ← none) refl

pub writer_anew : {w : StreamWriting} {held : Option (List ℕ)} → w.contents ≡ held → w.has_failed ≡ false → w ≡ writing_anew held
writer_anew held none = rw (← held, ← none) refl
