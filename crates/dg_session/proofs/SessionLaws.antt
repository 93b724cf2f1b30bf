-- Sessions, read after read.
--   IsSoFar          what was read is a stream of which all but what is pending is answered, and what was said is
--       written
--   so_far_new       nothing is read
--   so_far_more      one more read
--   session_unsaid   it ends before it reads, for want of memory
--   session_reads    where a read fails
--   session_halts    where it halts, or the writer took no more
--   session_ends     and with its input
--   script_unsaid, script_halts, script_ends   a script that nobody hears ends in the same ways
--   session_alone    a session of the seat that is alone
--   said_whole       after nothing, all that is kept is what was said since
--   fewer_left       fewer bytes can still be read
use Rattle.dg_session.proofs.Common.{◌≡◌, ◌≢◌, ℕ, ◌+◌, ◌-◌, ◌*◌, ◌<◌, ◌≤◌, inl, inr, List, [], ◌∷◌, ◌++◌, length, take, map, Option, None, Some, Result, Ok, Err, OnOk, IfErr, refl, sym, ap, subst, ◌∙◌, arith, append-nil, length-append, All, flat_map, true, false, All-head, All-tail, length-map, slice_index_or, Appends, Consumes, IsAtEnd, SeatView, with_newline, StreamWriting, appends_more, consumes_none, consumes_more, consumes_kept, Setup, IsLine, Passage, passage, State, begun, Cuts, Ends, Halts, IsAllRead, Writes, IsOver, IsSession, SoFar, beginning, IsReady, Goes, Says, Takes, IsWritten, MAX_LINE, MAX_LINES, READ_SIZE, SessionEnd, Read, Write, Memory}
use Rattle.std.specs.Io.KnownBytes.{Keeps}
use Rattle.dg_lines.specs.Cuts.{lines}
use Rattle.dg_session.proofs.Cutting.{line_is, cuts_over, cuts_all, cuts_short}
use Rattle.dg_session.proofs.Going.{begins_of, goes_none, says_none, goes_more, ends_over}
use Rattle.dg_session.proofs.InOrder.{stopped}

pub record IsSoFar (t : Setup) (input output : Passage) (xs : List SeatView) (at : SoFar) : Type 0 where
  pub stream : List ℕ
  pub read : Consumes input.before input.after stream
  pub says : Says t ⊥ (beginning xs) stream [] at output

abbrev pub so_far_new : {t : Setup} {input output : Option (List ℕ)} {xs : List SeatView} → 1 ≤ length xs
    → IsSoFar t (passage input input) (passage output output) xs (beginning xs)
so_far_new {t} {input} {output} {xs} some =
    let none_of : SeatView → Option ℕ = λ x. None in record {
      stream = [];
      read = consumes_none input;
      says = says_none (record {
        line = line_is [] refl;
        few = omega arith;
        full = λ full. refl;
        some = some;
        each = length-map xs none_of;
      });
    }

-- what was taken, if the writer took no more
broken_off : {B : Type 0} {t : Setup} {over : Type 0} {old new : SoFar} {bytes : List ℕ} {said : Passage}
    (taken : Result B SessionEnd) (takes : Takes t over old bytes new said taken)
    → Ends t over takes.at.count (takes.at.pending ++ takes.rest) takes.at.state new.state (Err Write)
broken_off (Ok b) takes = inl (sym (ap (λ (a : SoFar). a.state) takes.done.1))
broken_off (Err end) takes = stopped (Err end) takes.halted.2

all_written : (t : Setup) (s z : State) (ls : List (List ℕ)) (output : Passage) (text : List ℕ) (end : SessionEnd)
    → end ≢ Write → Appends output.before output.after text → Writes t s ls z output text (Err end)
all_written t s z ls output text Write other grown = absurd (other refl)
all_written t s z ls output text end other grown = grown

ended : (left : Option (List ℕ)) (end : SessionEnd) → end ≢ Read → IsAtEnd left → IsAllRead (Err end) left
ended left Read other is = absurd (other refl)
ended left end other is = is

whole : (t : Setup) (over : Type 0) (n : ℕ) (stream rest : List ℕ) (ls : List (List ℕ)) (s z : State)
    (result : Result ℕ SessionEnd) → Cuts over stream ls rest → Ends t over n rest s z result → OnOk result (ls ≡ lines stream)
whole t over n stream rest ls s z (Ok count) cut ends = cuts_all cut ends.2
whole t over n stream rest ls s z (Err end) cut ends = tt

-- a session that was so far goes on, or is over
module _ {t : Setup} {input rest old mid : Option (List ℕ)} {xs : List SeatView} {at : SoFar}
    (far : IsSoFar t (passage input rest) (passage old mid) xs at) where
  pub so_far_more : {rest' new : Option (List ℕ)} {to : SoFar} {bytes text : List ℕ} → Consumes rest rest' bytes
      → Goes t ⊥ at bytes [] to text → Appends mid new text → IsSoFar t (passage input rest') (passage old new) xs to
  so_far_more {rest'} {new} {to} {bytes} {text} read goes written = record {
    stream = far.stream ++ bytes;
    read = consumes_more input rest rest' far.stream bytes far.read read;
    says = record {
      text = far.says.text ++ text;
      grown = appends_more old mid new far.says.text text far.says.grown written;
      goes = goes_more far.says.goes goes;
    };
  }

  finish : {E : Type 0} {rest' new : Option (List ℕ)} {result : Result ℕ SessionEnd} {bytes text back : List ℕ} {to : SoFar}
      (f : E → IsAllRead result rest') (z : State) (g : Goes t E at bytes back to text) → Consumes rest rest' bytes
      → Writes t (begun xs) (far.says.goes.ls ++ g.ls) to.state (passage old new) (far.says.text ++ text) result
      → Ends t E to.count (to.pending ++ back) to.state z result
      → IsOver t (passage input rest') (passage old new) xs z.seats result
  finish {rest' = rest'} {result = result} {bytes} {text} {back} {to} f z g read written ends =
      let all = goes_more far.says.goes g in
      let size = length-append far.says.goes.ls g.ls in
      let number : to.count ≡ length (far.says.goes.ls ++ g.ls) = omega (arith, size, far.says.goes.counted, g.counted) in
      let cut : Cuts (IsAllRead result rest') (far.stream ++ bytes) (far.says.goes.ls ++ g.ls) (to.pending ++ back) =
      cuts_over f all.came in
      let end : Ends t (IsAllRead result rest') to.count (to.pending ++ back) to.state z result =
      ends_over t f to.count (to.pending ++ back) to.state z result ends in
      record {
        stream = far.stream ++ bytes;
        read = consumes_more input rest rest' far.stream bytes far.read read;
        answered = far.says.goes.ls ++ g.ls;
        rest = to.pending ++ back;
        cut = cut;
        whole = whole t (IsAllRead result rest') to.count (far.stream ++ bytes) (to.pending ++ back)
            (far.says.goes.ls ++ g.ls) to.state z result cut end;
        few = omega (arith, number, g.ready.few);
        after = to.state;
        text = far.says.text ++ text;
        answers = all.answers;
        written = written;
        end = z;
        ends = subst (λ n. Ends t (IsAllRead result rest') n (to.pending ++ back) to.state z result) number end;
        seats = refl;
      }

  unsaid : Appends old mid (far.says.text ++ [])
  unsaid = subst (Appends old mid) (sym (append-nil far.says.text)) far.says.grown

  stays : Goes t ⊥ at [] [] at []
  stays = goes_none far.says.goes.ready

  pub session_reads : {rest' : Option (List ℕ)} → Keeps rest rest'
      → IsOver t (passage input rest') (passage old mid) xs at.state.seats (Err Read)
  session_reads {rest'} keeps =
      finish (λ none. absurd none) at.state stays (consumes_kept rest rest' keeps) unsaid
      (refl, subst IsLine (sym (append-nil at.pending)) far.says.goes.ready.line)

  pub session_unsaid : IsOver t (passage input rest) (passage old mid) xs at.state.seats (Err Memory)
  session_unsaid = finish (λ none. absurd none) at.state stays (consumes_none rest) unsaid (inl refl)

pub written_ok : {B : Type 0} {b : B} (taken : Result B SessionEnd) (text : List ℕ) (w w' : StreamWriting)
    → IsWritten taken text w w' (Ok b) → (taken ≡ Ok b) × Appends w.contents w'.contents text
written_ok taken text w w' written = elim written [ inl so ↦ so | inr stuck ↦ absurd (cc) ]

-- bytes are taken, and all that was said is written, or the writer took no more
module _ {t : Setup} {input rest rest' old : Option (List ℕ)} {xs : List SeatView} {at to : SoFar} (w w' : StreamWriting)
    (far : IsSoFar t (passage input rest) (passage old w.contents) xs at) {E B : Type 0} {said : Passage} {bytes : List ℕ}
    {taken : Result B SessionEnd} (f : E → IsAtEnd rest') (read : Consumes rest rest' bytes)
    (takes : Takes t E at bytes to said taken) where
  pub session_halts : {end : SessionEnd} → (end ≡ Write → length bytes ≤ READ_SIZE)
      → IsWritten taken takes.says.text w w' (Err end)
      → IsOver t (passage input rest') (passage old w'.contents) xs to.state.seats (Err end)
  session_halts {end} small written = let g = takes.says.goes in elim written [
    | inl so ↦
        let halted = subst (λ r. IfErr r (Halts t E takes.at.count (takes.at.pending ++ takes.rest) takes.at.state to.state))
        so.0 takes.halted in
        finish far (λ e. ended rest' end halted.0 (f e)) to.state g read
        (all_written t (begun xs) takes.at.state (far.says.goes.ls ++ g.ls) (passage old w'.contents)
        (far.says.text ++ takes.says.text) end halted.1
        (appends_more old w.contents w'.contents far.says.text takes.says.text far.says.grown so.1)) halted.2
    | inr stuck ↦
        let same : end ≡ Write = cc in
        subst (λ e. IsOver t (passage input rest') (passage old w'.contents) xs to.state.seats (Err e)) (sym same)
        (finish far f to.state g read (record {
          done = far.says.goes.ls;
          others = g.ls;
          parts = refl;
          few = omega (
            arith,
            cuts_short g.came,
            length-append at.pending bytes,
            far.says.goes.ready.line.short,
            small same,
          );
          middle = at.state;
          said = far.says.text;
          more = takes.says.text;
          all = refl;
          first = far.says.goes.answers;
          second = g.answers;
          written = (
            stuck.1.0,
            stuck.1.1,
            appends_more old w.contents w'.contents far.says.text (take stuck.1.0 takes.says.text) far.says.grown stuck.1.2,
          );
        }) (broken_off taken takes))
  ]

  -- its input is over, and what was pending is answered
  pub session_ends : {b : B} → E → to.pending ≡ [] → IsWritten taken takes.says.text w w' (Ok b)
      → IsOver t (passage input rest') (passage old w'.contents) xs to.state.seats (Ok to.count)
  session_ends over none written =
      let (is, grown) = written_ok taken takes.says.text w w' written in
      let all : (takes.rest ≡ []) × (takes.at ≡ to) = subst (λ r. OnOk r ((takes.rest ≡ []) × (takes.at ≡ to))) is takes.done in
      finish far f to.state takes.says.goes read
      (appends_more old w.contents w'.contents far.says.text takes.says.text far.says.grown grown) (
        sym (ap (λ (a : SoFar). a.state) all.1),
        over,
        ap (λ r. takes.at.pending ++ r) all.0 ∙ append-nil takes.at.pending ∙ ap (λ (a : SoFar). a.pending) all.1 ∙ none,
        sym (ap (λ (a : SoFar). a.count) all.1),
      )

-- what halts ends by no write
not_write : {B : Type 0} {t : Setup} {E : Type 0} {old new : SoFar} {bytes : List ℕ} {said : Passage}
    (taken : Result B SessionEnd) → Takes t E old bytes new said taken → taken ≢ Err Write
not_write {t = t} {E} {old} {new} {bytes} {said} taken takes is =
    (subst (λ r. Takes t E old bytes new said r) is takes).halted.1 refl

-- a script that nobody hears, all at once
abbrev unheard : StreamWriting
unheard = record { contents = None; has_failed = false }

module _ {t : Setup} {xs : List SeatView} (some : 1 ≤ length xs) (script : List ℕ) where
  abbrev start : IsSoFar t (passage (Some script) (Some script)) (passage None None) xs (beginning xs)
  start = so_far_new some

  pub script_unsaid : IsOver t (passage (Some script) (Some [])) (passage None None) xs xs (Err Memory)
  script_unsaid =
      finish start {bytes = script} {back = script} (λ (none : ⊥). absurd none) (begun xs) (goes_none start.says.goes.ready)
      (sym (append-nil script)) tt (inl refl)

  module _ {B : Type 0} {to : SoFar} {said : Passage} {taken : Result B SessionEnd}
      (takes : Takes t (true ≡ true) (beginning xs) script to said taken) where
    pub script_halts : (end : SessionEnd) → taken ≡ Err end
        → IsOver t (passage (Some script) (Some [])) (passage None None) xs to.state.seats (Err end)
    script_halts end is =
        session_halts unheard unheard start (λ over. refl) (sym (append-nil script)) takes
        (λ write. absurd (not_write taken takes (is ∙ ap (λ e. Err e) write))) (inl (is, tt))

    pub script_ends : {b : B} → taken ≡ Ok b → to.pending ≡ []
        → IsOver t (passage (Some script) (Some [])) (passage None None) xs to.state.seats (Ok to.count)
    script_ends is none =
        session_ends unheard unheard start (λ over. refl) (sym (append-nil script)) takes refl none (inl (is, tt))

pub session_alone : {t : Setup} {input output : Passage} {xs ys : List SeatView} {result : Result ℕ SessionEnd}
    {x : SeatView} (d : SeatView) → xs ≡ x ∷ [] → IsSession t input output xs ys result
    → IsSession t input output (x ∷ []) (slice_index_or ys 0 d ∷ []) result
session_alone {t} {input} {output} {ys = ys} {result} {x} d alone h =
    let one = rw alone at h in subst (λ zs. IsSession t input output (x ∷ []) zs result) (here ys one.numbers) one
  where
    here : (ys : List SeatView) → map (λ (x : SeatView). x.number) ys ≡ x.number ∷ [] → ys ≡ slice_index_or ys 0 d ∷ []
    here [] p = absurd cc
    here (y ∷ []) p = refl
    here (y ∷ z ∷ ys) p = absurd cc

-- after nothing, all that is kept is what was said since
pub said_whole : {a b : Option (List ℕ)} (text : List ℕ) → a ≡ Some [] → Appends a b text → b ≡ Some text
said_whole {a} {b} text none grown = whole b (subst (λ o. Appends o b text) none grown)
  where
    whole : (b : Option (List ℕ)) → Appends (Some []) b text → b ≡ Some text
    whole None grown = absurd grown
    whole (Some said) grown = ap (λ l. Some l) grown

-- how many bytes can still be read
abbrev pub bytes_left : List ℕ → ℕ → ℕ
bytes_left pending count = (MAX_LINES - count) * (MAX_LINE + 1) + (MAX_LINE + 1 - length pending)

length_lines : (ls : List (List ℕ)) → All IsLine ls → length (flat_map with_newline ls) ≤ length ls * (MAX_LINE + 1)
length_lines [] each = omega arith
length_lines (line ∷ ls) each =
    let tail = length_lines ls (All-tail IsLine line ls each) in
    let head = (All-head IsLine line ls each).short in
    let one = length-append line (10 ∷ []) in
    let size = length-append (line ++ 10 ∷ []) (flat_map with_newline ls) in
    omega (arith, tail, head, one, size)

pub fewer_left : {t : Setup} {old new : SoFar} {bytes text : List ℕ} → IsReady old → Goes t ⊥ old bytes [] new text
    → 1 ≤ length bytes
    → bytes_left new.pending new.count < bytes_left old.pending old.count
fewer_left {t} {old} {new} {bytes} ready g some =
    let came = begins_of g.came in
    let whole = ap length came.whole in
    let left = length-append old.pending bytes in
    let end = length-append new.pending [] in
    let right = length-append (flat_map with_newline g.ls) (new.pending ++ []) in
    let few = length_lines g.ls came.each in
    omega (
      arith,
      whole,
      left,
      right,
      end,
      few,
      g.counted,
      ready.few,
      g.ready.few,
      ready.line.short,
      g.ready.line.short,
      some,
    )
