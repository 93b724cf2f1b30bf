-- Lines that are answered one after another, and bytes that are taken part by part.
--   answers_none, answers_more   no line, and some after others
--   line_with     a part may be of the line that is pending
--   begins_of     lines of what goes on have their newlines
--   goes_none, says_none   no byte is taken
--   goes_more     some bytes after others
--   says_still    what is said is as it was
--   says_over     what is over here is over there
--   says_all      bytes that are taken are all answered
--   says_part     the last part is taken, which is pending now
--   says_line     one more line is answered
--   ends_over     what is over here is over there
--   halts_part, halts_line       the session halts at a part that is not taken, and at a line
--   more_fits     where something is pending, one more line may be answered
--   takes_all, takes_halts       bytes are taken, or the session halts in them
--   takes_over    so they are where what is over here is over there
--   taken_all     what was taken whole
use Rattle.dg_session.proofs.Common.{◌≡◌, ◌≢◌, ℕ, ◌+◌, ◌<◌, ◌≤◌, inl, inr, List, [], ◌∷◌, ◌++◌, length, take, drop, Option, Result, Ok, Err, OnOk, refl, sym, ap, subst, ◌∙◌, arith, append_assoc, append-nil, length-append, take-append-drop, All-append, All-take, length-take-le, Appends, appends_none, appends_more, HasNoNewline, BeginsWithLines, begins_none, begins_more, Setup, IsLine, Cuts, Passage, passage, State, Does, Answers, SoFar, IsReady, Goes, Says, Takes, Halts, Stops, Ends, RefusesPart, MAX_LINE, MAX_LINES, SessionEnd, Read, Write, LongLine, Turns, Table, Memory, Spawn}
use Rattle.dg_session.proofs.Cutting.{line_is, cuts_more, cuts_over}
use Rattle.dg_session.proofs.Seated.{sizes_kept, halts_by}

pub answers_none : (t : Setup) (s : State) → Answers t s [] s []
unfolding Answers
answers_none t s = (refl, refl)

answers_one : (t : Setup) (s z : State) (line text : List ℕ) → Does t s line z (Ok text) → Answers t s (line ∷ []) z text
unfolding Answers
answers_one t s z line text p = (z, text, [], p, (refl, refl), sym (append-nil text))

pub answers_more : (t : Setup) (s m z : State) (ls ls' : List (List ℕ)) (text text' : List ℕ) → Answers t s ls m text
    → Answers t m ls' z text' → Answers t s (ls ++ ls') z (text ++ text')
unfolding Answers
answers_more t s m z [] ls' text text' p q =
    subst (λ k. Answers t k ls' z (text ++ text')) p.0
    (subst (Answers t m ls' z) (sym (ap (λ l. l ++ text') p.1)) q)
answers_more t s m z (line ∷ ls) ls' text text' p q =
    let (first, front, back, answer, more, whole) = p in (
      first,
      front,
      back ++ text',
      answer,
      answers_more t first m z ls ls' back text' more q,
      ap (λ l. l ++ text') whole ∙ append_assoc front back text',
    )

pub line_with : {at : SoFar} (part : List ℕ) → IsReady at → HasNoNewline part
    → length at.pending + length part ≤ MAX_LINE → IsLine (at.pending ++ part)
line_with {at} part ready plain short = record {
  no_newline = All-append (λ byte. byte ≢ 10) at.pending part ready.line.no_newline plain;
  short = let size = length-append at.pending part in omega (arith, size, short);
}

pub begins_of : {stream rest : List ℕ} {ls : List (List ℕ)} → Cuts ⊥ stream ls rest → BeginsWithLines IsLine stream ls rest
begins_of cut = elim cut [ inl begins ↦ begins | inr all ↦ absurd all.0 ]

pub goes_none : {t : Setup} {over : Type 0} {at : SoFar} {bytes : List ℕ} → IsReady at → Goes t over at bytes bytes at []
goes_none {t} {over} {at} {bytes} ready = record {
  ls = [];
  came = inl (begins_none (at.pending ++ bytes));
  counted = omega arith;
  answers = answers_none t at.state;
  ready = ready;
}

pub says_none : {t : Setup} {over : Type 0} {at : SoFar} {bytes : List ℕ} {a : Option (List ℕ)} → IsReady at
    → Says t over at bytes bytes at (passage a a)
says_none {a = a} ready = record { text = []; grown = appends_none a; goes = goes_none ready }

abbrev pub goes_more : {t : Setup} {over : Type 0} {old mid new : SoFar} {b c rest text more : List ℕ}
    → Goes t ⊥ old b [] mid text → Goes t over mid c rest new more → Goes t over old (b ++ c) rest new (text ++ more)
goes_more {t} {over} {old} {mid} {new} {b} {c} {rest} {text} {more} g h = record {
  ls = g.ls ++ h.ls;
  came = subst (λ l. Cuts over l (g.ls ++ h.ls) (new.pending ++ rest)) (append_assoc old.pending b c)
      (cuts_more (begins_more c (subst (BeginsWithLines IsLine (old.pending ++ b) g.ls) (append-nil mid.pending)
      (begins_of g.came))) h.came);
  counted = let size = length-append g.ls h.ls in omega (arith, size, g.counted, h.counted);
  answers = answers_more t old.state mid.state new.state g.ls h.ls text more g.answers h.answers;
  ready = h.ready;
}

module _ {t : Setup} {old at : SoFar} {bytes rest : List ℕ} {a b : Option (List ℕ)}
    (says : Says t ⊥ old bytes rest at (passage a b)) where
  abbrev g : Goes t ⊥ old bytes rest at says.text
  g = says.goes

  pub says_still : {c : Option (List ℕ)} → c ≡ b → Says t ⊥ old bytes rest at (passage a c)
  says_still same = subst (λ o. Says t ⊥ old bytes rest at (passage a o)) (sym same) says

  pub says_part : (part p : List ℕ) → rest ≡ part → p ≡ at.pending ++ part → HasNoNewline part
      → length at.pending + length part ≤ MAX_LINE → at.count ≢ MAX_LINES
      → Says t ⊥ old bytes [] (record at { pending = p }) (passage a b)
  says_part part p cut grown plain short other = record {
    text = says.text;
    grown = says.grown;
    goes = record {
      ls = g.ls;
      came = subst (Cuts ⊥ (old.pending ++ bytes) g.ls) (ap (λ l. at.pending ++ l) cut ∙ sym (append-nil p ∙ grown)) g.came;
      counted = g.counted;
      answers = g.answers;
      ready = record {
        line = subst IsLine (sym grown) (line_with part g.ready plain short);
        few = g.ready.few;
        full = λ full. absurd (other full);
        some = g.ready.some;
        each = g.ready.each;
      };
    };
  }

  pub says_line : {over : Type 0} {new : SoFar} {line more told : List ℕ} {c : Option (List ℕ)}
      → Cuts over (at.pending ++ rest) (line ∷ []) more → at.count < MAX_LINES
      → Does t at.state line new.state (Ok told) → Appends b c told → new.pending ≡ [] → new.count ≡ at.count + 1
      → Says t over old bytes more new (passage a c)
  says_line {over} {new} {line} {more} {told} {c} cut few does said none next =
      let sizes = sizes_kept t at.state new.state line (Ok told) does in record {
        text = says.text ++ told;
        grown = appends_more a b c says.text told says.grown said;
        goes = record {
          ls = g.ls ++ line ∷ [];
          came = subst (λ p. Cuts over (old.pending ++ bytes) (g.ls ++ line ∷ []) (p ++ more)) (sym none)
              (cuts_more (begins_of g.came) cut);
          counted = let size = length-append g.ls (line ∷ []) in omega (arith, size, g.counted, next);
          answers = answers_more t old.state at.state new.state g.ls (line ∷ []) says.text told g.answers
              (answers_one t at.state new.state line told does);
          ready = record {
            line = line_is new.pending none;
            few = omega (arith, few, next);
            full = λ full. none;
            some = omega (arith, sizes.0, g.ready.some);
            each = sizes.1 ∙ g.ready.each ∙ sym sizes.0;
          };
        };
      }

-- what is over here is over there
module _ (t : Setup) {E over : Type 0} (f : E → over) (n : ℕ) (rest : List ℕ) (s z : State) where
  stops_over : (end : SessionEnd) → Stops t E n rest s z end → Stops t over n rest s z end
  stops_over end (line, more, cut, few, does) = (line, more, cuts_over f cut, few, does)

  pub ends_over : (result : Result ℕ SessionEnd) → Ends t E n rest s z result → Ends t over n rest s z result
  ends_over (Ok count) h = (h.0, f h.1, h.2, h.3)
  ends_over (Err Read) h = h
  ends_over (Err Write) h = elim h [ inl same ↦ inl same | inr stop ↦ inr (stop.0, stops_over stop.0 stop.1) ]
  ends_over (Err LongLine) h = h
  ends_over (Err Turns) h = h
  ends_over (Err Memory) h = elim h [ inl same ↦ inl same | inr stop ↦ inr (stops_over Memory stop) ]
  ends_over (Err (Table fault)) h = stops_over (Table fault) h
  ends_over (Err Spawn) h = stops_over Spawn h

pub halts_part : (t : Setup) (over : Type 0) {at : SoFar} {rest : List ℕ} (part more : List ℕ) (end : SessionEnd) → IsReady at
    → rest ≡ part ++ more → HasNoNewline part → 1 ≤ length rest → RefusesPart at.pending at.count part end
    → Halts t over at.count (at.pending ++ rest) at.state at.state end
halts_part t over {at} {rest} part more Turns ready cut plain some h =
    (λ is. absurd cc, λ is. absurd cc, (refl, h, omega (arith, length-append at.pending rest, some)))
halts_part t over {at} part more LongLine ready cut plain some h = (
  λ is. absurd cc,
  λ is. absurd cc,
  (
    refl,
    omega (arith, ready.few, h.0),
    let p = at.pending ++ part in record {
      front = take (MAX_LINE + 1) p;
      back = drop (MAX_LINE + 1) p ++ more;
      whole = ap (λ l. at.pending ++ l) cut ∙ sym (append_assoc at.pending part more)
          ∙ ap (λ l. l ++ more) (sym (take-append-drop (MAX_LINE + 1) p))
          ∙ append_assoc (take (MAX_LINE + 1) p) (drop (MAX_LINE + 1) p) more;
      no_newline = All-take (λ byte. byte ≢ 10) (MAX_LINE + 1) p
          (All-append (λ byte. byte ≢ 10) at.pending part ready.line.no_newline plain);
      long = let size = length-append at.pending part in length-take-le (MAX_LINE + 1) p (omega (arith, size, h.1));
    },
  ),
)
halts_part t over part more end ready cut plain some h = absurd h

pub halts_line : {t : Setup} {over : Type 0} {n : ℕ} {rest line more : List ℕ} {s z : State} (end : SessionEnd)
    → Cuts over rest (line ∷ []) more → n < MAX_LINES → Does t s line z (Err end) → Halts t over n rest s z end
halts_line {line = line} {more} (Table fault) cut few does =
    (λ is. absurd cc, λ is. absurd cc, (line, more, cut, few, does))
halts_line {line = line} {more} Spawn cut few does = (λ is. absurd cc, λ is. absurd cc, (line, more, cut, few, does))
halts_line {line = line} {more} Memory cut few does = (λ is. absurd cc, λ is. absurd cc, inr (line, more, cut, few, does))
halts_line {t} {line = line} {s = s} {z} end cut few does = absurd (halts_by t s z line end does)

pub more_fits : {at : SoFar} → IsReady at → 1 ≤ length at.pending → at.count < MAX_LINES
more_fits {at} ready some =
    let other : at.count ≢ MAX_LINES = λ all. omega (arith, some, ap length (ready.full all)) in
    omega (arith, other, ready.few)

pub takes_all : {B : Type 0} {b : B} {t : Setup} {over : Type 0} {old new : SoFar} {bytes : List ℕ} {said : Passage}
    → Says t over old bytes [] new said → Takes t over old bytes new said (Ok b)
takes_all {new = new} says = record { at = new; rest = []; says = says; done = (refl, refl); halted = tt }

pub says_all : {B : Type 0} {b : B} {t : Setup} {over : Type 0} {old new : SoFar} {bytes : List ℕ} {said : Passage}
    → Takes t over old bytes new said (Ok b) → Says t over old bytes [] new said
says_all {t = t} {over} {old} {new} {bytes} {said} takes =
    subst (λ z. Says t over old bytes [] z said) takes.done.1
    (subst (λ r. Says t over old bytes r takes.at said) takes.done.0 takes.says)

pub takes_halts : {B : Type 0} {t : Setup} {over : Type 0} {old at new : SoFar} {bytes rest : List ℕ} {said : Passage}
    {end : SessionEnd} → Says t over old bytes rest at said
    → Halts t over at.count (at.pending ++ rest) at.state new.state end → Takes {B = B} t over old bytes new said (Err end)
takes_halts {at = at} {rest = rest} says halted = record { at = at; rest = rest; says = says; done = tt; halted = halted }

goes_over : {t : Setup} {E over : Type 0} {old at : SoFar} {bytes rest text : List ℕ} → (E → over)
    → Goes t E old bytes rest at text → Goes t over old bytes rest at text
goes_over f goes = record {
  ls = goes.ls;
  came = cuts_over f goes.came;
  counted = goes.counted;
  answers = goes.answers;
  ready = goes.ready;
}

pub says_over : {t : Setup} {E over : Type 0} {old at : SoFar} {bytes rest : List ℕ} {said : Passage} → (E → over)
    → Says t E old bytes rest at said → Says t over old bytes rest at said
says_over f says = record { text = says.text; grown = says.grown; goes = goes_over f says.goes }

module _ {B : Type 0} {t : Setup} {E over : Type 0} {old new : SoFar} {bytes : List ℕ} {said : Passage} (f : E → over) where
  pub takes_over : (result : Result B SessionEnd) → Takes t E old bytes new said result → Takes t over old bytes new said result
  takes_over (Ok b) takes =
      record { at = takes.at; rest = takes.rest; says = says_over f takes.says; done = takes.done; halted = tt }
  takes_over (Err end) takes = let h = takes.halted in record {
    at = takes.at;
    rest = takes.rest;
    says = says_over f takes.says;
    done = tt;
    halted = (
      h.0,
      h.1,
      ends_over t f takes.at.count (takes.at.pending ++ takes.rest) takes.at.state new.state (Err end) h.2,
    );
  }

  pub taken_all : {b : B} (taken : Result B SessionEnd) (takes : Takes t E old bytes new said taken) → taken ≡ Ok b
      → Goes t over old bytes [] new takes.says.text
  taken_all taken takes is =
      let (none, same) = subst (λ r. OnOk r ((takes.rest ≡ []) × (takes.at ≡ new))) is takes.done in
      subst (λ z. Goes t over old bytes [] z takes.says.text) same
      (subst (λ r. Goes t over old bytes r takes.at takes.says.text) none (goes_over f takes.says.goes))
