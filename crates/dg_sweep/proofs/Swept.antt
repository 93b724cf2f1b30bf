-- Sweeps, read after read.
--   HasSwept         what was read is a stream that begins with the lines so far; all are answered, and what they said
--       is written
--   swept_none       nothing is read
--   swept_more       one more read
--   is_sweep         a sweep is over, by the lines that came last
--   unwritten, over_last   so it is where nothing is written of them, and by the last line
--   sweep_reads      the sweep ends where a read fails
--   sweep_unsaid     it ends before it reads, for want of memory
--   sweep_halts      it ends early in what was read
--   sweep_over       it ends where its input does, or early at the last line
use Rattle.dg_sweep.proofs.Common.{◌≡◌, ◌≢◌, ℕ, ◌≤◌, inl, List, [], ◌∷◌, ◌++◌, length, take, Option, Result, Ok, Err, sym, subst, arith, append-nil, All-nil, Appends, Consumes, Keeps, IsAtEnd, lines, HasNoNewline, BeginsWithLines, LinesHaveCome, last_line, begins_none, begins_more, begins_then, one_cutting, come_then, come_last, AppendsFront, appends_none, appends_more, consumes_none, consumes_more, consumes_kept, IsSweep, EndsAfter, WritesAnswers, StandsForPart, TakesBytes, AnswersLast, PassesAnswers, READ_SIZE, SweepEnd, Read, Write, Shortage, OutOfMemory}
use Rattle.dg_sweep.specs.Answers.{AnswersLines, Rule}
use Rattle.dg_sweep.proofs.Taken.{answers_none, answers_more}

pub record HasSwept (rule : Rule) (input rest old new : Option (List ℕ)) (pending : List ℕ) : Type 0 where
  pub stream : List ℕ
  pub read : Consumes input rest stream
  pub ls : List (List ℕ)
  pub part : List ℕ
  pub cut : BeginsWithLines HasNoNewline stream ls part
  pub stands : StandsForPart pending part
  pub text : List ℕ
  pub answers : AnswersLines rule ls text
  pub written : Appends old new text

pub swept_none : (rule : Rule) (input old : Option (List ℕ)) (pending : List ℕ) → pending ≡ []
    → HasSwept rule input input old old pending
swept_none rule input old pending none = record {
  stream = [];
  read = consumes_none input;
  ls = [];
  part = [];
  cut = begins_none [];
  stands = record { no_newline = All-nil (λ byte. byte ≢ 10); same = inl none };
  text = [];
  answers = answers_none rule;
  written = appends_none old;
}

plain : (line : List ℕ) → HasNoNewline line → HasNoNewline line
plain line none = none

module _ {rule : Rule} {input rest old mid : Option (List ℕ)} {pending : List ℕ}
    (far : HasSwept rule input rest old mid pending) where
  grown : (new : Option (List ℕ)) (text : List ℕ) → Appends mid new text → Appends old new (far.text ++ text)
  grown new text passed = appends_more old mid new far.text text far.written passed

  pub swept_more : {rest' new : Option (List ℕ)} (bytes pending' : List ℕ) → Consumes rest rest' bytes
      → (text : List ℕ) × TakesBytes rule pending bytes pending' text × Appends mid new text
      → HasSwept rule input rest' old new pending'
  swept_more {rest'} {new} bytes pending' read passed =
      let taken = passed.1 far.part far.stands in
      record {
        stream = far.stream ++ bytes;
        read = consumes_more input rest rest' far.stream bytes far.read read;
        ls = far.ls ++ taken.ls;
        part = taken.part;
        cut = begins_then (begins_more bytes far.cut) taken.cut;
        stands = taken.stands;
        text = far.text ++ passed.0;
        answers = answers_more rule far.ls taken.ls far.text passed.0 far.answers taken.answers;
        written = grown new passed.0 passed.2;
      }

  is_sweep : {rest' new : Option (List ℕ)} (result : Result (Unit {0}) SweepEnd) (bytes text : List ℕ)
      (last : List (List ℕ)) → Consumes rest rest' bytes
      → LinesHaveCome HasNoNewline (IsAtEnd rest') (far.part ++ bytes) last → length last ≤ READ_SIZE
      → AnswersLines rule last text → WritesAnswers result old new far.text text
      → EndsAfter (IsAtEnd rest') (far.stream ++ bytes) (far.ls ++ last) result
      → IsSweep rule input rest' old new result
  is_sweep {rest'} result bytes text last read came few answered written ends = record {
    stream = far.stream ++ bytes;
    read = consumes_more input rest rest' far.stream bytes far.read read;
    told = far.ls;
    last = last;
    came = come_then plain (λ (over : IsAtEnd rest'). over) last (begins_more bytes far.cut) came;
    few = few;
    said = far.text;
    text = text;
    first = far.answers;
    second = answered;
    written = written;
    ends = ends;
  }

  unwritten : {rest' new : Option (List ℕ)} (end : SweepEnd) (bytes : List ℕ) → Consumes rest rest' bytes
      → WritesAnswers (Err end) old new far.text []
      → EndsAfter (IsAtEnd rest') (far.stream ++ bytes) (far.ls ++ []) (Err end)
      → IsSweep rule input rest' old new (Err end)
  unwritten end bytes read written ends =
      is_sweep (Err end) bytes [] [] read (inl (far.part ++ bytes, begins_none (far.part ++ bytes))) (omega arith)
      (answers_none rule) written ends

  pub sweep_unsaid : IsSweep rule input rest old mid (Err (Shortage OutOfMemory))
  sweep_unsaid = unwritten (Shortage OutOfMemory) [] (consumes_none rest) (grown mid [] (appends_none mid)) tt

  pub sweep_reads : {rest' : Option (List ℕ)} → Keeps rest rest' → IsSweep rule input rest' old mid (Err Read)
  sweep_reads {rest'} keeps =
      unwritten Read [] (consumes_kept rest rest' keeps) (grown mid [] (appends_none mid)) (
        far.part ++ [],
        begins_then (begins_more [] far.cut) (begins_none (far.part ++ [])),
        subst HasNoNewline (sym (append-nil far.part)) far.stands.no_newline,
      )

  over_last : {rest' new : Option (List ℕ)} (result : Result (Unit {0}) SweepEnd) (text : List ℕ)
      → Consumes rest rest' [] → IsAtEnd rest' → AnswersLast rule pending text
      → WritesAnswers result old new far.text text
      → EndsAfter (IsAtEnd rest') (far.stream ++ []) (far.ls ++ last_line far.part) result
      → IsSweep rule input rest' old new result
  over_last {rest'} result text read over answered written ends =
      is_sweep result [] text (last_line far.part) read
      (subst (λ l. LinesHaveCome HasNoNewline (IsAtEnd rest') l (last_line far.part)) (sym (append-nil far.part))
      (come_last plain far.part over far.stands.no_newline)) (few_last far.part) (answered far.part far.stands) written
      ends
    where
      few_last : (part : List ℕ) → length (last_line part) ≤ READ_SIZE
      few_last [] = omega arith
      few_last (byte ∷ part) = omega arith

  all_lines : lines (far.stream ++ []) ≡ far.ls ++ last_line far.part
  all_lines =
      one_cutting plain (far.stream ++ []) far.part far.ls
      (subst (BeginsWithLines HasNoNewline (far.stream ++ []) far.ls) (append-nil far.part) (begins_more [] far.cut))
      far.stands.no_newline

  -- what was written, where a front is written of what came last
  front : (new : Option (List ℕ)) (text : List ℕ) → AppendsFront mid new [] text → AppendsFront old new
      far.text text
  front new text passed = (passed.0, passed.1, grown new (take passed.0 text) passed.2)

  pub sweep_halts : {rest' new : Option (List ℕ)} (bytes pending' : List ℕ) (end : SweepEnd) → Consumes rest rest' bytes
      → length bytes ≤ READ_SIZE → PassesAnswers (TakesBytes rule pending bytes pending') mid new (Err end)
      → IsSweep rule input rest' old new (Err end)
  sweep_halts bytes pending' Read read small passed = absurd passed
  sweep_halts {new = new} bytes pending' Write read small passed =
      let taken = passed.1 far.part far.stands in
      is_sweep (Err Write) bytes passed.0 taken.ls read (inl (taken.part, taken.cut)) (omega (arith, taken.few, small))
      taken.answers (front new passed.0 passed.2) tt
  sweep_halts {new = new} bytes pending' (Shortage lack) read small passed =
      unwritten (Shortage lack) bytes read (grown new [] passed) tt

  pub sweep_over : {rest' new : Option (List ℕ)} (result : Result (Unit {0}) SweepEnd) → Consumes rest rest' []
      → IsAtEnd rest' → PassesAnswers (AnswersLast rule pending) mid new result → IsSweep rule input rest' old new
      result
  sweep_over {new = new} (Ok done) read over passed =
      over_last (Ok tt) passed.0 read over passed.1 (grown new passed.0 passed.2) (over, sym all_lines)
  sweep_over (Err Read) read over passed = absurd passed
  sweep_over {new = new} (Err Write) read over passed =
      over_last (Err Write) passed.0 read over passed.1 (front new passed.0 passed.2) tt
  sweep_over {new = new} (Err (Shortage lack)) read over passed =
      unwritten (Shortage lack) [] read (grown new [] passed) tt
