-- Taking what was read.
--   answers_none, answers_one, answers_more   no line is answered; one; some lines and then others
--   so_far_none, so_far_line, so_far_rest   lines of bytes are answered one after another
--   nothing_left               what follows the last newline of bytes that end with one is nothing
--   front_ends                 what stands before the bytes that follow a newline ends with it
--   pieces_both                what a piece comes to, and what follows it, is what both do
--   takes_part, takes_lines    bytes without a newline, and with one
--   nothing                    a list of length 0
--   takes_no_end, takes_end    the end
use Rattle.dg_sweep.proofs.Common.{◌≡◌, ◌≢◌, ℕ, ◌+◌, ◌-◌, ◌≤◌, take, drop, inl, inr, List, [], ◌∷◌, ◌++◌, length, refl, sym, ap, subst, ◌∙◌, arith, append_assoc, append-nil, flat_map, All-append, All-head, All-tail, take-append_seam, take-append-drop, AnswersLine, HasNoNewline, BeginsWithLines, with_newline, last_line, begins_none, begins_one, begins_more, begins_then, StandsForPart, KeepsPart, AnswersFront, EndsWithNewline, TakesBytes, AnswersLast}
use Rattle.std.proofs.Common.{length-append}
use Rattle.dg_sweep.specs.Answers.{AnswersLines, Rule}

pub answers_none : (rule : Rule) → AnswersLines rule [] []
unfolding AnswersLines
answers_none rule = refl

pub answers_more : (rule : Rule) (ls ls' : List (List ℕ)) (t t' : List ℕ)
    → AnswersLines rule ls t → AnswersLines rule ls' t'
    → AnswersLines rule (ls ++ ls') (t ++ t')
unfolding AnswersLines
answers_more rule [] ls' t t' p q =
    subst (λ text. AnswersLines rule ls' text) (sym (ap (λ text. text ++ t') p)) q
answers_more rule (line ∷ ls) ls' t t' p q =
    let (front, back, answer, more, text) = p in (
      front,
      back ++ t',
      answer,
      answers_more rule ls ls' back t' more q,
      ap (λ l. l ++ t') text ∙ append_assoc front back t',
    )

pub answers_one : (rule : Rule) (line t : List ℕ) → AnswersLine rule line t
    → AnswersLines rule (line ∷ []) t
unfolding AnswersLines
answers_one rule line t p = (t, [], p, refl, sym (append-nil t))

begins_line : (bytes line rest : List ℕ) → HasNoNewline line → bytes ≡ line ++ 10 ∷ rest
    → BeginsWithLines HasNoNewline bytes (line ∷ []) rest
begins_line bytes line rest none e = subst (λ l. BeginsWithLines HasNoNewline l (line ∷ []) rest) (sym e) (begins_one rest none)

-- the lines of bytes, up to what is left of them
pub record IsSoFar (rule : Rule) (bytes rest old new : List ℕ) : Type 0 where
  pub ls : List (List ℕ)
  pub cut : BeginsWithLines HasNoNewline bytes ls rest
  pub few : length ls + length rest ≤ length bytes
  pub said : List ℕ
  pub answers : AnswersLines rule ls said
  pub text : new ≡ old ++ said

pub so_far_none : (rule : Rule) (bytes text : List ℕ) → IsSoFar rule bytes bytes text text
so_far_none rule bytes text = record {
  ls = [];
  cut = begins_none bytes;
  few = omega arith;
  said = [];
  answers = answers_none rule;
  text = sym (append-nil text);
}

pub so_far_line : (rule : Rule) (bytes rest old new line rest' answer new' : List ℕ)
    → IsSoFar rule bytes rest old new
    → HasNoNewline line → rest ≡ line ++ 10 ∷ rest' → AnswersLine rule line answer → new' ≡ new ++ answer
    → IsSoFar rule bytes rest' old new'
so_far_line rule bytes rest old new line rest' answer new' far none e answered grown = record {
  ls = far.ls ++ line ∷ [];
  cut = begins_then far.cut (begins_line rest line rest' none e);
  few = let size = length-append far.ls (line ∷ []) in let left = length-append line (10 ∷ rest') in
      omega (arith, size, left, ap length e, far.few);
  said = far.said ++ answer;
  answers = answers_more rule far.ls (line ∷ []) far.said answer far.answers
      (answers_one rule line answer answered);
  text = grown ∙ ap (λ l. l ++ answer) far.text ∙ append_assoc old far.said answer;
}

pub so_far_rest : (rule : Rule) (bytes rest old new line : List ℕ) → IsSoFar rule bytes rest old new
    → HasNoNewline line → rest ≡ line ++ [] → (said : List ℕ) × AnswersFront rule bytes line said
    × (new ≡ old ++ said)
so_far_rest rule bytes rest old new line far none e = (
  far.said,
  record {
    ls = far.ls;
    cut = subst (λ l. BeginsWithLines HasNoNewline bytes far.ls l) (e ∙ append-nil line) far.cut;
    no_newline = none;
    few = omega (arith, far.few);
    answers = far.answers;
  },
  far.text,
)

-- what ends with a byte has it at the end of what stands last
ends_with : (xs ys front : List ℕ) (y byte : ℕ) → xs ++ y ∷ ys ≡ front ++ byte ∷ [] → (more : List ℕ)
    × (y ∷ ys ≡ more ++ byte ∷ [])
ends_with [] ys front y byte e = (front, e)
ends_with (x ∷ xs) ys [] y byte e = let size = length-append xs (y ∷ ys) in absurd (omega (arith, ap length e, size))
ends_with (x ∷ xs) ys (z ∷ front) y byte e = ends_with xs ys front y byte (ap tail e)
  where
    tail : List ℕ → List ℕ
    tail [] = []
    tail (h ∷ t) = t

pub nothing_left : (bytes rest : List ℕ) (ls : List (List ℕ)) → BeginsWithLines HasNoNewline bytes ls rest → HasNoNewline rest
    → EndsWithNewline bytes → rest ≡ []
nothing_left bytes [] ls cut none ends = refl
nothing_left bytes (y ∷ ys) ls cut none ends =
    let (more, e) = ends_with (flat_map with_newline ls) ys ends.0 y 10 (sym cut.whole ∙ ends.1) in
    absurd (not_newline more (subst HasNoNewline e none))
  where
    not_newline : (xs : List ℕ) → HasNoNewline (xs ++ 10 ∷ []) → ⊥
    not_newline [] all = All-head (λ byte. byte ≢ 10) 10 [] all refl
    not_newline (x ∷ xs) all = not_newline xs (All-tail (λ byte. byte ≢ 10) x (xs ++ 10 ∷ []) all)

pub front_ends : (bytes early later part after : List ℕ) (n : ℕ) → early ≡ take n bytes → later ≡ drop n bytes
    → later ≡ part ++ 10 ∷ after
    → (length after ≤ length bytes) × EndsWithNewline (take (length bytes - length after) bytes)
    × (bytes ≡ take (length bytes - length after) bytes ++ after)
front_ends bytes early later part after n e1 e2 e =
    let split : early ++ later ≡ bytes = ap (λ l. l ++ later) e1 ∙ ap (λ l. take n bytes ++ l) e2
    ∙ take-append-drop n bytes in
    let front = (early ++ part) ++ 10 ∷ [] in
    let whole : bytes ≡ front ++ after =
    sym split ∙ ap (λ l. early ++ l) e ∙ sym (append_assoc early part (10 ∷ after))
    ∙ sym (append_assoc (early ++ part) (10 ∷ []) after) in
    let sum = length-append front after in
    let size : length bytes - length after ≡ length front = omega (arith, ap length whole, sum) in
    let same : take (length bytes - length after) bytes ≡ front =
    ap (λ n. take n bytes) size ∙ ap (take (length front)) whole ∙ take-append_seam front after in
    (omega (arith, ap length whole, sum), (early ++ part, same), whole ∙ ap (λ l. l ++ after) (sym same))

pub pieces_both : (rule : Rule) (bytes front back rest rest' last said said' text : List ℕ)
    → EndsWithNewline front
    → bytes ≡ front ++ back
    → AnswersFront rule front rest said → AnswersFront rule back rest' said' → last ≡ rest'
    → text ≡ said ++ said'
    → AnswersFront rule bytes last text
pieces_both rule bytes front back rest rest' last said said' text ends e here there left both =
    let none : rest ≡ [] = nothing_left front rest here.ls here.cut here.no_newline ends in
    let cut : BeginsWithLines HasNoNewline front here.ls [] = subst
    (λ l. BeginsWithLines HasNoNewline front here.ls l) none here.cut in
    let cut' : BeginsWithLines HasNoNewline (front ++ back) (here.ls ++ there.ls) rest' =
    begins_then (begins_more back cut) there.cut in
    record {
      ls = here.ls ++ there.ls;
      cut = subst (λ l. BeginsWithLines HasNoNewline l (here.ls ++ there.ls) last) (sym e)
          (subst (λ l. BeginsWithLines HasNoNewline (front ++ back) (here.ls ++ there.ls) l) (sym left) cut');
      no_newline = subst HasNoNewline (sym left) there.no_newline;
      few = let size = length-append front back in let lines = length-append here.ls there.ls in
          omega (arith, ap length e, size, lines, here.few, there.few);
      answers = subst (AnswersLines rule (here.ls ++ there.ls)) (sym both)
          (answers_more rule here.ls there.ls said said' here.answers there.answers);
    }

-- what is pending still stands for the part of the line, with more of it
stands_more : (old more new part : List ℕ) → StandsForPart old part → HasNoNewline more → KeepsPart old more new
    → StandsForPart new (part ++ more)
stands_more old more new part stands none kept = record {
  no_newline = All-append (λ byte. byte ≢ 10) part more stands.no_newline none;
  same =
      let size = length-append part more in
      let size' = length-append old more in
      elim kept [
        | inl grown ↦ elim stands.same [
          | inl e ↦ inl (grown.1 ∙ ap (λ l. l ++ more) e)
          | inr long ↦ inr (omega (arith, size', ap length grown.1, long.0), omega (arith, size, long.1))
        ]
        | inr full ↦ elim stands.same [
          | inl e ↦ inr (omega (arith, ap length full.1, full.0), omega (arith, size, ap length e, full.0))
          | inr long ↦ inr (omega (arith, ap length full.1, full.0), omega (arith, size, long.1))
        ]
      ];
}

-- what stands for a line is answered as it
same_answer : (rule : Rule) (pending part text : List ℕ) → StandsForPart pending part
    → AnswersLine rule pending text
    → AnswersLine rule part text
same_answer rule pending part text stands answered = elim stands.same [
  | inl e ↦ subst (λ l. AnswersLine rule l text) e answered
  | inr long ↦ elim answered [
    | inl refused ↦ inl (long.1, refused.1)
    | inr short ↦ absurd (omega (arith, long.0, short.0))
  ]
]

pub takes_part : (rule : Rule) (old bytes part new text : List ℕ) → text ≡ [] → HasNoNewline part
    → bytes ≡ part ++ [] → KeepsPart old part new
    → TakesBytes rule old bytes new text
takes_part rule old bytes part new text unsaid none e kept p stands =
    let whole : part ≡ bytes = sym (e ∙ append-nil part) in
    record {
      ls = [];
      part = p ++ bytes;
      cut = begins_none (p ++ bytes);
      stands = subst (λ l. StandsForPart new (p ++ l)) whole (stands_more old part new p stands none kept);
      few = omega arith;
      answers = subst (AnswersLines rule []) (sym unsaid) (answers_none rule);
    }

pub takes_lines : (rule : Rule) (old bytes part after mid first text rest new : List ℕ) → HasNoNewline part
    → bytes ≡ part ++ 10 ∷ after
    → KeepsPart old part mid → (line : List ℕ) → line ≡ mid → AnswersLine rule line first
    → (said : List ℕ) × AnswersFront rule after rest said × (text ≡ first ++ said) → (empty : List ℕ) → empty ≡ []
    → KeepsPart empty rest new
    → TakesBytes rule old bytes new text
takes_lines rule old bytes part after mid first text rest new none e kept shown is_mid answered lines empty is_empty
    kept' p stands =
    let (said, front, grown) = lines in
    let line = p ++ part in
    let is_line : StandsForPart mid line = stands_more old part mid p stands none kept in
    let cut : p ++ bytes ≡ line ++ 10 ∷ after = ap (λ l. p ++ l) e ∙ sym (append_assoc p part (10 ∷ after)) in
    record {
      ls = line ∷ front.ls;
      part = rest;
      cut = begins_then (begins_line (p ++ bytes) line after is_line.no_newline cut) front.cut;
      stands = stands_alone rest new front.no_newline (subst (λ l. KeepsPart l rest new) is_empty kept');
      few = let size = length-append part (10 ∷ after) in omega (arith, ap length e, size, front.few);
      answers = subst (AnswersLines rule (line ∷ front.ls)) (sym grown)
          (answers_more rule (line ∷ []) front.ls first said
          (answers_one rule line first
          (same_answer rule mid line first is_line
          (subst (λ l. AnswersLine rule l first) is_mid answered))) front.answers);
    }
  where
    stands_alone : (rest new : List ℕ) → HasNoNewline rest → KeepsPart [] rest new → StandsForPart new rest
    stands_alone rest new none kept = record {
      no_newline = none;
      same = elim kept [ inl grown ↦ inl grown.1 | inr full ↦ absurd (omega (arith, full.0)) ];
    }

pub nothing : (xs : List ℕ) → length xs ≡ 0 → xs ≡ []
nothing [] e = refl
nothing (x ∷ xs) e = absurd (omega (arith, e))

pub takes_no_end : (rule : Rule) (pending text : List ℕ) → text ≡ [] → pending ≡ []
    → AnswersLast rule pending text
takes_no_end rule pending text unsaid e part stands = elim stands.same [
  | inl same ↦
      subst (λ l. AnswersLines rule (last_line l) text) (sym e ∙ same)
      (subst (AnswersLines rule []) (sym unsaid) (answers_none rule))
  | inr long ↦ absurd (omega (arith, ap length e, long.0))
]

pub takes_end : (rule : Rule) (pending text shown : List ℕ) → pending ≢ [] → shown ≡ pending
    → AnswersLine rule shown text
    → AnswersLast rule pending text
takes_end rule pending text shown some is_pending answered [] stands = elim stands.same [
  | inl same ↦ absurd (some same)
  | inr long ↦ absurd (omega (arith, long.1))
]
takes_end rule pending text shown some is_pending answered (byte ∷ part) stands =
    answers_one rule (byte ∷ part) text
    (same_answer rule pending (byte ∷ part) text stands
    (subst (λ l. AnswersLine rule l text) is_pending answered))
