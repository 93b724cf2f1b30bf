-- Cutting a stream into lines, and what `cut` gives of it.
--   begins_none, begins_one, begins_more, begins_then   streams that begin with lines, and what follows them
--   each_last, one_line   what is left as a last line
--   one_cutting   a stream is cut in one way
--   come_then, come_last   lines that come after others, and the last one
--   part_plain, part_front, part_whole, part_line   what `cut` gives of bytes: a part with no newline, and what
--       follows it
--   line_shorter  what stands after a line is shorter
use Rattle.dg_lines.proofs.Common.{Bor, length, ◌<◌, ◌≤◌, inl, inr, subst, ◌≡◌, ◌≢◌, ℕ, ◌==◌, cond, Bool, true, false, List, [], ◌∷◌, ◌++◌, Option, Some, None, refl, sym, ap, ◌∙◌, arith, append_assoc, flat_map, All-head, All-tail, All-append, All-cons, All-nil, flat_map-append, nat_tests, option_copied, cons_to_first, HasNoNewline, BeginsWithLines, LinesHaveCome, with_newline, last_line}
use Rattle.std.proofs.Common.{length-append, append-nil, All}
use Rattle.dg_lines.specs.Cuts.{before, after, lines}

module _ {P : List ℕ → Type 0} where
  pub begins_none : (stream : List ℕ) → BeginsWithLines P stream [] stream
  begins_none stream = record { whole = refl; each = All-nil P }

  pub begins_one : {line : List ℕ} (more : List ℕ) → P line → BeginsWithLines P (line ++ 10 ∷ more) (line ∷ []) more
  begins_one {line} more is = record {
    whole = sym (append_assoc line (10 ∷ []) more) ∙ ap (λ l. l ++ more) (sym (append-nil (line ++ 10 ∷ [])));
    each = All-cons P line [] is (All-nil P);
  }

  pub begins_more : {bytes rest : List ℕ} {ls : List (List ℕ)} (more : List ℕ) → BeginsWithLines P bytes ls rest
      → BeginsWithLines P (bytes ++ more) ls (rest ++ more)
  begins_more {bytes} {rest} {ls} more b =
      record { whole = ap (λ l. l ++ more) b.whole ∙ append_assoc (flat_map with_newline ls) rest more; each = b.each }

  pub begins_then : {stream mid rest : List ℕ} {ls last : List (List ℕ)} → BeginsWithLines P stream ls mid
      → BeginsWithLines P mid last rest → BeginsWithLines P stream (ls ++ last) rest
  begins_then {stream} {mid} {rest} {ls} {last} p q = record {
    whole = p.whole ∙ ap (λ l. flat_map with_newline ls ++ l) q.whole
        ∙ sym (append_assoc (flat_map with_newline ls) (flat_map with_newline last) rest)
        ∙ ap (λ l. l ++ rest) (sym (flat_map-append with_newline ls last));
    each = All-append P ls last p.each q.each;
  }

pub each_last : (P : List ℕ → Type 0) (p : List ℕ) → P p → All P (last_line p)
each_last P [] is = All-nil P
each_last P (b ∷ bs) is = All-cons P (b ∷ bs) [] is (All-nil P)

pub one_line : (p : List ℕ) → 1 ≤ length p → last_line p ≡ p ∷ []
one_line [] some = absurd (omega (arith, some))
one_line (x ∷ xs) some = refl

abbrev Other : ℕ → Type 0
Other byte = byte ≢ 10

other_byte : (x : ℕ) → x ≢ 10 → (x == 10) ≡ false
other_byte x other = grind (arith, nat_tests)

line_first : (line rest : List ℕ) → HasNoNewline line → lines (line ++ 10 ∷ rest) ≡ line ∷ lines rest
unfolding lines
line_first [] rest none = refl
line_first (x ∷ xs) rest none =
    ap (λ t. cond t ([] ∷ lines (xs ++ 10 ∷ rest)) (cons_to_first x (lines (xs ++ 10 ∷ rest))))
    (other_byte x (All-head Other x xs none))
    ∙ ap (cons_to_first x) (line_first xs rest (All-tail Other x xs none))

rest_last : (rest : List ℕ) → HasNoNewline rest → lines rest ≡ last_line rest
unfolding lines
rest_last [] none = refl
rest_last (x ∷ []) none =
    ap (λ t. cond t ([] ∷ lines []) (cons_to_first x (lines []))) (other_byte x (All-head Other x [] none))
rest_last (x ∷ y ∷ ys) none =
    ap (λ t. cond t ([] ∷ lines (y ∷ ys)) (cons_to_first x (lines (y ∷ ys))))
    (other_byte x (All-head Other x (y ∷ ys) none))
    ∙ ap (cons_to_first x) (rest_last (y ∷ ys) (All-tail Other x (y ∷ ys) none))

-- no line has a newline
module _ {P : List ℕ → Type 0} (plain : (line : List ℕ) → P line → HasNoNewline line) where
  lines_after : (ls : List (List ℕ)) (rest : List ℕ) → All P ls
      → lines (flat_map with_newline ls ++ rest) ≡ ls ++ lines rest
  lines_after [] rest each = refl
  lines_after (line ∷ ls) rest each =
      ap lines (append_assoc (line ++ 10 ∷ []) (flat_map with_newline ls) rest
      ∙ append_assoc line (10 ∷ []) (flat_map with_newline ls ++ rest))
      ∙ line_first line (flat_map with_newline ls ++ rest) (plain line (All-head P line ls each))
      ∙ ap (λ more. line ∷ more) (lines_after ls rest (All-tail P line ls each))

  lines_of : {stream rest : List ℕ} {ls : List (List ℕ)} → BeginsWithLines P stream ls rest → lines stream ≡ ls ++ lines rest
  lines_of {stream} {rest} {ls} cut = ap lines cut.whole ∙ lines_after ls rest cut.each

  pub one_cutting : (stream rest : List ℕ) (ls : List (List ℕ)) → BeginsWithLines P stream ls rest → HasNoNewline rest
      → lines stream ≡ ls ++ last_line rest
  one_cutting stream rest ls cut none = lines_of cut ∙ ap (λ l. ls ++ l) (rest_last rest none)

  pub come_then : {E ended : Type 0} (over : E → ended) {stream rest : List ℕ} {ls : List (List ℕ)}
      (last : List (List ℕ)) → BeginsWithLines P stream ls rest → LinesHaveCome P E rest last
      → LinesHaveCome P ended stream (ls ++ last)
  come_then over {stream} {rest} {ls} last p come = elim come [
    | inl more ↦ inl (more.0, begins_then p more.1)
    | inr all ↦ inr (over all.0, ap (λ l. ls ++ l) all.1 ∙ sym (lines_of p), All-append P ls last p.each all.2)
  ]

  pub come_last : {ended : Type 0} (p : List ℕ) → ended → P p → LinesHaveCome P ended p (last_line p)
  come_last p over is = inr (over, sym (rest_last p (plain p is)), each_last P p is)

no_newline : (bytes : List ℕ) → HasNoNewline (before 10 bytes)
unfolding before
no_newline [] = All-nil Other
no_newline (x ∷ xs) =
    let P : Bool → Type 0 = λ t. (x == 10) ≡ t → HasNoNewline (cond t [] (x ∷ before 10 xs)) in
    (elim (x == 10) as P [
      | true ↦ λ e. All-nil Other
      | false ↦ λ e. All-cons Other x (before 10 xs) (λ same. absurd (grind (arith, nat_tests))) (no_newline xs)
    ]) refl

cut_nothing : (bytes : List ℕ) → after 10 bytes ≡ None → before 10 bytes ≡ bytes
unfolding before after
cut_nothing [] none = refl
cut_nothing (x ∷ xs) none =
    let P : Bool → Type 0 = λ t. cond t (Some xs) (after 10 xs) ≡ None → cond t [] (x ∷ before 10 xs) ≡ x ∷ xs in
    (elim (x == 10) as P [
      | true ↦ λ e. absurd cc
      | false ↦ λ e. ap (λ more. x ∷ more) (cut_nothing xs e)
    ]) none

cut_line : (bytes rest : List ℕ) → after 10 bytes ≡ Some rest → bytes ≡ before 10 bytes ++ 10 ∷ rest
unfolding before after
cut_line [] rest found = absurd cc
cut_line (x ∷ xs) rest found =
    let P : Bool → Type 0 = λ t. (x == 10) ≡ t → cond t (Some xs) (after 10 xs) ≡ Some rest
    → x ∷ xs ≡ cond t [] (x ∷ before 10 xs) ++ 10 ∷ rest in
    (elim (x == 10) as P [
      | true ↦ λ t e. let same : x ≡ 10 = grind (arith, nat_tests) in let more : xs ≡ rest = cc in cc
      | false ↦ λ t e. ap (λ more. x ∷ more) (cut_line xs rest e)
    ]) refl found

front_left : (bytes : List ℕ) → (more : List ℕ) × (bytes ≡ before 10 bytes ++ more)
unfolding before
front_left [] = ([], refl)
front_left (x ∷ xs) =
    (elim (x == 10) as (λ t. (more : List ℕ) × (x ∷ xs ≡ cond t [] (x ∷ before 10 xs) ++ more)) [
      | true ↦ (x ∷ xs, refl)
      | false ↦ let (more, e) = front_left xs in (more, ap (λ l. x ∷ l) e)
    ])

pub part_plain : (bytes part : List ℕ) → part ≡ before 10 bytes → HasNoNewline part
part_plain bytes part e = subst HasNoNewline (sym e) (no_newline bytes)

pub part_front : (bytes part : List ℕ) → part ≡ before 10 bytes → (more : List ℕ) × (bytes ≡ part ++ more)
part_front bytes part e = let (more, whole) = front_left bytes in (more, whole ∙ ap (λ l. l ++ more) (sym e))

pub part_whole : (bytes part : List ℕ) (o : Option (Bor (List ℕ))) → part ≡ before 10 bytes
    → option_copied o ≡ after 10 bytes → o ≡ None → bytes ≡ part ++ []
part_whole bytes part None e follows none = sym (append-nil part ∙ e ∙ cut_nothing bytes (sym follows))
part_whole bytes part (Some rest) e follows none = absurd cc

pub part_line : (bytes part : List ℕ) (o : Option (Bor (List ℕ))) (rest : Bor (List ℕ)) → part ≡ before 10 bytes
    → option_copied o ≡ after 10 bytes → o ≡ Some rest
    → bytes ≡ part ++ 10 ∷ rest.now
part_line bytes part o rest e follows some =
    cut_line bytes rest.now (sym (sym (ap (λ (p : Option (Bor (List ℕ))). option_copied p) some) ∙ follows))
    ∙ ap (λ l. l ++ 10 ∷ rest.now) (sym e)

pub line_shorter : (bytes part rest : List ℕ) → bytes ≡ part ++ 10 ∷ rest → length rest < length bytes
line_shorter bytes part rest e =
    let size = length-append part (10 ∷ rest) in
    omega (arith, ap length e, size)
