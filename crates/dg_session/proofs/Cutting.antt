-- The lines of a session's stream.
--   plain         a line has no newline
--   line_is       bytes that are one
--   cuts_line     a line with its newline is cut off
--   cuts_last     and so is what is pending, if nothing more comes
--   cuts_more     lines that come after others
--   cuts_over     what is over here is over there
--   cuts_all      where nothing is left, the lines are all
--   cuts_short    the lines have as many bytes as the stream, and a newline
use Rattle.dg_session.proofs.Common.{◌+◌, ◌≤◌, ◌≡◌, ◌≢◌, inl, inr, List, [], ◌∷◌, ◌++◌, ℕ, length, refl, sym, ap, subst, ◌∙◌, append_assoc, All-nil, flat_map, append-nil, arith, length-append, with_newline, BeginsWithLines, HasNoNewline, one_cutting, one_line, begins_none, begins_one, begins_then, IsLine, Cuts}
use Rattle.std.proofs.lemmas.List.Concat.{flat_map-append}
use Rattle.dg_lines.specs.Cuts.{lines}

pub plain : (line : List ℕ) → IsLine line → HasNoNewline line
plain line is = is.no_newline

pub line_is : (p : List ℕ) → p ≡ [] → IsLine p
line_is p none = subst IsLine (sym none) (record { no_newline = All-nil (λ byte. byte ≢ 10); short = omega arith })

pub cuts_line : {over : Type 0} {rest : List ℕ} (p part more : List ℕ) → rest ≡ part ++ 10 ∷ more → IsLine (p ++ part)
    → Cuts over (p ++ rest) ((p ++ part) ∷ []) more
cuts_line {over} p part more cut is = inl (subst (λ l. BeginsWithLines IsLine l ((p ++ part) ∷ []) more)
    (append_assoc p part (10 ∷ more) ∙ ap (λ l. p ++ l) (sym cut)) (begins_one more is))

pub cuts_last : {over : Type 0} (p : List ℕ) → over → IsLine p → 1 ≤ length p → Cuts over (p ++ []) ((p ++ []) ∷ []) []
cuts_last {over} p end is some = subst (λ l. Cuts over l (l ∷ []) []) (sym (append-nil p))
    (inr (end, refl, record { front = []; last = p; lines = refl; begins = begins_none p; is = is; some = some }))

pub cuts_more : {over : Type 0} {stream mid rest : List ℕ} {ls last : List (List ℕ)}
    → BeginsWithLines IsLine stream ls mid → Cuts over mid last rest → Cuts over stream (ls ++ last) rest
cuts_more {ls = ls} p q = elim q [
  | inl more ↦ inl (begins_then p more)
  | inr all ↦ let u = all.2 in inr (
    all.0,
    all.1,
    record {
      front = ls ++ u.front;
      last = u.last;
      lines = ap (λ l. ls ++ l) u.lines ∙ sym (append_assoc ls u.front (u.last ∷ []));
      begins = begins_then p u.begins;
      is = u.is;
      some = u.some;
    },
  )
]

pub cuts_over : {E over : Type 0} {stream rest : List ℕ} {ls : List (List ℕ)} → (E → over) → Cuts E stream ls rest
    → Cuts over stream ls rest
cuts_over f cut = elim cut [ inl more ↦ inl more | inr all ↦ inr (f all.0, all.1, all.2) ]

pub cuts_all : {over : Type 0} {stream rest : List ℕ} {ls : List (List ℕ)} → Cuts over stream ls rest → rest ≡ []
    → ls ≡ lines stream
cuts_all {stream = stream} {rest} {ls} cut none = elim cut [
  | inl more ↦ sym (one_cutting plain stream [] ls (subst (BeginsWithLines IsLine stream ls) none more)
      (line_is [] refl).no_newline ∙ append-nil ls)
  | inr all ↦ let u = all.2 in
      u.lines ∙ ap (λ l. u.front ++ l) (sym (one_line u.last u.some))
      ∙ sym (one_cutting plain stream u.last u.front u.begins u.is.no_newline)
]

pub cuts_short : {over : Type 0} {stream rest : List ℕ} {ls : List (List ℕ)} → Cuts over stream ls rest
    → length (flat_map with_newline ls) ≤ length stream + 1
cuts_short {stream = stream} {rest} {ls} cut = elim cut [
  | inl more ↦ omega (arith, ap length more.whole, length-append (flat_map with_newline ls) rest)
  | inr all ↦ let u = all.2 in
      let front = flat_map with_newline u.front in
      let size = ap (λ l. length (flat_map with_newline l)) u.lines
      ∙ ap length (flat_map-append with_newline u.front (u.last ∷ [])) in
      omega (
        arith,
        size,
        length-append front (with_newline u.last ++ []),
        length-append (with_newline u.last) [],
        length-append u.last (10 ∷ []),
        ap length u.begins.whole,
        length-append front u.last,
      )
]
