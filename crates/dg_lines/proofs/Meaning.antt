-- A line spells no two commands, has no two faults, and never both.
--   line_read        what is read of the words of a line is what the line spells, or its fault
--   line_meaning_is_unique
use Rattle.dg_lines.proofs.Common.{◌≡◌, ℕ, ◌<◌, ◌^◌, cond, true, false, ℤ, pos, List, [], ◌∷◌, length, map, Some, None, Result, Ok, Err, refl, ap, sym, ◌∙◌, subst, arith, codes, FitsSigned, w64, decimal, MatchResult, IfOk, IfErr, All, IsSome, is_some, bytes_eq, option_map, signed_decimal, decimal_injective, signed_decimal_injective, ints, All-nil, All-cons, Vector, Move, Borrow, Fire, Script, Command, Call, Commit, Rank, Gift, Join, Look, Claim, name_at, LineFault, Seat, Word, Form, Name, Number, words, items, WordKind, vertex, vertices, degree, dollars, item_name, item_number, IsWordNumeral, HaveDistinctNames, AreNumerals, SpellsScript, IsSpelledSet, wanted_kinds, kinds_on_line, IsWellFormed, Means, SpellsCommand, AreRefusedWords, IsLineFault, one_vector, LineMeaningIsUnique}
use Rattle.dg_chips.specs.declared.moves.Move.TheVariants.{Lend}
use Rattle.dg_rules.specs.declared.entry.Plain.TheVariants.{Move as Play}
use Rattle.dg_tokens.specs.Names.{place_of}
use Rattle.dg_lines.specs.CommandWords.{number_spelled_for}
use Rattle.dg_lines.specs.Commands.{kinds_beside}
use Rattle.dg_lines.proofs.Given.{named_alone, none_given, one_set}
use Rattle.dg_lines.proofs.Integers.{within_fits}
use Rattle.dg_lines.proofs.Scripts.{told_numbers, one_list}

-- ---- from words to lines
pub same_words : (one other : List ℕ) (ones others : List (List ℕ)) → one ∷ ones ≡ other ∷ others
    → (one ≡ other) × (ones ≡ others)
same_words one other ones others e = (cc, cc)

module _ (names : List (List ℕ)) (line keyword : List ℕ) (rest : List (List ℕ))
    (cut : words line ≡ keyword ∷ rest) where
  pub line_read : (result : Result Command LineFault) → IsWellFormed keyword rest
      → MatchResult result (λ command. Means names command keyword rest) (λ fault. AreRefusedWords names fault keyword rest)
      → IfOk result (λ command. SpellsCommand names command line) × IfErr result (λ fault. IsLineFault names fault line)
  line_read (Ok command) formed read =
      (record { keyword = keyword; rest = rest; cut = cut; formed = formed; means = read }, tt)
  line_read (Err fault) formed read = (tt, record { keyword = keyword; rest = rest; cut = cut; refused = read })

  refused_at : (fault : LineFault) → IsLineFault names fault line → AreRefusedWords names fault keyword rest
  refused_at fault known =
      let same = same_words known.keyword keyword known.rest rest (sym known.cut ∙ cut) in
      subst (λ k. AreRefusedWords names fault k rest) same.0
      (subst (AreRefusedWords names fault known.keyword) same.1 known.refused)

  means_at : (c : Command) → SpellsCommand names c line → Means names c keyword rest
  means_at c known =
      let same = same_words known.keyword keyword known.rest rest (sym known.cut ∙ cut) in
      subst (λ k. Means names c k rest) same.0 (subst (Means names c known.keyword) same.1 known.means)

-- ---- what is spelled has no fault
gift_number : (x : ℤ) → FitsSigned w64 x → IsWordNumeral dollars (signed_decimal x)
gift_number x fits =
    let sides = within_fits x fits in
    record { number = x; spelled = refl; not_less = sides.0; not_more = sides.1 }

rank_number : (k : ℕ) → k < 2 ^ 32 → IsWordNumeral degree (decimal k)
rank_number k small =
    record { number = pos k; spelled = refl; not_less = omega (arith, ints); not_more = omega (arith, ints) }

no_numbers : (kind : WordKind) → All (IsWordNumeral kind) []
no_numbers kind = All-nil (IsWordNumeral kind)

one_number : (kind : WordKind) (text : List ℕ) → IsWordNumeral kind text → All (IsWordNumeral kind) (text ∷ [])
one_number kind text good = All-cons (IsWordNumeral kind) text [] good (no_numbers kind)

module _ (names : List (List ℕ)) (keyword : List ℕ) (rest : List (List ℕ)) where
  means_good : (c : Command) → Means names c keyword rest
      → HaveDistinctNames names (kinds_on_line keyword) rest × AreNumerals (kinds_on_line keyword) rest
  unfolding kinds_beside
  means_good (Call (Play (Lend v))) (word, one, (key, place)) =
      rw (key, one) ((named_alone names word v place, tt), (no_numbers vertex, tt))
  means_good (Call (Play (Borrow v))) (word, one, (key, place)) =
      rw (key, one) ((named_alone names word v place, tt), (no_numbers vertex, tt))
  means_good (Call (Play (Fire members))) (word, one, (key, known)) =
      rw (key, one) ((known.are_given, tt), (no_numbers vertices, tt))
  means_good (Call (Play (Script s))) (word, one, (key, known)) =
      rw (key, one) (
        (known.script.are_given, tt),
        (told_numbers (map item_number (items word)) known.numbers known.spelled known.limit, tt),
      )
  means_good (Call (Gift v x)) (key, known) =
      rw (key, known.given) (
        (named_alone names known.name v known.vertex, (none_given names, tt)),
        (no_numbers vertex, (one_number dollars (signed_decimal x) (gift_number x known.fits), tt)),
      )
  means_good (Call (Join u v)) (key, known) =
      rw (key, known.given) (
        (named_alone names known.first u known.from, (named_alone names known.second v known.to, tt)),
        (no_numbers vertex, (no_numbers vertex, tt)),
      )
  means_good (Call Look) (key, none) = rw key (tt, tt)
  means_good (Call Claim) (key, none) = rw key (tt, tt)
  means_good Commit (key, none) = rw key (tt, tt)
  means_good (Rank k) (key, one, small) =
      rw (key, one) ((none_given names, tt), (one_number degree (decimal k) (rank_number k small), tt))

  unwanted : wanted_kinds keyword ≡ None → IsWellFormed keyword rest → ⊥
  unwanted none formed =
      let no : Some (length rest) ≡ None = sym formed.wanted ∙ ap (option_map length) none in cc

  not_wanted : wanted_kinds keyword ≡ None → IsSome (wanted_kinds keyword) → ⊥
  not_wanted e f = let no : false ≡ true = sym (ap is_some e) ∙ f in cc

  no_fault : (c : Command) (fault : LineFault) → IsWellFormed keyword rest → Means names c keyword rest
      → AreRefusedWords names fault keyword rest → ⊥
  no_fault c Seat formed means refused = refused
  no_fault c Word formed means refused = unwanted refused formed
  no_fault c Form formed means refused = refused.1 formed
  no_fault c Name formed means refused = refused.1 (means_good c means).0
  no_fault c Number formed means refused = refused.2 (means_good c means).1

  one_refusal : (one other : LineFault) → AreRefusedWords names one keyword rest
      → AreRefusedWords names other keyword rest
      → one ≡ other
  one_refusal Seat other a b = absurd a
  one_refusal one Seat a b = absurd b
  one_refusal Word Word a b = refl
  one_refusal Word Form a b = absurd (not_wanted a b.0)
  one_refusal Word Name a b = absurd (unwanted a b.0)
  one_refusal Word Number a b = absurd (unwanted a b.0)
  one_refusal Form Word a b = absurd (not_wanted b a.0)
  one_refusal Form Form a b = refl
  one_refusal Form Name a b = absurd (a.1 b.0)
  one_refusal Form Number a b = absurd (a.1 b.0)
  one_refusal Name Word a b = absurd (unwanted b a.0)
  one_refusal Name Form a b = absurd (b.1 a.0)
  one_refusal Name Name a b = refl
  one_refusal Name Number a b = absurd (a.1 b.1)
  one_refusal Number Word a b = absurd (unwanted b a.0)
  one_refusal Number Form a b = absurd (b.1 a.0)
  one_refusal Number Name a b = absurd (b.1 a.1)
  one_refusal Number Number a b = refl

-- ---- one command
abbrev play : Move → Command
play move = Call (Play move)

-- the form of a command whose word is known
abbrev HasForm : Command → List ℕ → Type 0
HasForm c keyword =
    cond (bytes_eq keyword (codes "lend")) ((v : ℕ) × (c ≡ play (Lend v)))
    (cond (bytes_eq keyword (codes "borrow")) ((v : ℕ) × (c ≡ play (Borrow v)))
    (cond (bytes_eq keyword (codes "fire")) ((set : ℕ) × (c ≡ play (Fire set)))
    (cond (bytes_eq keyword (codes "script")) ((s : Vector) × (c ≡ play (Script s)))
    (cond (bytes_eq keyword (codes "gift")) ((v : ℕ) × (x : ℤ) × (c ≡ Call (Gift v x)))
    (cond (bytes_eq keyword (codes "join")) ((u : ℕ) × (v : ℕ) × (c ≡ Call (Join u v)))
    (cond (bytes_eq keyword (codes "look")) (c ≡ Call Look)
    (cond (bytes_eq keyword (codes "claim")) (c ≡ Call Claim)
    (cond (bytes_eq keyword (codes "commit")) (c ≡ Commit)
    ((k : ℕ) × (c ≡ Rank k))))))))))

one_word : (one other : List ℕ) (rest : List (List ℕ)) → rest ≡ one ∷ [] → rest ≡ other ∷ [] → other ≡ one
one_word one other rest e f = let same : one ∷ [] ≡ other ∷ [] = sym e ∙ f in cc

two_words : (a b c d : List ℕ) (rest : List (List ℕ)) → rest ≡ a ∷ b ∷ [] → rest ≡ c ∷ d ∷ [] → (c ≡ a) × (d ≡ b)
two_words a b c d rest e f = let same : a ∷ b ∷ [] ≡ c ∷ d ∷ [] = sym e ∙ f in (cc, cc)

module _ (names : List (List ℕ)) where
  one_place : (word : List ℕ) (v w : ℕ) → place_of names word ≡ Some v → place_of names word ≡ Some w → v ≡ w
  one_place word v w here there = let same : Some v ≡ Some w = sym here ∙ there in cc

  one_script : (word : List ℕ) (s t : Vector) → SpellsScript names word s → SpellsScript names word t
      → s ≡ t
  one_script word s t first second =
      one_vector 1_000_000_000 s t first.script.within second.script.within
      (first.script.size ∙ sym second.script.size) (λ v inside.
      let below : v < length names = omega (arith, inside, first.script.size) in
      first.script.entries v below
      ∙ ap (λ xs. number_spelled_for (map item_name (items word)) xs (name_at names v)) numbers
      ∙ sym (second.script.entries v below))
    where
      numbers : first.numbers ≡ second.numbers
      numbers = one_list first.numbers second.numbers (sym first.spelled ∙ second.spelled) first.limit second.limit

module _ (names : List (List ℕ)) (keyword : List ℕ) (rest : List (List ℕ)) where
  form_of : (c : Command) → Means names c keyword rest → HasForm c keyword
  form_of (Call (Play (Lend v))) (word, one, (key, place)) = rw key (v, refl)
  form_of (Call (Play (Borrow v))) (word, one, (key, place)) = rw key (v, refl)
  form_of (Call (Play (Fire members))) (word, one, (key, known)) = rw key (members, refl)
  form_of (Call (Play (Script s))) (word, one, (key, known)) = rw key (s, refl)
  form_of (Call (Gift v x)) (key, known) = rw key (v, x, refl)
  form_of (Call (Join u v)) (key, known) = rw key (u, v, refl)
  form_of (Call Look) (key, none) = rw key refl
  form_of (Call Claim) (key, none) = rw key refl
  form_of Commit (key, none) = rw key refl
  form_of (Rank k) (key, one, small) = rw key (k, refl)

  -- what is meant by a command that is another
  meant_as : (d e : Command) → d ≡ e → Means names d keyword rest → Means names e keyword rest
  meant_as d e same means = subst (λ x. Means names x keyword rest) same means

  -- of two commands that the same words spell the second has the form of the first
  one_command : (c d : Command) → Means names c keyword rest → Means names d keyword rest → HasForm d keyword → c ≡ d
  one_command (Call (Play (Lend v))) d (word, one, (key, place)) other form =
      let (w, is) = subst (HasForm d) key form in
      let also = meant_as d (play (Lend w)) is other in
      let there = subst (λ name. place_of names name ≡ Some w) (one_word word also.0 rest one also.1) also.2.1 in
      ap (λ x. play (Lend x)) (one_place names word v w place there) ∙ sym is
  one_command (Call (Play (Borrow v))) d (word, one, (key, place)) other form =
      let (w, is) = subst (HasForm d) key form in
      let also = meant_as d (play (Borrow w)) is other in
      let there = subst (λ name. place_of names name ≡ Some w) (one_word word also.0 rest one also.1) also.2.1 in
      ap (λ x. play (Borrow x)) (one_place names word v w place there) ∙ sym is
  one_command (Call (Play (Fire members))) d (word, one, (key, known)) other form =
      let (m, is) = subst (HasForm d) key form in
      let also = meant_as d (play (Fire m)) is other in
      let there = subst (λ w. IsSpelledSet names (items w) m) (one_word word also.0 rest one also.1) also.2.1 in
      ap (λ x. play (Fire x)) (one_set names (items word) members m known there) ∙ sym is
  one_command (Call (Play (Script s))) d (word, one, (key, known)) other form =
      let (t, is) = subst (HasForm d) key form in
      let also = meant_as d (play (Script t)) is other in
      let there = subst (λ w. SpellsScript names w t) (one_word word also.0 rest one also.1) also.2.1 in
      ap (λ x. play (Script x)) (one_script names word s t known there) ∙ sym is
  one_command (Call (Gift v x)) d (key, known) other form =
      let (w, y, is) = subst (HasForm d) key form in
      let also = (meant_as d (Call (Gift w y)) is other).1 in
      let same = two_words known.name (signed_decimal x) also.name (signed_decimal y) rest known.given also.given in
      let there = subst (λ name. place_of names name ≡ Some w) same.0 also.vertex in
      let number = signed_decimal_injective x y known.fits.sfits also.fits.sfits (sym same.1) in
      ap (λ u. Call (Gift u x)) (one_place names known.name v w known.vertex there)
      ∙ ap (λ z. Call (Gift w z)) number ∙ sym is
  one_command (Call (Join u v)) d (key, known) other form =
      let (a, b, is) = subst (HasForm d) key form in
      let also = (meant_as d (Call (Join a b)) is other).1 in
      let same = two_words known.first known.second also.first also.second rest known.given also.given in
      let from = subst (λ name. place_of names name ≡ Some a) same.0 also.from in
      let to = subst (λ name. place_of names name ≡ Some b) same.1 also.to in
      ap (λ w. Call (Join w v)) (one_place names known.first u a known.from from)
      ∙ ap (λ w. Call (Join a w)) (one_place names known.second v b known.to to) ∙ sym is
  one_command (Call Look) d (key, none) other form = sym (subst (HasForm d) key form)
  one_command (Call Claim) d (key, none) other form = sym (subst (HasForm d) key form)
  one_command Commit d (key, none) other form = sym (subst (HasForm d) key form)
  one_command (Rank k) d (key, one, small) other form =
      let (m, is) = subst (HasForm d) key form in
      let also = meant_as d (Rank m) is other in
      let same = one_word (decimal k) (decimal m) rest one also.1 in
      ap Rank (decimal_injective k m (omega arith) (omega (arith, also.2)) (sym same)) ∙ sym is

pub line_meaning_is_unique : LineMeaningIsUnique
line_meaning_is_unique = record {
  not_both = λ names line c fault known refused.
      no_fault names known.keyword known.rest c fault known.formed known.means
      (refused_at names line known.keyword known.rest known.cut fault refused);
  command = λ names line c d first second.
      let also = means_at names line first.keyword first.rest first.cut d second in
      one_command names first.keyword first.rest c d first.means also (form_of names first.keyword first.rest d also);
  fault = λ names line one other first second.
      one_refusal names first.keyword first.rest one other first.refused
      (refused_at names line first.keyword first.rest first.cut other second);
}
