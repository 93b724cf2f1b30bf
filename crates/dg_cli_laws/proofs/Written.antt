-- Two things that the rows of one command ask for are written alike: each as the rows tell.
--   told name rows     == the words that the rows of the command of that name tell
--   asks-told          what is asked for is written as the rows tell
use Rattle.dg_cli_laws.proofs.Common.{◌≡◌, ◌∙◌, ◌+◌, ◌*◌, ℕ, Bool, true, false, cond, List, [], ◌∷◌, ◌++◌, Option, None, Some, IsSomeAnd, true≢false, codes, decimal, refl, sym, ap, slice_index, unwrap_or, is_some, option_map_or, bytes_eq, bytes_eq-Decides, Form, VerdictForm, Invocation, Question, Judge, Rank, RiemannRoch, MAX_CAPACITY, IsGiven, IsGivenOr, IsNumberIn, AsksFor, AsksQuestion, HasOneTable, HasFormFlag, HasVerdictFlags, HasOrder, HasLinesOption, divisors_option, word_of, words_of, form_as_written, lines_as_written, order_as_written, question_as_written, verdict_as_written, seats_as_written, written}
use Rattle.std.proofs.Common.{◌==◌}
use Rattle.clap.specs.Words.{Row, Text}
use Rattle.dg_invocation.specs.declared.invocation.Invocation.TheVariants as asked
use Rattle.dg_invocation.specs.declared.invocation.Task.TheVariants as task
use Rattle.dg_invocation.specs.declared.question.Form.TheVariants as form
use Rattle.dg_invocation.specs.declared.question.VerdictForm.TheVariants as verdict

-- whether the word of a flag is that it is set
abbrev is_set : Option Text → Bool
is_set o = option_map_or (bytes_eq (codes "true")) o false

abbrev has_lines : List Row → Bool
has_lines rows = cond (is_some (divisors_option rows)) true (is_set (word_of (codes "lines") rows))

abbrev the : Text → List Row → Text
the name rows = unwrap_or (word_of name rows) []

abbrev number_or : ℕ → Text → List Row → Text
number_or default name rows = unwrap_or (word_of name rows) (decimal default)

abbrev some : Option Text → List Text
some None = []
some (Some text) = text ∷ []

-- by the first two letters of the name
abbrev key : Text → ℕ
key name = slice_index name 0 * 256 + slice_index name 1

abbrev order_told : List Row → List Text
order_told rows = order_as_written (is_set (word_of (codes "order") rows))

abbrev form_told : List Row → List Text
form_told rows = cond (is_set (word_of (codes "numbers") rows)) (codes "--numbers" ∷ []) []

abbrev verdict_told : List Row → List Text
verdict_told rows = cond (is_set (word_of (codes "numbers") rows)) (codes "--numbers" ∷ []) (order_told rows)

abbrev question_told : ℕ → List Row → List Text
question_told n rows =
    cond (n == 27253) (codes "judge" ∷ verdict_told rows)
    (cond (n == 29281) (codes "rank" ∷ the (codes "degree") rows ∷ form_told rows) (codes "rr" ∷ form_told rows))

abbrev sweep_told : ℕ → List Row → List Text
sweep_told n rows =
    lines_as_written (divisors_option rows)
    ++ the (codes "file") rows ∷ number_or 1 (codes "workers") rows ∷ question_told n rows

abbrev table_told : ℕ → List Row → List Text
table_told n rows =
    cond (n == 27253) (codes "judge" ∷ the (codes "file") rows ∷ order_told rows)
    (cond (n == 29281)
    (codes "rank" ∷ the (codes "file") rows ∷ the (codes "degree") rows ∷ number_or 1 (codes "workers") rows ∷ [])
    (codes "rr" ∷ the (codes "file") rows ∷ []))

abbrev other_told : ℕ → List Row → List Text
other_told n rows =
    cond (n == 26482) (codes "greedy" ∷ the (codes "file") rows ∷ the (codes "turns") rows ∷ [])
    (cond (n == 29285) (codes "rehearse" ∷ the (codes "file") rows ∷ the (codes "steps") rows ∷ [])
    (cond (n == 29541)
    (codes "serve" ∷ the (codes "file") rows ∷ number_or MAX_CAPACITY (codes "cap") rows ∷ number_or 1 (codes "workers") rows
    ∷ some (word_of (codes "seats") rows))
    (codes "party" ∷ the (codes "file") rows ∷ number_or MAX_CAPACITY (codes "cap") rows
    ∷ unwrap_or (words_of (codes "script") rows) [])))

abbrev of_lines : ℕ → Bool
of_lines n = cond (n == 27253) true (cond (n == 29281) true (n == 29298))

abbrev told_by : ℕ → List Row → List Text
told_by n rows =
    cond (of_lines n) (cond (has_lines rows) (sweep_told n rows) (table_told n rows)) (other_told n rows)

abbrev pub told : Text → List Row → List Text
told name rows = told_by (key name) rows

set : (o : Option Text) → o ≡ Some (codes "true") → is_set o ≡ true
set o is = ap is_set is

is-set : (o : Option Text) → is_set o ≡ true → o ≡ Some (codes "true")
is-set None is = absurd (true≢false (sym is))
is-set (Some text) is = ap Some (sym ((bytes_eq-Decides (codes "true") text).0 is))

not-set : (o : Option Text) → (o ≡ Some (codes "true") → ⊥) → is_set o ≡ false
not-set o never = go (is_set o) refl
  where
    go : (b : Bool) → is_set o ≡ b → is_set o ≡ false
    go true is = absurd (never (is-set o is))
    go false is = is

with_divisors : List Row → Option Text → Bool
with_divisors rows o = cond (is_some o) true (is_set (word_of (codes "lines") rows))

-- a command on one table has no lines, and a sweep has
one-table : (rows : List Row) → HasOneTable rows → has_lines rows ≡ false
unfolding with_divisors
one-table rows alone = ap (with_divisors rows) alone.1 ∙ not-set (word_of (codes "lines") rows) alone.0

swept : (rows : List Row) → HasLinesOption rows (divisors_option rows) → has_lines rows ≡ true
unfolding with_divisors
swept rows lines = go (divisors_option rows) refl lines
  where
    go : (o : Option Text) → divisors_option rows ≡ o → HasLinesOption rows o → has_lines rows ≡ true
    go None is flag = ap (with_divisors rows) is ∙ set (word_of (codes "lines") rows) flag
    go (Some name) is flag = ap (with_divisors rows) is

a-word : (name : Text) (rows : List Row) (text : Text) → word_of name rows ≡ Some text → text ≡ the name rows
a-word name rows text is = sym (ap (λ (o : Option Text). unwrap_or o []) is)

a-number : (low high n : ℕ) (o : Option Text) → IsSomeAnd o (λ text. IsNumberIn low high text n) → decimal n ≡
    unwrap_or o []
a-number low high n None h = absurd h
a-number low high n (Some text) h = sym h.spelled

a-default : (default low high n : ℕ) (o : Option Text) → IsGivenOr default low high o n
    → decimal n ≡ unwrap_or o (decimal default)
a-default default low high n None h = ap decimal h
a-default default low high n (Some text) h = sym h.spelled

some-seats : (low high : ℕ) (o : Option Text) (n : Option ℕ) → IsGiven low high o n → seats_as_written n ≡ some o
some-seats low high None None h = refl
some-seats low high None (Some n) h = absurd h
some-seats low high (Some text) None h = absurd h
some-seats low high (Some text) (Some n) h = ap (λ (t : Text). t ∷ []) (sym h.spelled)

an-order : (rows : List Row) (ordered : Bool) → HasOrder rows ordered → order_as_written ordered ≡ order_told rows
an-order rows true h = rw (set (word_of (codes "order") rows) (h.0 refl)) refl
an-order rows false h = rw (not-set (word_of (codes "order") rows) (λ is. true≢false (sym (h.1 is)))) refl

a-form : (rows : List Row) (form : Form) → HasFormFlag rows form → form_as_written form ≡ form_told rows
a-form rows form.Words h = rw (not-set (word_of (codes "numbers") rows) h) refl
a-form rows form.Numbers h = rw (set (word_of (codes "numbers") rows) h) refl

a-verdict-form : (rows : List Row) (form : VerdictForm) → HasVerdictFlags rows form
    → verdict_as_written form ≡ verdict_told rows
a-verdict-form rows (verdict.Words ordered) h =
    rw (not-set (word_of (codes "numbers") rows) h.0) (an-order rows ordered h.1)
a-verdict-form rows verdict.Numbers h = rw (set (word_of (codes "numbers") rows) h.0) refl

by-table : (n : ℕ) (name : Text) (rows : List Row) → key name ≡ n → of_lines n ≡ true → HasOneTable rows
    → table_told n rows ≡ told name rows
by-table n name rows is lined alone = rw (is, lined, one-table rows alone) refl

by-sweep : (n : ℕ) (name : Text) (rows : List Row) → key name ≡ n → of_lines n ≡ true → HasLinesOption rows (divisors_option rows)
    → sweep_told n rows ≡ told name rows
by-sweep n name rows is lined lines = rw (is, lined, swept rows lines) refl

by-other : (n : ℕ) (name : Text) (rows : List Row) → key name ≡ n → of_lines n ≡ false → other_told n rows ≡ told name rows
by-other n name rows is lined = rw (is, lined) refl

a-question : (name : Text) (rows : List Row) (question : Question) → AsksQuestion name rows question
    → (n : ℕ) × (key name ≡ n) × (of_lines n ≡ true) × (question_as_written question ≡ question_told n rows)
a-question name rows (Judge form) h = (27253, ap key h.0, refl, rw (a-verdict-form rows form h.1) refl)
a-question name rows (Rank k form) h =
    let degree = a-number _ _ k (word_of (codes "degree") rows) h.1 in
    (29281, ap key h.0, refl, rw (degree, a-form rows form h.2) refl)
a-question name rows (RiemannRoch form) h = (29298, ap key h.0, refl, rw (a-form rows form h.1) refl)

pub asks-told : (name : Text) (rows : List Row) (it : Invocation) → AsksFor name rows it → written it ≡ told name rows
asks-told name rows (asked.Task (task.Judge file ordered)) h =
    rw (a-word (codes "file") rows file.now h.1, an-order rows ordered h.3)
    (by-table 27253 name rows (ap key h.0) refl h.2.0.0)
asks-told name rows (asked.Task (task.Rank test)) h =
    rw (
      a-word (codes "file") rows test.file.now h.1.file,
      a-number _ _ test.degree (word_of (codes "degree") rows) h.1.degree,
      a-default _ _ _ test.workers (word_of (codes "workers") rows) h.1.workers,
    ) (by-table 29281 name rows (ap key h.0) refl h.2.0)
asks-told name rows (asked.Task (task.RiemannRoch file)) h =
    rw (a-word (codes "file") rows file.now h.1) (by-table 29298 name rows (ap key h.0) refl h.2.0.0)
asks-told name rows (asked.Task (task.Greedy play)) h =
    rw (
      a-word (codes "file") rows play.file.now h.1.file,
      a-number _ _ play.turns (word_of (codes "turns") rows) h.1.turns,
    ) (by-other 26482 name rows (ap key h.0) refl)
asks-told name rows (asked.Task (task.Rehearse file steps)) h =
    rw (a-word (codes "file") rows file.now h.1, a-word (codes "steps") rows steps.now h.2)
    (by-other 29285 name rows (ap key h.0) refl)
asks-told name rows (asked.Serve session) h =
    rw (
      a-word (codes "file") rows session.file.now h.1.file,
      a-default _ _ _ session.capacity (word_of (codes "cap") rows) h.1.capacity,
      a-default _ _ _ session.workers (word_of (codes "workers") rows) h.1.workers,
      some-seats _ _ (word_of (codes "seats") rows) session.seats h.1.seats,
    ) (by-other 29541 name rows (ap key h.0) refl)
asks-told name rows (asked.Party party) h =
    rw (
      a-word (codes "file") rows party.file.now h.1.file,
      a-default _ _ _ party.capacity (word_of (codes "cap") rows) h.1.capacity,
      sym (ap (λ (o : Option (List Text)). unwrap_or o []) h.1.scripts),
    ) (by-other 28769 name rows (ap key h.0) refl)
asks-told name rows (asked.Sweep sweep) h =
    let (n, is, lined, words) = a-question name rows sweep.question h.question in
    rw (
      h.divisors,
      a-word (codes "file") rows sweep.file.now h.file,
      a-default _ _ _ sweep.workers (word_of (codes "workers") rows) h.workers,
      words,
    ) (by-sweep n name rows is lined h.lines)
asks-told name rows (asked.Text text) h = absurd h
