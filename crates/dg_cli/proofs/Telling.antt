-- How the library's account is read.
use Rattle.dg_cli.proofs.Common.{◌≡◌, ◌≢◌, ◌∙◌, ◌⊎◌, ◌<◌, ◌^◌, ℕ, Option, Some, None, Result, Ok, Err, IsErrAnd, true≢false, is_some, inl, inr, sym, ap, arith, decimal, option_map, ok_or, Bor, decimal_injective, Text, IsNumberIn, IsGiven, IsGivenOr, TellsInvocation, least_of_argument, most_of_argument, NumberArgument, Capacity, Workers, Seats, Degree, Turns, Refusal}
use Rattle.dg_cli.specs.declared.reading.Refusal.TheVariants.{Command}

pub none≢some : {X : Type 0} (x : X) → None ≡ Some x → ⊥
none≢some x e = true≢false (sym (ap is_some e))

pub found : (o : Option (Bor Text)) (t : Option Text) → option_map (λ s. s.now) o ≡ t →
    TellsInvocation (λ (w : Bor Text). t ≡ Some w.now)
    (ok_or o Command)
found None t e = inr (λ w h. none≢some w.now (e ∙ h))
found (Some s) t e = sym e

-- a refusal is handed on, if whatever may be asked for then might have been asked for before
pub passes : {A B : Type 0} (P : A → Type 0) (Q : B → Type 0) (r : Result B Refusal) (e : Refusal) → TellsInvocation P (Err e)
    → IsErrAnd r (λ x. x ≡ e)
    → ((y : B) → Q y → (x : A) × P x) → TellsInvocation Q r
passes P Q (Ok y) e told is back = absurd is
passes P Q (Err x) e told is back = elim told [
  | inl m ↦ inl (is ∙ m)
  | inr none ↦ inr (λ y q. none (back y q).0 (back y q).1)
]

pub given_before : (default low high : ℕ) (t : Option Text) (n : ℕ) → IsGivenOr default low high t n →
    (g : Option ℕ) × IsGiven low high t g
given_before default low high None n e = (None, tt)
given_before default low high (Some text) n h = (Some n, h)

pub number_before : (low high : ℕ) (text : Text) (t : Option Text) → Some text ≡ t → (g : Option ℕ) → IsGiven low high t g →
    (n : ℕ) × IsNumberIn low high text n
number_before low high text None e g h = absurd (none≢some text (sym e))
number_before low high text (Some u) e None h = absurd h
number_before low high text (Some u) e (Some n) h = (n, subst_text (sym (some_injective e)) h)
  where
    some_injective : {X : Type 0} {x y : X} → Some x ≡ Some y → x ≡ y
    some_injective {x = x} e = ap (λ o. Rattle.std.specs.Option.unwrap_or o x) e

    subst_text : {u v : Text} → u ≡ v → IsNumberIn low high u n → IsNumberIn low high v n
    subst_text e h = record { spelled = sym e ∙ h.spelled; not_less = h.not_less; not_more = h.not_more }

most_fits : (argument : NumberArgument) → most_of_argument argument < 2 ^ 64
most_fits Capacity = omega arith
most_fits Workers = omega arith
most_fits Seats = omega arith
most_fits Degree = omega arith
most_fits Turns = omega arith

-- a text that is the decimal of no number, or of one out of the range, is no number of the argument
pub no_decimal : (argument : NumberArgument) (text : Text) → ((n : ℕ) → n < 2 ^ 64 → text ≢ decimal n) → (x : ℕ) →
    IsNumberIn
    (least_of_argument argument) (most_of_argument argument) text x → ⊥
no_decimal argument text none x h =
    let fits = most_fits argument in
    none x (omega (arith, h.not_more)) h.spelled

pub out_of_range : (argument : NumberArgument) (text : Text) (n : ℕ) → n < 2 ^ 64 → text ≡ decimal n
    → ((n < least_of_argument argument) ⊎
    (most_of_argument argument < n))
    → (x : ℕ) → IsNumberIn (least_of_argument argument) (most_of_argument argument) text x → ⊥
out_of_range argument text n small is out x h =
    let fits = most_fits argument in
    let same : x ≡ n = decimal_injective x n (omega (arith, h.not_more)) small (sym h.spelled ∙ is) in
    elim out [
      | inl below ↦ absurd (omega (arith, h.not_less))
      | inr above ↦ absurd (omega (arith, h.not_more))
    ]
