-- What is the decimal of no number.
--   no_utf8       a text that is no UTF-8
--   no_number     a text that is not read as a number
--   no_decimal    a text that is read as a number, and is not how the number is written
use Rattle.dg_tokens.proofs.Common.{◌≡◌, ℕ, ◌^◌, ◌<◌, List, Result, Ok, Err, true, false, ap, sym, ◌∙◌, subst, decimal, bytes_eq, ParsesUnsigned, IsAscii-decimal, parse-decimal, IsUtf8-from_ascii, bytes_eq-Decides}
use Rattle.std.specs.Prelude.{IsUtf8}

pub no_utf8 : (text : List ℕ) → (IsUtf8 text → ⊥) → (n : ℕ) → n < 2 ^ 64 → text ≡ decimal n → ⊥
no_utf8 text never n small e = never (subst IsUtf8 (sym e) (IsUtf8-from_ascii (decimal n) (IsAscii-decimal n small)))

pub no_number : {E : Type 0} (written text : List ℕ) (fault : E) → written ≡ text → ParsesUnsigned 64 10 written (Err fault)
    → (n : ℕ) → n < 2 ^ 64 → text ≡ decimal n → ⊥
no_number {E} written text fault same_text parses n small e =
    let same : ◌≡◌ {A = Result ℕ E} (Err fault) (Ok n) =
    parse-decimal 64 n written (Err fault) small small (same_text ∙ e) parses in
    cc

pub no_decimal : {E : Type 0} (written text shown : List ℕ) (number : ℕ) (read : Result ℕ E)
    → written ≡ text → ParsesUnsigned 64 10 written read → read ≡ Ok number
    → shown ≡ decimal number → false ≡ bytes_eq shown text
    → (n : ℕ) → n < 2 ^ 64 → text ≡ decimal n → ⊥
no_decimal {E} written text shown number read same_text parses is shows differs n small e =
    let same : read ≡ Ok n = parse-decimal 64 n written read small small (same_text ∙ e) parses in
    let number_is : number ≡ n = cc in
    let equal : bytes_eq shown text ≡ true =
    (bytes_eq-Decides shown text).1 (shows ∙ ap decimal number_is ∙ sym e) in
    cc
