-- A text that begins with a minus is a minus and what stands after it.
use Rattle.dg_tokens.proofs.Common.{ℕ, ℤ, List, FitsSigned, w64, subst, signed_decimal, MatchOption, BeginsWithDecimal}
use Rattle.dg_tokens.proofs.Signs.{whole_again}
use Rattle.dg_tokens.proofs.decimals.leading_integer.Goals as goal

pub returns-then-starts_with_minus : goal.returns-then-starts_with_minus
returns-then-starts_with_minus c =
    subst (λ (text : List ℕ). MatchOption c.leading_negative.result
    ((z : ℤ) (rest : List ℕ) → FitsSigned w64 z → ¬ BeginsWithDecimal text (signed_decimal z) rest)
    (λ r. BeginsWithDecimal text (signed_decimal r.0) r.1.now))
    (whole_again c.args.text.now c.if-starts_with_minus.ensures.0 c.if-starts_with_minus.ensures.1) c.leading_negative.ensures
