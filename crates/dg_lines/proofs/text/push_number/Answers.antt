use Rattle.dg_lines.proofs.Common.{◌++◌, List, ℕ, sym, ap, ◌∙◌, decimal_digit}
use Rattle.dg_lines.proofs.text.push_number.Goals as goal

pub returns-then-number-lt10 : goal.returns-then-number-lt10
returns-then-number-lt10 g c =
    c.in_ok-push.ensures.items
    ∙ ap (λ (digits : List ℕ). c.args.text.now.items ++ digits) (sym (decimal_digit c.args.number c.if-number-lt10.true))
