-- Of n columns the first has its `NA` without a space before it.
use Rattle.dg_sweep.proofs.Common.{◌≡◌, ◌≢◌, ◌-◌, ◌++◌, ℕ, [], codes, refl, sym, ap, ◌∙◌, arith}
use Rattle.std.specs.Prelude.{zero, suc}
use Rattle.std.proofs.lemmas.Grind.{common_steps}
use Rattle.dg_lines.specs.Columns.{marks}
use Rattle.dg_sweep.specs.Answers.{missing}
use Rattle.dg_sweep.proofs.answering.push_missing.Goals as goal

none : (n : ℕ) → n ≡ 0 → missing n ≡ []
unfolding missing
none zero e = refl
none (suc n) e = absurd (omega (arith, e))

some : (n : ℕ) → n ≢ 0 → missing n ≡ codes "NA" ++ marks (n - 1) ++ codes " # "
unfolding missing
some zero e = absurd (e refl)
some (suc n) e = ap (λ (k : ℕ). codes "NA" ++ marks k ++ codes " # ") (sym (omega arith))

pub returns-then-columns-eq0 : goal.returns-then-columns-eq0
returns-then-columns-eq0 c = c.requires ∙ sym (none c.args.columns c.if-columns-eq0.true)

pub returns : goal.returns
returns c = rw (some c.args.columns c.if-columns-eq0.false) (grind (arith, common_steps))
