use Rattle.dg_cli.proofs.Common.{◌<◌, ◌^◌, ◌∙◌, inl, inr, sym, arith, least_of_argument, most_of_argument}
use Rattle.dg_cli.proofs.Telling.{no_decimal, out_of_range}
use Rattle.dg_cli.proofs.reading.parse_number.Goals.{in_default-via-in-Some+then-least-number+else-number-most, in_default-via-in-Some+else-least-number, in_default-via-in_default}
use Rattle.dg_cli.proofs.reading.parse_number.Goals as goal

pub returns-in_default : goal.returns-in_default
returns-in_default c =
    let same = c.as_bytes.ensures.value in
    inr (elim c.in_default.branch [
      | in_default-via-in-Some+then-least-number+else-number-most w ↦
          let fits = rw w.in-Some.is at c.parse_natural.type_inv in
          let small : w.in-Some.number < 2 ^ 64 = omega (arith, fits) in
          let above : most_of_argument c.args.argument < w.in-Some.number = omega
          (arith, w.if-number-most.false, c.range-least.ensures.1) in
          out_of_range c.args.argument _ w.in-Some.number small (sym same ∙ w.in-Some.ensures) (inr above)
      | in_default-via-in-Some+else-least-number w ↦
          let fits = rw w.in-Some.is at c.parse_natural.type_inv in
          let small : w.in-Some.number < 2 ^ 64 = omega (arith, fits) in
          let below : w.in-Some.number < least_of_argument c.args.argument = omega (
            arith,
            w.if-least-number.false,
            c.range-least.ensures.0,
          ) in
          out_of_range c.args.argument _ w.in-Some.number small (sym same ∙ w.in-Some.ensures) (inl below)
      | in_default-via-in_default w ↦
          no_decimal c.args.argument _ (λ n small is. w.in_default.ensures n small (same ∙ is))
    ])
