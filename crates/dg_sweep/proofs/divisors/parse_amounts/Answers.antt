-- A word that is a number is read; one that is none leaves the line without numbers.
use Rattle.dg_sweep.proofs.Common.{FitsSigned, w64, to_z-of_z, rules, ap, arith, length, refl, pieces_left, pieces_next, none_left, before}
use Rattle.dg_sweep.proofs.Amounts.{read_none, read_one, read_all, none_read}
use Rattle.dg_sweep.proofs.divisors.parse_amounts.Goals as goal

pub words-init : goal.words-init
words-init c = rw c.in_ok-amounts.ensures.items (read_none c.args.line.now)

pub returns-in_default-parse_first_amount : goal.returns-in_default-parse_first_amount
returns-in_default-parse_first_amount c =
    none_read _ _ c.words.invariant (pieces_next 32 _ _ c.in-Some.is) c.in_default-parse_first_amount.ensures

pub words-smaller : goal.words-smaller
words-smaller c =
    let next =
    pieces_left 32 _ _ (before 32 c.in-Some.text.now) c.in-Some-parse_first_amount.after c.in-Some.is refl
    c.in-Some-parse_first_amount.ensures.1 in
    omega (arith, ap length next)

pub words-preserved : goal.words-preserved
words-preserved c =
    let next =
    pieces_left 32 _ _ (before 32 c.in-Some.text.now) c.in-Some-parse_first_amount.after c.in-Some.is refl
    c.in-Some-parse_first_amount.ensures.1 in
    let fits : FitsSigned w64 c.in-Some-parse_first_amount.amount = search rules in
    rw (c.in_ok-push.ensures.items, to_z-of_z fits)
    (read_one _ _ c.in-Some-parse_first_amount.amount c.words.invariant next
    c.in-Some-parse_first_amount.ensures.0 fits)

pub returns : goal.returns
returns c = read_all c.words.invariant (none_left 32 c.words.rest c.in_default.is)
