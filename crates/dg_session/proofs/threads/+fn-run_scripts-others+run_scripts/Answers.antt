use Rattle.dg_session.proofs.Common.{◌≤◌, length, ap, arith, rules, tests, IfErr-weaker, on_ok_weaker}
use Rattle.dg_session.proofs.Begun.{nobody_plays, none_begun, one_more, more_begun}
use Rattle.dg_session.proofs.threads.+fn-run_scripts-others+run_scripts.Goals as goal

pub returns-in_default-clause-ok : goal.returns-in_default-clause-ok
returns-in_default-clause-ok g n c =
    nobody_plays _ _ _ _ _ c.requires.scripts c.requires.ends c.in_default.ensures.cases

pub returns-in-Ok-clause-ok : goal.returns-in-Ok-clause-ok
returns-in-Ok-clause-ok g n c =
    on_ok_weaker c.in-Ok.told (λ are.
    one_more _ _ _ _ _ _ _ _ _ _ c.in-Ok.ended _ c.in-Some-split_first.ensures.cases.0
    c.in-Some.ensures.cases.0 (search rules) are) (search rules)

pub returns-in-Ok-clause-fault : goal.returns-in-Ok-clause-fault
returns-in-Ok-clause-fault g n c =
    IfErr-weaker c.in-Ok.told _ _ (λ lack begun.
    more_begun _ _ _ _ _ _ _ _ _ _ c.in-Ok.ended lack c.in-Some-split_first.ensures.cases.0 c.in-Some.ensures.cases.0
    (search rules) begun) (search rules)

pub returns-in-Err-clause-fault : goal.returns-in-Err-clause-fault
returns-in-Err-clause-fault g n c =
    let some : 1 ≤ length c.in-Some.rest.now = search (rules, tests) in (
      c.in-Err.ensures.0,
      none_begun _ _ _ _ _ _ _ _ _ _ c.in-Some-split_first.ensures.cases.0 c.in-Some.ensures.cases.0
          (search rules) (search rules) (omega (arith, c.requires.scripts, ap length c.in-Some.ensures.cases.0, some)),
    )

pub returns-then-is_empty-clause-ok : goal.returns-then-is_empty-clause-ok
returns-then-is_empty-clause-ok g n c =
    one_more _ _ _ _ _ _ _ _ _ _ c.run_script.result _ c.in-Some-split_first.ensures.cases.0 c.in-Some.ensures.cases.0
    (rw c.as_slice-script.ensures.value at c.run_script.ensures) (nobody_plays _ _ _ _ _
    (omega (arith, c.requires.scripts, ap length c.in-Some-split_first.ensures.cases.0, ap length c.in-Some.ensures.cases.0))
    (omega (
      arith,
      c.requires.ends,
      ap length c.in-Some-split_first.ensures.cases.0,
      ap length c.in-Some-split_first_mut.ensures.cases.0,
    )) (search (rules, tests)))
