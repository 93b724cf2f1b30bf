use Rattle.dg_cli.proofs.Common.{Result, Err, Ok, ◌≡◌, IsErrAnd, IfErr, inl, inr, sym, subst, Error, AsksFor}
use Rattle.dg_cli.proofs.Parsing.{ask_nothing, asks, entered, faultless, why}
use Rattle.dg_cli.proofs.command_line.invocation_of_words.Goals as goal

handed : {T : Type 0} (P : Error → Type 0) (r : Result T Error) (e : Error) → P e → IsErrAnd r (λ x. x ≡ e) → IfErr r P
handed P (Ok x) e h is = tt
handed P (Err x) e h is = subst P (sym is) h

pub returns-in_err-matches-clause-refused : goal.returns-in_err-matches-clause-refused
returns-in_err-matches-clause-refused c = handed _ _ _
    (why _ _ c.in_err-matches.field-0.0 c.in_ok-program_command.ensures c.in_err-matches.ensures.kinds)
    c.from_residual-in_err-matches.ensures.1

pub returns-in-Ok-clause-asked : goal.returns-in-Ok-clause-asked
returns-in-Ok-clause-asked c =
    let none = faultless _ _ c.in_ok-program_command.ensures c.in_ok-matches.ensures.kinds in
    let rows = entered _ _ _ _ c.in_ok-program_command.ensures c.in_ok-matches.ensures.matches in
    asks _ _ none (subst (λ o. Rattle.std.proofs.Common.IsSomeAnd o (λ p. AsksFor p.0 p.1 c.in-Ok.asked)) rows c.in-Ok.ensures)

pub returns-clause-refused : goal.returns-clause-refused
returns-clause-refused c =
    let none = faultless _ _ c.in_ok-program_command.ensures c.in_ok-matches.ensures.kinds in
    let rows = entered _ _ _ _ c.in_ok-program_command.ensures c.in_ok-matches.ensures.matches in
    elim c.in-Err.ensures [
      | inl memory ↦ inl (c.in_ok-clap_error_of-in-Err.ensures.0 memory)
      | inr nothing ↦ inr (inr (
        ask_nothing _ none (λ it h. nothing it (subst (λ o. Rattle.std.proofs.Common.IsSomeAnd o (λ p. AsksFor p.0 p.1 it))
            (sym rows) h)),
        c.in_ok-clap_error_of-in-Err.ensures.1,
      ))
    ]
