-- The key of that text is the name; what is not UTF-8 is no name.
use Rattle.dg_tokens.proofs.Common.{◌∙◌, sym}
use Rattle.dg_tokens.proofs.Naming.{position_text, no_place}
use Rattle.dg_tokens.proofs.NamesLaws.{IsUtf8-name, name_at-place_of}
use Rattle.dg_tokens.proofs.names.Names.place.Goals as goal

pub returns-in_default-clause-place : goal.returns-in_default-clause-place
returns-in_default-clause-place c =
    sym (no_place c.args.self.now c.args.name.now (rw c.self.view_is at c.self.invariant.1)
    (λ is. c.in_default.ensures.cases.0 (IsUtf8-name c.args.name.now is)))

pub returns-in_err-place-clause-place : goal.returns-in_err-place-clause-place
returns-in_err-place-clause-place c =
    c.from_residual.ensures ∙ c.in_err-place.ensures.index
    ∙ position_text c.self.inside.set.keys c.args.self.now c.in-Ok.text.now c.args.name.now c.self.view_is
    c.in-Ok.ensures.cases.0

pub returns-clause-place : goal.returns-clause-place
returns-clause-place c =
    c.in_ok-place.ensures.index
    ∙ position_text c.self.inside.set.keys c.args.self.now c.in-Ok.text.now c.args.name.now c.self.view_is
    c.in-Ok.ensures.cases.0

pub returns-clause-named : goal.returns-clause-named
returns-clause-named c =
    name_at-place_of c.args.self.now c.args.name.now c.in_ok-place.place
    (sym (c.in_ok-place.ensures.index
    ∙ position_text c.self.inside.set.keys c.args.self.now c.in-Ok.text.now c.args.name.now c.self.view_is
    c.in-Ok.ensures.cases.0))
