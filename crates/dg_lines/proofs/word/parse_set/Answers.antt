-- An item that names a vertex puts it into the set; one that names none, or one that is there, refuses them all.
use Rattle.dg_lines.proofs.Common.{◌≡◌, Some, length, refl, sym, ap, ◌∙◌, arith, items}
use Rattle.dg_tokens.specs.Names.{place_of}
use Rattle.dg_lines.proofs.Cutting.{pieces_left, none_left}
use Rattle.dg_lines.proofs.Given.{none_taken, one_taken, all_taken, unnamed_taken, twice_taken}
use Rattle.dg_lines.proofs.word.parse_set.Goals as goal

pub items-init : goal.items-init
items-init c = none_taken c.args.names.now (items c.args.text.now)

pub returns-in_default-place : goal.returns-in_default-place
returns-in_default-place c =
    let next = pieces_left 44 _ _ _ c.cut.result.1 c.in-Some.is c.cut.ensures.before c.cut.ensures.after in
    (refl, unnamed_taken _ _ _ _ _ _ next c.items.invariant (sym c.in_default-place.ensures.place))

pub returns-then-contains : goal.returns-then-contains
returns-then-contains c =
    let next = pieces_left 44 _ _ _ c.cut.result.1 c.in-Some.is c.cut.ensures.before c.cut.ensures.after in
    let place : place_of c.args.names.now c.cut.result.0.now ≡ Some c.from-v.result =
    sym c.in-Some-place.ensures.place ∙ ap Some (sym c.from-v.ensures) in (
      refl,
      twice_taken _ _ _ _ _ _ next c.items.invariant c.from-v.result place
          (sym c.contains.ensures ∙ c.if-contains.true),
    )

pub items-smaller : goal.items-smaller
items-smaller c =
    let next = pieces_left 44 _ _ _ c.cut.result.1 c.in-Some.is c.cut.ensures.before c.cut.ensures.after in
    omega (arith, ap length next)

pub items-preserved : goal.items-preserved
items-preserved c =
    let next = pieces_left 44 _ _ _ c.cut.result.1 c.in-Some.is c.cut.ensures.before c.cut.ensures.after in
    let place : place_of c.args.names.now c.cut.result.0.now ≡ Some c.from-v.result =
    sym c.in-Some-place.ensures.place ∙ ap Some (sym c.from-v.ensures) in
    one_taken _ _ _ _ _ _ next c.items.invariant c.with_vertex-set.result c.from-v.result
    c.len-size.ensures.names.different place (sym c.contains.ensures ∙ c.if-contains.false)
    c.with_vertex-set.ensures.here c.with_vertex-set.ensures.others

pub returns : goal.returns
returns c =
    all_taken _ _ _ _ c.items.invariant (none_left 44 c.items.rest c.in_default.is)
