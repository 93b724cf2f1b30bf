-- An item whose name is a vertex gives it its number; one that names none, or one that is given, refuses them all.
use Rattle.dg_lines.proofs.Common.{◌≡◌, length, map, sym, ap, ◌∙◌, arith, rules, refl, subst, FitsSigned, w64, to_z-of_z, items, item_name, item_number}
use Rattle.dg_tokens.specs.Names.{place_of}
use Rattle.dg_lines.proofs.Cutting.{pieces_left, none_left}
use Rattle.dg_lines.proofs.Given.{unnamed_taken, twice_taken}
use Rattle.dg_lines.proofs.Scripts.{IsSpelled, no_pairs, one_pair, all_pairs, parse_vertex, entries_within, parse_script, part_after}
use Rattle.dg_lines.proofs.word.parse_script.Goals as goal

pub items-init : goal.items-init
items-init c = no_pairs c.args.names.now (items c.args.text.now)

pub returns-in_default-place : goal.returns-in_default-place
returns-in_default-place c =
    let next = pieces_left 44 _ _ _ c.cut.result.1 c.in-Some.is c.cut.ensures.before c.cut.ensures.after in
    let same = ap (place_of c.args.names.now) (sym c.cut-in-Some.ensures.before) in
    let none = same ∙ sym c.in_default-place.ensures.place in
    unnamed_taken _ _ _ _ _ _ (ap (map item_name) next) c.items.invariant.taken none

pub returns-then-contains : goal.returns-then-contains
returns-then-contains c =
    let next = pieces_left 44 _ _ _ c.cut.result.1 c.in-Some.is c.cut.ensures.before c.cut.ensures.after in
    let place =
    parse_vertex c.args.names.now _ _ _ _ c.cut-in-Some.ensures.before c.in-Some-place.ensures.place c.from-v.ensures in
    let there = sym c.contains.ensures ∙ c.if-contains.true in
    twice_taken _ _ _ _ _ _ (ap (map item_name) next) c.items.invariant.taken c.from-v.result place there

pub items-smaller : goal.items-smaller
items-smaller c =
    let next = pieces_left 44 _ _ _ c.cut.result.1 c.in-Some.is c.cut.ensures.before c.cut.ensures.after in
    omega (arith, ap length next)

pub items-preserved : goal.items-preserved
items-preserved c =
    let next = pieces_left 44 _ _ _ c.cut.result.1 c.in-Some.is c.cut.ensures.before c.cut.ensures.after in
    let place =
    parse_vertex c.args.names.now _ _ _ _ c.cut-in-Some.ensures.before c.in-Some-place.ensures.place c.from-v.ensures in
    let text : c.unwrap_or.result.now ≡ item_number c.cut.result.0.now =
    part_after _ c.cut-in-Some.result.1 _ c.unwrap_or.result refl c.cut-in-Some.ensures.after c.unwrap_or.ensures in
    let held : FitsSigned w64 c.unwrap_or-in-Some.result = search rules in
    rw (to_z-of_z held, c.unwrap_or-in-Some.ensures, c.is_some-are_spelled.ensures)
    (one_pair _ _ _ _ _ _ _ _ next c.items.invariant c.entry_from_decimal-entry.result c.with_vertex-given.result c.from-v.result
    c.place.ensures.few
    c.len-size.ensures.names.different place (sym c.contains.ensures ∙ c.if-contains.false)
    c.with_vertex-given.ensures.here c.with_vertex-given.ensures.others
    (subst (λ t. IsSpelled t c.entry_from_decimal-entry.result) text c.entry_from_decimal-entry.ensures))

pub returns-then-not-are_spelled : goal.returns-then-not-are_spelled
returns-then-not-are_spelled c =
    let read = all_pairs _ _ _ _ _ _ c.items.invariant (none_left 44 c.items.rest c.in_default.is) in
    (read.0, read.1.unspelled c.if-not-are_spelled.true)

pub sized-script-requires-clause-limit : goal.sized-script-requires-clause-limit
sized-script-requires-clause-limit c =
    let read = all_pairs _ _ _ _ _ _ c.items.invariant (none_left 44 c.items.rest c.in_default.is) in
    entries_within _ _ _ _ _ read.1 c.len-size.result c.len-size.ensures.len

pub returns : goal.returns
returns c =
    let read = all_pairs _ _ _ _ _ _ c.items.invariant (none_left 44 c.items.rest c.in_default.is) in
    record {
      numbers = read.1.numbers;
      spelled = read.1.spelled c.if-not-are_spelled.false;
      limit = read.1.within;
      script =
          parse_script _ _ _ _ _ read.1 c.len-size.result c.sized-script.result read.0 c.size-size.ensures.script
          c.len-size.ensures.len c.len-size.ensures.few c.sized-script.ensures;
    }
