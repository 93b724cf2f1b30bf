use Rattle.std.proofs.Common.{◌≡◌, ◌+◌, [], ◌∷◌, ◌++◌, take, sym, ap, ◌∙◌, append-nil}
use Rattle.std.proofs.lemmas.List.{take_more}
use Rattle.std.proofs.lemmas.Option.{slice_get_within, get_or_from_slice_get}
use Rattle.dg_session.specs.Printed.{numbered_entries_text}
use Rattle.dg_session.proofs.Printing.{entries_step}
use Rattle.dg_session.proofs.closing.push_entries.Goals as goal

pub entries-init : goal.entries-init
unfolding numbered_entries_text
entries-init g c = sym (append-nil c.args.text.now.items)

pub push_party_entry-requires : goal.push_party_entry-requires
push_party_entry-requires g c = c.requires c.entries.number c.entry.result.now c.entry.ensures

pub entries-preserved : goal.entries-preserved
entries-preserved g c =
    let H = c.args.audit.now.pen.entries in
    let n = c.entries.number in
    let e = c.entry.result.now in
    let within = slice_get_within H n e c.entry.ensures in
    let longer : take (n + 1) H ≡ take n H ++ e ∷ [] =
    take_more H n e within ∙ ap (λ x. take n H ++ x ∷ []) (get_or_from_slice_get H n e e c.entry.ensures) in
    entries_step c.args.names.now H n e c.args.text.now.items c.entries.text.items _ within longer c.entries.invariant
    c.in_ok-push_party_entry.ensures
