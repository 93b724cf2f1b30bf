use Rattle.dg_session.proofs.Common.{rules, length, ap, sym, ◌∙◌, script_bytes, legal_named}
use Rattle.dg_session.proofs.Begun.{party_lacks}
use Rattle.dg_session.proofs.Whole.{contents_count, shown_size, whole_lent, party_unclosed}
use Rattle.dg_session.proofs.parties.party_of.Goals as goal

pub party_text-requires-clause-history : goal.party_text-requires-clause-history
party_text-requires-clause-history g c =
    legal_named c.args.names.now g.N.Name.table.start c.in-Ok-close.audit.pen.entries
    (c.requires.names ∙ ap (λ t. t.start.graph.size) (sym c.requires.table)) c.in-Ok-close.ensures.0.history.legal

pub party_text-requires-clause-position : goal.party_text-requires-clause-position
party_text-requires-clause-position g c =
    c.requires.names ∙ ap (λ t. t.start.graph.size) (sym c.requires.table)
    ∙ shown_size g.N.Name.table.start c.in-Ok-close.audit.pen.entries c.in-Ok-close.audit.position
    c.in-Ok-close.ensures.1.position

pub returns-in-Ok-party_text-clause-played : goal.returns-in-Ok-party_text-clause-played
returns-in-Ok-party_text-clause-played g c =
    whole_lent g.N.Name.table c.args.names.now (script_bytes c.args.scripts.now)
    (length c.args.scripts.now) c.in-Ok.opened.1.len c.in-Ok.opened.1.items c.deref_mut.result.now c.sessions.new.seats _
    c.in-Ok-sessions.ends.items
    c.in-Ok-close.audit c.in-Ok-party_text.text.items
    (contents_count c.args.scripts.now) (ap (λ t. t.seats) (sym c.requires.table))
    c.in-Ok.ensures (search rules) (search rules) c.in-Ok-sessions.ensures.ok c.in-Ok-close.ensures (search rules)
    c.in-Ok-party_text.ensures

pub returns-in-Err-clause-refused : goal.returns-in-Err-clause-refused
returns-in-Err-clause-refused g c =
    party_lacks g.N.Name.table (length c.args.scripts.now) c.args.names.now
    (script_bytes c.args.scripts.now) c.in-Ok.opened.1.items c.deref_mut.result.now c.sessions.new.seats c.in-Err.shortage
    (ap (λ t. t.seats) (sym c.requires.table)) c.in-Ok.ensures (search rules) c.in-Err.ensures.fault

pub returns-in_default-clause-refused : goal.returns-in_default-clause-refused
returns-in_default-clause-refused g c =
    party_unclosed g.N.Name.table c.args.names.now (script_bytes c.args.scripts.now)
    (length c.args.scripts.now) c.in-Ok.opened.1.len c.in-Ok.opened.1.items c.deref_mut.result.now c.sessions.new.seats _
    c.in_default.field-0.seats.items c.in-Ok-sessions.ends.items c.in_default.field-0.missing
    (ap (λ t. t.seats) (sym c.requires.table))
    c.in-Ok.ensures (search rules) (search rules) c.in-Ok-sessions.ensures.ok c.in_default.ensures
