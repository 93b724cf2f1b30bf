-- What `insert` leaves, as a list of names.
use Rattle.dg_tokens.proofs.Common.{◌≡◌, ℕ, ◌≤◌, Bool, true, false, ap, not, cond, ◌∙◌, sym, length, List, map, string_bytes, arith, rules, length-map, String, Global, names_inserted}
use Rattle.dg_tokens.proofs.Naming.{has_text, insert_text}
use Rattle.dg_tokens.proofs.NamesLaws.{AreNames-added}
use Rattle.dg_tokens.proofs.Labelling.{AreLabels-added}
use Rattle.dg_tokens.proofs.names.Names.insert.Goals as goal
use Rattle.dg_tokens.proofs.names.Names.insert.Goals.{In_ok-is_new}

at_most_one : (b : Bool) → cond {A = ℕ} b 1 0 ≤ 1
at_most_one true = omega arith
at_most_one false = omega arith

left : (c : In_ok-is_new) → map string_bytes c.insert.new.self.keys ≡ names_inserted c.args.self.now c.args.name.now
left c =
    ap (λ (keys : List (String Global)). map string_bytes keys) c.in_ok-is_new.ensures.keys
    ∙ insert_text c.self.inside.set.keys c.in_ok-own.own _ _ c.self.view_is c.in_ok-own.ensures.ok

pub returns-clause-added : goal.returns-clause-added
returns-clause-added c =
    c.in_ok-is_new.ensures.added
    ∙ ap not (has_text c.self.inside.set.keys c.in_ok-own.own _ _ c.self.view_is c.in_ok-own.ensures.ok)

pub returns-clause-names : goal.returns-clause-names
returns-clause-names c = left c

pub invariant_of-self-2 : goal.invariant_of-self-2
invariant_of-self-2 c =
    let old : length c.self.inside.set.keys ≡ length c.args.self.now =
    sym (length-map c.self.inside.set.keys string_bytes) ∙ ap length c.self.view_is in
    let size : length c.self.inside.labels ≡ 16 = search rules in (
      omega (arith, old, at_most_one c.in_ok-is_new.is_new, c.in_ok-is_new.ensures.len, c.requires.room),
      rw (left c) (AreNames-added c.args.self.now c.args.name.now (rw c.self.view_is at c.self.invariant.1) c.requires.name),
      rw (left c) (AreLabels-added c.self.inside.labels c.args.self.now c.args.name.now c.len-next.result _
          (omega (arith, old, c.len-next.ensures.len)) (omega (arith, c.requires.room, old, c.len-next.ensures.len, size))
          (rw c.as_bytes.ensures.value at c.new.ensures) (rw c.self.view_is at c.self.invariant.2)),
    )
