-- The array has three items, and each is what an edge wants there.
use Rattle.dg_file.proofs.Common.{◌≡◌, sym, ◌∙◌, arith, as_str, view, edge_in_json, edge_from_json, count_in_json}
use Rattle.dg_file.proofs.Listing.{edge-three, edge-others}
use Rattle.dg_file.proofs.shape.edge_from_json.Goals as goal
use Rattle.dg_file.proofs.shape.edge_from_json.Goals.{After-index-3}

parts : (c : After-index-3)
    → edge_in_json (view c.args.value.now)
    ≡ edge_from_json (as_str (view c.index.result.now)) (as_str (view c.index-2.result.now))
    (count_in_json (view c.index-3.result.now))
parts c =
    edge-three (view c.args.value.now) c.in_ok-items.items.now.items c.index.result.now c.index-2.result.now
    c.index-3.result.now c.in_ok-items.ensures
    (omega (arith, c.in_ok-items.items.now.ok.0, c.len.ensures, c.if-len-ne3.false)) c.index.ensures c.index-2.ensures
    c.index-3.ensures

pub returns-then-len-ne3 : goal.returns-then-len-ne3
returns-then-len-ne3 c =
    sym (edge-others _ c.in_ok-items.items.now.items c.in_ok-items.ensures (λ three.
    c.if-len-ne3.true (omega (arith, c.in_ok-items.items.now.ok.0, c.len.ensures, three))))

pub returns-in_err-as_str : goal.returns-in_err-as_str
returns-in_err-as_str c =
    c.from_residual-in_err-as_str.ensures
    ∙ sym (rw (← c.in_err-as_str.ensures) at (parts (goal.at.returns-in_err-as_str c).After-index-3))

pub returns-in_err-as_str-2 : goal.returns-in_err-as_str-2
returns-in_err-as_str-2 c =
    let read = parts (goal.at.returns-in_err-as_str-2 c).After-index-3 in
    c.from_residual-in_err-as_str-2.ensures
    ∙ sym (rw (← c.in_ok-as_str.ensures, ← c.in_err-as_str-2.ensures) at read)

pub returns-in_err-count_from_json : goal.returns-in_err-count_from_json
returns-in_err-count_from_json c =
    let read = parts (goal.at.returns-in_err-count_from_json c).After-index-3 in
    c.from_residual-in_err-count_from_json.ensures
    ∙ sym (rw (← c.in_ok-as_str.ensures, ← c.in_ok-as_str-2.ensures, ← c.in_err-count_from_json.ensures) at read)

pub returns : goal.returns
returns c =
    let read = parts (goal.at.returns c).After-index-3 in
    sym (rw (← c.in_ok-as_str.ensures, ← c.in_ok-as_str-2.ensures, ← c.in_ok-count_from_json.ensures) at read)
