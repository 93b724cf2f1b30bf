-- The edges read so far, and the values that are left.
use Rattle.dg_file.proofs.Common.{sym, ◌∙◌, arith, edge_in_json}
use Rattle.dg_file.proofs.Listing.{each-start, each-more, each-all, edge-fault, some-before}
use Rattle.dg_file.proofs.shape.edges_from_json.Goals as goal

pub loop-i-init : goal.loop-i-init
loop-i-init c = record {
  read = rw c.new-edges.ensures.items (each-start edge_in_json c.args.items.now);
  before = λ k below. absurd (omega arith);
}

pub loop-i-preserved : goal.loop-i-preserved
loop-i-preserved c = let some = sym c.edge_from_json.ensures ∙ c.in-Some.is in record {
  read = rw c.in_ok-push.ensures.items
      (each-more edge_in_json c.args.items.now c.loop-i.i c.index-items-i.result c.loop-i.edges.items c.in-Some.edge
      c.loop-i-test.true c.index-items-i.is some c.loop-i.invariant.read);
  before = some-before edge_in_json c.args.items.now c.loop-i.i c.index-items-i.result c.in-Some.edge
      c.loop-i-test.true c.index-items-i.is some c.loop-i.invariant.before;
}

pub returns-in_default-clause-refused : goal.returns-in_default-clause-refused
returns-in_default-clause-refused c =
    edge-fault c.args.items.now c.loop-i.i c.index-items-i.result c.loop-i-test.true c.index-items-i.is
    (sym c.edge_from_json.ensures ∙ c.in_default.is) c.loop-i.invariant.before

pub returns-clause-edges : goal.returns-clause-edges
returns-clause-edges c =
    each-all edge_in_json c.args.items.now c.loop-i.i c.loop-i.edges.items c.loop-i-test.false c.loop-i.invariant.read
