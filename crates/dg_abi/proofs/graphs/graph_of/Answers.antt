use Rattle.std.proofs.Common.{rules, ◌≡◌, length, take, arith, subst, w64, inl, FitsSigned, ◌∙◌}
use Rattle.std.proofs.lemmas.Int.{to_z-of_z}
use Rattle.dg_graph.specs.Items.{IsGraphOf}
use Rattle.dg_graph.specs.Faults.{IsGraphFault}
use Rattle.dg_abi.specs.Calls.{items_of}
use Rattle.dg_abi.proofs.Items.{same_items}
use Rattle.dg_abi.proofs.graphs.graph_of.Goals as goal

pub returns-in-Ok : goal.returns-in-Ok
returns-in-Ok c =
    let same : take (length c.args.edges.now) c.loop-i.items ≡ items_of c.args.edges.now =
    same_items c.loop-i.items c.args.edges.now c.loop-i.i c.loop-i.invariant.size
    (omega (arith, c.if-edges-gt-MAX_ITEMS.false)) (omega (arith, c.loop-i-test.false)) c.loop-i.invariant.same in (
      omega (arith, c.if-edges-gt-MAX_ITEMS.false),
      subst (λ l. IsGraphOf c.args.size l c.in-Ok.graph) same c.in-Ok.ensures,
    )

pub returns-in-Err : goal.returns-in-Err
returns-in-Err c =
    let same : take (length c.args.edges.now) c.loop-i.items ≡ items_of c.args.edges.now =
    same_items c.loop-i.items c.args.edges.now c.loop-i.i c.loop-i.invariant.size
    (omega (arith, c.if-edges-gt-MAX_ITEMS.false)) (omega (arith, c.loop-i-test.false)) c.loop-i.invariant.same in
    let fits : FitsSigned w64 c.fault_number.result = search rules in
    inl (
      omega (arith, c.if-edges-gt-MAX_ITEMS.false),
      record {
        fault = c.in-Err.fault;
        first = subst (λ l. IsGraphFault c.args.size l c.in-Err.fault) same c.in-Err.ensures;
        number = to_z-of_z w64 c.fault_number.result fits ∙ c.fault_number.ensures;
      },
    )
