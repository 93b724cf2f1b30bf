use Rattle.dg_graph.proofs.Common.{◌≡◌, ◌≤◌, arith, valence, edges_into, into-le-valence}
use Rattle.dg_graph.specs.Sets.{in_set}
use Rattle.dg_graph.proofs.graph.Graph.edges_into.Goals as goal

pub returns-clause-few : goal.returns-clause-few
returns-clause-few c =
    let all : c.loop-w.w ≡ c.args.self.now.size = omega arith in
    let sum : c.loop-w.sum ≡ edges_into c.args.self.now (in_set c.args.set) c.args.v =
    rw all at (c.loop-w.invariant.sum) in
    let most : edges_into c.args.self.now (in_set c.args.set) c.args.v ≤ valence c.args.self.now c.args.v =
    into-le-valence c.args.self.now (in_set c.args.set) c.args.v in
    let few : valence c.args.self.now c.args.v ≤ 63 = c.size-w-end.ensures.graph.valences c.args.v c.requires in
    omega arith
