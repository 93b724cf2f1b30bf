use Rattle.dg_graph.proofs.Common.{ap, ◌∙◌, slice_index}
use Rattle.dg_graph.specs.Valences.{valences_of}
use Rattle.dg_graph.proofs.Valences.{valences_of-all}
use Rattle.dg_graph.proofs.graph.Graph.valences.Goals as goal

pub returns : goal.returns
returns c v =
    ap (λ l. slice_index l v) (c.self.invariant.valences ∙ ap valences_of c.self.view_is)
    ∙ valences_of-all c.args.self.now v (rw c.self.view_is at c.self.invariant.graph)
