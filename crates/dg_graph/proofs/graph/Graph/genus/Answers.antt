use Rattle.dg_graph.proofs.Common.{◌≡◌, ◌+◌, ◌/◌, arith, ap, ◌∙◌, ints, nat_sum_below, Multigraph, valence}
use Rattle.dg_theory.proofs.TotalLaws.{nat_sum_below-cong}
use Rattle.dg_theory.proofs.OrderDegrees.{valence_total}
use Rattle.dg_theory.specs.Multigraph.{edge_count}
use Rattle.dg_graph.proofs.Genus.{genus_fits}
use Rattle.dg_graph.proofs.graph.Graph.genus.Goals as goal

pub returns : goal.returns
returns c =
    let g = c.args.self.now in
    let ends : c.row_sum-ends.result ≡ edge_count g + edge_count g =
    c.row_sum-ends.ensures.sum
    ∙ nat_sum_below-cong c.size.result _ (valence g) (λ v _. c.valences.ensures v)
    ∙ ap (λ n. nat_sum_below n (valence g)) c.size.ensures.size
    ∙ valence_total g c.size.ensures.graph.multigraph in
    let half : c.row_sum-ends.result / 2 ≡ edge_count g = omega arith in
    let size : c.self.inside.size ≡ g.size = ap (λ (h : Multigraph). h.size) c.self.view_is in
    let few = c.size.ensures.graph.few in
    omega (arith, ints, genus_fits (c.row_sum-ends.result / 2) c.self.inside.size (omega arith) (omega arith))
