use Rattle.dg_rank.proofs.Common.{arith, in_set}
use Rattle.dg_rank.proofs.Leaves.{rows_fold, still_folded, vertices_without}
use Rattle.dg_rank.proofs.Spared.{spared_fold}
use Rattle.dg_rank.proofs.folding.+fold_leaves.Goals as goal

pub fold_leaves-requires : goal.fold_leaves-requires
fold_leaves-requires t c =
    let g = c.args.graph.now in
    let L = in_set c.args.unfolded in
    let L' = in_set c.without_vertex-fewer.result in
    let u = c.in-Some.leaf in
    let leaf = c.in-Some.ensures in (
      omega (arith, c.decreases),
      (
        vertices_without g.size u L L' c.requires.vertices c.without_vertex-fewer.ensures,
        (
          still_folded g L L' u c.in-Some.parent c.size-size.ensures.graph.multigraph c.requires.folded leaf
              c.without_vertex-fewer.ensures,
          (
            spared_fold g L L' u c.in-Some.parent c.args.genus c.saturating_sub-rest.result
                c.size-size.ensures.graph.multigraph (c.requires.vertices u leaf.leaf)
                (c.requires.vertices c.in-Some.parent leaf.parent) leaf c.without_vertex-fewer.ensures
                (omega (arith, c.saturating_sub-rest.ensures, c.edges-edges.ensures, leaf.joined)) c.requires.spared,
            (omega (arith, c.requires.leaves), c.requires.few),
          ),
        ),
      ),
    )

pub returns-in_default-2 : goal.returns-in_default-2
returns-in_default-2 t c =
    let leaf = c.in-Some in
    rows_fold c.args.graph.now (in_set c.args.unfolded) (in_set c.without_vertex-fewer.result) c.args.rows.now
    c.in-Some-join.joined.row c.args.dollars leaf.leaf leaf.parent c.size-size.ensures.graph.multigraph c.requires.vertices
    c.requires.folded leaf.ensures c.without_vertex-fewer.ensures
    (omega (
      arith,
      c.told-rows,
      c.requires.vertices leaf.parent leaf.ensures.parent,
      c.size-size.ensures.graph.few,
    ))
    (rw c.edges-edges.ensures at c.in-Some-join.ensures)
    (rw c.in_default-2.is at c.in_ok-losses.ensures)
