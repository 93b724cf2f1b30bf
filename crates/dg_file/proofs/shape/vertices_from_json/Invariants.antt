use Rattle.dg_file.proofs.Common.{◌≡◌, ℕ, List, map, drop, Bor, as_str, items_view}
use Rattle.dg_file.specs.Content.{each}
use Rattle.dg_file.proofs.Listing.{after}
use Rattle.dg_file.proofs.shape.vertices_from_json.Given as goal

abbrev pub invariant-loop-vertex : goal.invariant-loop-vertex
invariant-loop-vertex l =
    each as_str (items_view l.vertex-items)
    ≡ after (map (λ (text : Bor (List ℕ)). text.now) l.vertices.items)
    (each as_str (items_view (drop l.vertex-index l.vertex-items)))
