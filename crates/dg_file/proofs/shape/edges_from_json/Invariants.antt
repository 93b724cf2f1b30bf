use Rattle.dg_file.proofs.Common.{◌≡◌, ℕ, ◌<◌, Some, drop, IsSome, Data, get_item, items_view, edge_in_json}
use Rattle.dg_file.specs.Content.{each}
use Rattle.dg_file.proofs.Listing.{after}
use Rattle.dg_file.proofs.shape.edges_from_json.Given as goal

abbrev pub invariant-loop-i : goal.invariant-loop-i
invariant-loop-i l = record {
  read : each edge_in_json (items_view l.items) ≡ after l.edges.items (each edge_in_json (items_view (drop l.i l.items)));
  before : (k : ℕ) → k < l.i → (d : Data) → get_item k (items_view l.items) ≡ Some d → IsSome (edge_in_json d);
}
