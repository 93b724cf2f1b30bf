use Rattle.dg_file.proofs.Common.{◌≡◌, drop, items_view, whole}
use Rattle.dg_file.specs.Content.{each}
use Rattle.dg_file.proofs.Listing.{after}
use Rattle.dg_file.proofs.shape.amounts_from_json.Given as goal

abbrev pub invariant-loop-item : goal.invariant-loop-item
invariant-loop-item l =
    each whole (items_view l.item-items)
    ≡ after l.amounts.items
    (each whole (items_view (drop l.item-index l.item-items)))
