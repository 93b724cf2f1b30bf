use Rattle.dg_log.proofs.Common.{◌≡◌, ◌+◌, ◌<◌, [], ◌∷◌, ◌++◌, length, map, ℕ, Some, slice_get, arith, ap, sym, ◌∙◌, subst, length-append, slice_get_within, Entry, Written, cell_name, length-map}
use Rattle.dg_log.proofs.ReceiptSets.{cells_more}
use Rattle.dg_log.proofs.Cells.{cell_named}
use Rattle.dg_log.proofs.pen.Pen.put.Goals as goal

-- src/pen.rt:60:5
pub invariant_of-self : goal.invariant_of-self
invariant_of-self g c =
    let items = c.self.inside.witnesses.items in
    let k = c.of-witness.result in
    let x : ℕ × ℕ × Entry = (c.self.inside.len, k.cell, k.value) in
    let longer : c.with-self-inside.result.items ≡ items ++ x ∷ [] = c.with-self-inside.ensures in
    let count : length (items ++ x ∷ []) ≡ length items + 1 = length-append items (x ∷ []) in
    let cell = c.index-cell.result.now in
    let len : c.self.inside.len ≡ length items = c.self.invariant.0 in
    let capacity : length g.N.Name.names.cells ≡ g.N.Name.table.capacity =
    c.args.log.now.capacity in
    let room : length (map (λ y. y.2) items) < g.N.Name.table.capacity =
    subst (λ (w : Written). length w.entries < g.N.Name.table.capacity) (sym c.self.view_is) c.requires in
    let below : c.self.inside.len < length g.N.Name.names.cells =
    omega (arith, len, room, capacity, length-map items (λ (y : ℕ × ℕ × Entry). y.2)) in
    let same : cell_name cell ≡ k.cell = sym (c.of-witness.ensures.1 ∙ c.set_as.ensures.cell ∙ c.note-note.ensures.0) in
    let named = cell_named c.args.log.now.cells.items g.N.Name.names.cells c.self.inside.len cell c.args.log.now.named below
    c.index-cell.ensures in
    let next : slice_get g.N.Name.names.cells (length items) ≡ Some x.1 =
    ap (slice_get g.N.Name.names.cells) (sym len) ∙ named ∙ ap Some same in
    rw longer (
      omega (arith, count, c.self.invariant.0),
      (omega (arith, capacity, c.self.invariant.0, slice_get_within g.N.Name.names.cells (length items) x.1 next)),
      c.self.invariant.2,
      cells_more g.N.Name.names.cells items x c.self.invariant.3 next,
    )
