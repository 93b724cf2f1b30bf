use Rattle.dg_log.proofs.Common.{◌≡◌, ℕ, ◌+◌, [], ◌∷◌, ◌++◌, Some, slice_get, rules, ap, ◌∙◌, sym, Entry, entries_of}
use Rattle.dg_log.proofs.ReceiptSets.{said_more, named_more, end_more, end_same}
use Rattle.dg_log.proofs.receipt_set.ReceiptSet.with.Goals as goal
use Rattle.dg_log.proofs.receipt_set.ReceiptSet.with.Goals.{then-prefix-self, else-prefix-self}

-- src/receipt_set.rt:43:5
pub invariant_of-result : goal.invariant_of-result
invariant_of-result g c =
    let items = c.self.inside.witnesses.items in
    let r = c.receipt.inside in
    let x : ℕ × ℕ × Entry = (c.number-2.result, r.witness.cell, r.witness.value) in
    let longer : c.with.result.items ≡ items ++ x ∷ [] = c.with.ensures in
    let named : slice_get g.N.Name.names.cells x.0 ≡ Some x.1 =
    ap (slice_get g.N.Name.names.cells) (c.number-2.ensures.number ∙ ap (λ p. p.0) (sym c.receipt.view_is))
    ∙ c.receipt.invariant in
    let said : entries_of (items ++ x ∷ []) ≡ entries_of items ++ (x.0, x.2) ∷ [] = said_more items x in
    let prefix : c.from-prefix.result + 1 ≡ c.number-2.result + 1 = search rules in
    rw longer (
      named_more g.N.Name.names.cells items x c.self.invariant.0 named,
      elim c.if-prefix-self.branch [
        | then-prefix-self w ↦ rw (said, w.result-is)
            (end_more c.self.inside.end (c.from-prefix.result + 1) (entries_of items)
            (x.0, x.2) c.self.invariant.1 prefix w.if-prefix-self.true)
        | else-prefix-self w ↦ rw (said, w.result-is)
            (end_same c.self.inside.end (c.from-prefix.result + 1) (entries_of items)
            (x.0, x.2) c.self.invariant.1 prefix w.if-prefix-self.false)
      ],
    )
