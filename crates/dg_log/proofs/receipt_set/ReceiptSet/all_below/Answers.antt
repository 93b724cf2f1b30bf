use Rattle.dg_log.proofs.Common.{◌≡◌, length, arith, sym, nat_tests, entries_of}
use Rattle.dg_log.proofs.ReceiptSets.{below_up, named_below}
use Rattle.dg_log.proofs.receipt_set.ReceiptSet.all_below.Goals as goal

-- src/receipt_set.rt:55:5
pub returns-clause-below : goal.returns-clause-below
returns-clause-below g c =
    let items = c.self.inside.witnesses.items in
    let view : entries_of items ≡ c.args.self.now = c.self.view_is in
    let is_end = c.self.invariant.1 in rw (sym view) (
      (λ yes. below_up c.self.inside.end c.args.count (entries_of items)
          (grind (arith, nat_tests, yes, c.from.ensures)) is_end.0),
      (λ below. grind (arith, nat_tests, is_end.1 c.args.count below, c.from.ensures)),
    )

-- src/receipt_set.rt:55:5
pub returns-clause-cells : goal.returns-clause-cells
returns-clause-cells g c =
    let items = c.self.inside.witnesses.items in
    let named = named_below g.N.Name.names.cells items c.self.invariant.0 in
    let least = c.self.invariant.1.1 (length g.N.Name.names.cells) named in
    λ enough. grind (arith, nat_tests, least, enough, c.from.ensures)
