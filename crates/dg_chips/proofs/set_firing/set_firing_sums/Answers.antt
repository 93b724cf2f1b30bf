use Rattle.dg_chips.proofs.Common.{◌≡◌, ◌∙◌, true, sym, arith, in_set}
use Rattle.dg_chips.proofs.SetLending.{into_first-in}
use Rattle.dg_chips.proofs.set_firing.set_firing_sums.Goals as goal

pub add_row-got-requires : goal.add_row-got-requires
add_row-got-requires c = λ w below.
    let member : in_set c.args.set c.loop-v.v ≡ true = sym c.contains.ensures ∙ c.if-contains.true in
    omega (
      arith,
      c.loop-v.invariant.got w below,
      c.row.ensures w,
      (into_first-in c.args.graph.now (in_set c.args.set) w c.loop-v.v c.size-v-end.ensures.graph (omega arith) member).0,
    )
