-- Each turn writes the vertex's number, and a space, before those of the vertices after it.
use Rattle.dg_lines.proofs.Common.{◌≡◌, ◌++◌, ◌+◌, ◌-◌, ◌<◌, ◌≤◌, ℕ, sym, ap, ◌∙◌, List, arith, rules, drop-set, at}
use Rattle.dg_lines.proofs.Rows.{columns_before, columns_none, columns_whole}
use Rattle.dg_lines.proofs.columns.push_columns.Goals as goal

pub loop-v-init : goal.loop-v-init
loop-v-init g c = record {
  inside = omega arith;
  room = omega (arith, c.size-v.ensures.few);
  written = sym (columns_none (at (g.N.Amounts.numbers c.args.amounts.now)) c.size-v.result _
      (omega (arith, c.size-v.ensures.size)));
}

pub loop-v-preserved : goal.loop-v-preserved
loop-v-preserved g c =
    let known = c.loop-v.invariant in
    let next : c.loop-v.v ≡ c.loop-v.v - 1 + 1 = omega (arith, c.loop-v-test.true) in
    let here : c.loop-v.v - 1 < (g.N.Amounts.numbers c.args.amounts.now).size =
    omega (arith, c.loop-v-test.true, c.loop-v.auto.v, c.size-v.ensures.size) in
    let room : 1 ≤ c.write_amount-start.result =
    omega (arith, known.room, c.loop-v-test.true, c.write_amount-start.ensures.short) in
    let back : c.write_amount-start.result - 1 + 1 ≡ c.write_amount-start.result = omega (arith, room) in
    record {
      inside = omega (arith, known.inside, c.write_amount-start.ensures.start);
      room = omega (arith, known.room, c.loop-v-test.true, c.write_amount-start.ensures.short);
      written = columns_before _ _ _ (at (g.N.Amounts.numbers c.args.amounts.now))
          (c.loop-v.v - 1) c.loop-v.v _ next here known.written c.write_amount-start.ensures.written
          (rw (drop-set c.write_amount-start.new.line (c.write_amount-start.result - 1) _ (omega (arith, room)), back));
    }

pub returns : goal.returns
returns g c =
    c.in_ok-extend_from_slice.ensures.items
    ∙ ap (λ (written : List ℕ). c.args.text.now.items ++ written)
    (columns_whole c.loop-v.line (at (g.N.Amounts.numbers c.args.amounts.now)) c.loop-v.start c.loop-v.v 656
    (g.N.Amounts.numbers c.args.amounts.now).size (omega (arith, c.loop-v-test.false)) (search rules)
    c.loop-v.invariant.written)
