-- Each turn writes the vertex's pair, and its space, before those of the vertices after it.
use Rattle.dg_lines.proofs.Common.{◌≡◌, ◌++◌, ◌+◌, ◌-◌, ◌<◌, ℕ, length, sym, ap, ◌∙◌, List, arith, rules, at}
use Rattle.dg_lines.proofs.Pairs.{pairs_last, pairs_before, pairs_whole}
use Rattle.dg_lines.proofs.text.push_pairs.Goals as goal

pub loop-v-init : goal.loop-v-init
loop-v-init g c = record {
  inside = omega arith;
  room = omega (arith, c.len-v.ensures.few);
  written = sym (pairs_last c.args.names.now (at (g.N.Amounts.numbers c.args.amounts.now)) c.len-v.result
      (omega (arith, c.len-v.ensures.len)));
}

pub loop-v-preserved : goal.loop-v-preserved
loop-v-preserved g c =
    let known = c.loop-v.invariant in
    let next : c.loop-v.v ≡ c.loop-v.v - 1 + 1 = omega (arith, c.loop-v-test.true) in
    let here : c.loop-v.v - 1 < length c.args.names.now =
    omega (arith, c.loop-v-test.true, c.loop-v.auto.v, c.len-v.ensures.len) in
    record {
      inside = omega (arith, known.inside, c.write_amount-start.ensures.start, c.write_label-start.ensures.start);
      room = omega (
        arith,
        known.room,
        c.loop-v-test.true,
        c.write_amount-start.ensures.short,
        c.write_label-start.ensures.short,
      );
      written = pairs_before _ _ _ c.args.names.now (at (g.N.Amounts.numbers c.args.amounts.now))
          (c.loop-v.v - 1) c.loop-v.v next here
          known.written c.write_amount-start.ensures.written c.write_label-start.ensures.written;
    }

pub returns : goal.returns
returns g c =
    c.in_ok-extend_from_slice.ensures.items
    ∙ ap (λ (written : List ℕ). c.args.text.now.items ++ written)
    (pairs_whole c.loop-v.line c.args.names.now
    (at (g.N.Amounts.numbers c.args.amounts.now)) c.loop-v.start c.loop-v.v 928 c.min.result
    (omega (arith, c.loop-v-test.false)) (search rules) c.min.ensures c.loop-v.invariant.written)
