use Rattle.std.proofs.Common.{rules, FitsSigned, ◌<◌, List, ℤ, pos, ap, arith, ◌∙◌, inl, w8}
use Rattle.std.specs.List.{slice_index_or}
use Rattle.std.proofs.lemmas.Int.{to_z-of_z}
use Rattle.dg_chips.specs.Vector.{at}
use Rattle.dg_abi.proofs.Kept.{told_byte}
use Rattle.dg_abi.proofs.Small.{reduced_small}
use Rattle.dg_abi.proofs.judging.judge_row.Goals as goal

pub in_64_bits-requires : goal.in_64_bits-requires
in_64_bits-requires c = λ v inside.
    let right = c.judge_with_inverse-verdict.ensures.right in
    let within : v < c.args.graph.now.size = omega (arith, right.reduced_size) in
    reduced_small c.args.graph.now (at c.judge_with_inverse-verdict.result.script) (at c.in-Ok.divisor)
    (at c.judge_with_inverse-verdict.result.reduced) v c.size-size.ensures.graph
    (λ w below. c.size-script.ensures.script.within w (omega (arith, right.script_size))) right.led within
    (c.size-amounts.ensures.divisor.within v (omega (arith, c.in-Ok.ensures.size)))

pub returns-clause-answered : goal.returns-clause-answered
returns-clause-answered c =
    let right = c.judge_with_inverse-verdict.ensures.right in
    inl (record {
      divisor = c.in-Ok.divisor;
      holds = c.in-Ok.ensures;
      verdict = c.judge_with_inverse-verdict.result;
      right = c.judge_with_inverse-verdict.ensures;
      is_told = (let fits : FitsSigned w8 c.from.result = search rules in to_z-of_z w8 c.from.result fits)
          ∙ c.from.ensures ∙ told_byte c.judge_with_inverse-verdict.result.winnable;
      has_script = λ v below here. c.put.ensures.holds (pos 0) v (omega (arith, c.size-size.ensures.size)) here
          ∙ ap (λ (xs : List ℤ). slice_index_or xs v (pos 0)) c.entries.ensures.entries;
      has_reduced = λ v below here. c.put-2.ensures.holds (pos 0) v (omega (arith, c.size-size.ensures.size)) here
          ∙ c.in_64_bits.ensures v (omega (arith, right.reduced_size));
      has_order = λ v below here. c.put-3.ensures.holds 0 v (omega (arith, c.size-size.ensures.size)) here;
    })
