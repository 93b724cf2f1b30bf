-- A verdict is right for each of two divisors that agree on the vertices, or for neither.
--   right-cong  what is right for one is right for the other
use Rattle.dg_verdict.proofs.Common.{ℕ, ◌∙◌, Multigraph, Amounts, DivisorsAgreeOn, agree-sym, fired-here, winnable-cong, at, IsRightVerdict, Verdict}

pub right-cong : (g : Multigraph) (q : ℕ) (D E : Amounts) (x : Verdict) → DivisorsAgreeOn g.size D E → IsRightVerdict g q D x →
    IsRightVerdict g q E x
right-cong g q D E x same right = record {
  script_size = right.script_size;
  reduced_size = right.reduced_size;
  at_q = right.at_q;
  led = λ v below. right.led v below ∙ fired-here g D E (at x.script) same v below;
  reduced = right.reduced;
  order = right.order;
  winnable = (
    λ yes. winnable-cong g D E same (right.winnable.0 yes),
    λ win. right.winnable.1 (winnable-cong g E D (agree-sym g.size D E same) win),
  );
}
