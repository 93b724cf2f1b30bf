use Rattle.std.proofs.Common.{rules, pos, arith, refl, ◌∙◌, inl, get_or-set_same}
use Rattle.dg_abi.proofs.ranking.rank_row.Goals as goal

pub returns-then-row-duals-clause-answered : goal.returns-then-row-duals-clause-answered
returns-then-row-duals-clause-answered c = inl (record {
  divisor = c.in-Ok.divisor;
  holds = c.in-Ok.ensures;
  is_told = refl;
  both = c.both_ranks-both.result;
  right = c.both_ranks-both.ensures;
  has_rank = get_or-set_same c.args.ranks.now c.args.row _ (pos 0) c.requires.ranks ∙ search rules;
  has_dual = λ here. get_or-set_same c.args.duals.now c.args.row _ (pos 0) c.if-row-duals.true ∙ search rules;
})

pub returns-else-row-duals-clause-answered : goal.returns-else-row-duals-clause-answered
returns-else-row-duals-clause-answered c = inl (record {
  divisor = c.in-Ok.divisor;
  holds = c.in-Ok.ensures;
  is_told = refl;
  both = c.both_ranks-both.result;
  right = c.both_ranks-both.ensures;
  has_rank = get_or-set_same c.args.ranks.now c.args.row _ (pos 0) c.requires.ranks ∙ search rules;
  has_dual = λ here. absurd (omega (arith, c.if-row-duals.false));
})
