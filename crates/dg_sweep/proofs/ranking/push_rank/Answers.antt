use Rattle.dg_sweep.proofs.Common.{inl, inr, refl, on_ok_weaker, AtLeast}
use Rattle.dg_sweep.proofs.ranking.push_rank.Goals as goal

pub returns-in-Ok : goal.returns-in-Ok
returns-in-Ok c =
    let told = c.in-Ok.ensures in
    on_ok_weaker _ (λ printed. inl (record {
      verdict = c.in-Ok.verdict;
      right = told.1;
      named = inl told.0;
      printed = printed;
    })) c.push_rank_test.ensures

pub returns-then-has_rank_at_least : goal.returns-then-has_rank_at_least
returns-then-has_rank_at_least c =
    on_ok_weaker _ (λ printed. inl (record {
      verdict = AtLeast c.args.k;
      right = (refl, c.if-has_rank_at_least.ensures);
      named = inr refl;
      printed = printed;
    })) c.push_rank_test-then-has_rank_at_least.ensures

pub returns : goal.returns
returns c =
    on_ok_weaker _ (λ printed. inr (record {
      past = c.in_default.ensures.1;
      below = c.if-has_rank_at_least.ensures;
      printed = printed;
    })) (rw (c.len.ensures.len, c.requires.names) at c.push_below.ensures)
