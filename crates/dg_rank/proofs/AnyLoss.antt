-- The search for any loss.
--   rank_from   where all losses that hold nothing before place 0 can be borne, that is a rank
--   no_twins    sets of twins without anybody
--   told_from   what is told of a box with room from a place on is told of the losses that hold nothing before it
use Rattle.dg_rank.proofs.Common.{◌≡◌, ℕ, ◌<◌, ◌≤◌, ⊎_elim, List, arith, cases_lt, both_ways, ints, ◌≤ℤ◌, slice_index, get_or-replicate, replicate, Option, Some, None, MatchOption, IsBoxLoss, IsLossFrom, in_set-none, Multigraph, Amounts, degree, HasRankAtLeast, sum_below-one, TrialsWinFrom, BoxWins}
use Rattle.dg_rank.specs.Boxes.{HaveOnlyTwins}

pub rank_from : (g : Multigraph) (A : Amounts) (k : ℕ) → TrialsWinFrom g A k 0 → HasRankAtLeast g A k
rank_from g A k wins E effective of_degree = wins E (record {
  effective = effective;
  of_degree = of_degree;
  empty = λ v low. absurd (omega arith);
})

pub no_twins : (g : Multigraph) → g.size ≤ 16 → HaveOnlyTwins g (replicate 16 0)
no_twins g few v u below member =
    let none : slice_index (replicate 16 0) v ≡ 0 = get_or-replicate 16 v 0 0 (omega arith) in
    absurd (both_ways _ (in_set-none u) (rw none at member))

pub told_from : (found : Option (List ℕ)) (g : Multigraph) (A : Amounts) (d : ℕ) (room : List ℕ) (r : ℕ) → d < g.size →
    ((v : ℕ) → v < d → slice_index room v ≡ 0) → ((v : ℕ) → d ≤ v → v < g.size → slice_index room v ≡ r) →
    MatchOption found (BoxWins g A room r) (IsBoxLoss g A room r)
    → MatchOption found (TrialsWinFrom g A r d) (IsLossFrom g A r d)
told_from None g A d room r inside before past wins = λ F from. wins F (record {
  effective = from.effective;
  few = omega (arith, ints, from.of_degree);
  within = λ v below. ⊎_elim
      (λ (low : v < d). omega (arith, ints, from.empty v low))
      (λ (high : d ≤ v).
      let most : F v ≤ℤ degree g.size F = sum_below-one g.size v F below (λ w low _. from.effective w low) in
      omega (arith, ints, from.of_degree, past v high below))
      (cases_lt v d);
})
told_from (Some E) g A d room r inside before past loss = record {
  places = loss.places;
  few = loss.inside.few;
  empty = λ v low. omega (arith, ints, before v low, loss.inside.within v (omega arith));
  loses = loss.loses;
}
