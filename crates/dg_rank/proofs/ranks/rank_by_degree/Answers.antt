use Rattle.dg_rank.proofs.Common.{◌≡◌, ℕ, ◌+◌, ◌-◌, ◌<◌, ◌∙◌, arith, refl, ◌≤ℤ◌, ints, pos, ◌-ℤ◌, slice_index, genus, degree, rich_rank, at, amounts_of_trial, IsTrialFrom}
use Rattle.std.proofs.Math.IntN.{◌+ℤ◌}
use Rattle.dg_rank.proofs.FirstFrom.{at_last, first_at_last}
use Rattle.dg_rank.proofs.FirstLosses.{found_loss, poor_loses}
use Rattle.dg_rank.proofs.Starts.{trial_from}
use Rattle.dg_rank.proofs.ranks.rank_by_degree.Goals as goal
use Rattle.dg_rank.proofs.ranks.rank_by_degree.Goals.{After-all_at_last}

pub returns-then-rest-from : goal.returns-then-rest-from
returns-then-rest-from c =
    let (count, within) = c.requires.limits in
    let rest : c.remaining_degree-rest.result ≡ degree c.args.graph.now.size (at c.args.divisor.now) -ℤ pos c.args.k =
    rw c.requires.size at c.remaining_degree-rest.ensures in
    let rich : (genus c.args.graph.now +ℤ pos c.args.k) ≤ℤ degree c.args.graph.now.size (at c.args.divisor.now) =
    omega (arith, ints) in (
      refl,
      rich_rank c.args.graph.now
          (at c.args.divisor.now) c.args.k c.size-size.ensures.graph.multigraph within.some rich,
    )

held : (c : After-all_at_last) → slice_index c.all_at_last.result (c.args.graph.now.size - 1) ≡ c.args.k
held c = rw c.size-size.ensures.size at c.all_at_last.ensures.held

empty : (c : After-all_at_last) → (u : ℕ) → u + 1 < c.args.graph.now.size → slice_index c.all_at_last.result u ≡ 0
empty c = rw c.size-size.ensures.size at c.all_at_last.ensures.empty

first : (c : After-all_at_last) → IsTrialFrom c.args.graph.now.size c.args.k 0 (amounts_of_trial c.all_at_last.result)
first c =
    at_last c.args.graph.now.size c.args.k 0 c.all_at_last.result c.size-size.ensures.graph.some (held c) (empty c)

pub to_divisor-first-requires : goal.to_divisor-first-requires
to_divisor-first-requires c =
    let (count, within) = c.requires.limits in
    omega (
      arith,
      (trial_from c.args.graph.now.size c.args.k 0 c.all_at_last.result
          (c.all_at_last.ensures.places ∙ c.size-size.ensures.size)
          (first (goal.at.to_divisor-first-requires c).After-all_at_last)).amount,
      within.small,
    )

pub returns-then-rest-lt0 : goal.returns-then-rest-lt0
returns-then-rest-lt0 c =
    let g = c.args.graph.now in
    let D = at c.args.divisor.now in
    let S = c.all_at_last.result in
    let d = (goal.at.returns-then-rest-lt0 c).After-all_at_last in
    let rest : c.remaining_degree-rest.result ≡ degree g.size D -ℤ pos c.args.k =
    rw c.requires.size at c.remaining_degree-rest.ensures in
    let (size, found) = found_loss g D c.args.k S c.to_divisor-first.result
    (first_at_last g D c.args.k 0 S c.size-size.ensures.graph.some (c.all_at_last.ensures.places ∙ c.size-size.ensures.size)
    (held d) (empty d) (poor_loses g D c.args.k S c.size-size.ensures.graph.multigraph (omega (arith, ints)) (first d)))
    c.to_divisor-first.ensures in
    (refl, size, found)
