use Rattle.dg_rank.proofs.Common.{◌≡◌, ℕ, ◌<◌, inl, inr, ⊎_elim, Option, List, subst, ◌∙◌, arith, ints, equivalent-refl, Vector, at, Multigraph, MatchOption, TrialsWinFrom, IsFirstLossFrom, HasTrials, Search}
use Rattle.dg_rank.specs.Pieces.{piece_start, TellsFirstLoss}
use Rattle.dg_rank.proofs.FirstLosses.{found_trial}
use Rattle.dg_rank.proofs.PieceLosses.{piece_first, of_all}
use Rattle.dg_rank.proofs.workers.rank_with.Given.{Over}
use Rattle.dg_rank.proofs.workers.rank_with.Goals as goal
use Rattle.dg_rank.proofs.workers.rank_with.Goals.{In-None}

pub first_loss_among-requires-clause-search : goal.first_loss_among-requires-clause-search
first_loss_among-requires-clause-search g c κs within = record {
  size = c.of.ensures.size ∙ c.requires.size;
  range = λ v inside.
      let below : v < c.args.divisor.now.size = omega (arith, c.requires.size) in
      omega (arith, ints, c.of.ensures.amounts v below, c.size-amounts.ensures.divisor.within v below);
  limits = ⊎_elim (λ (none : c.trials_to_make.result ≡ 0). inl none)
      (λ (all : c.trials_to_make.result ≡ c.in-Some.count). inr (rw all (rw c.size-size.ensures.size at c.in-Some.ensures)))
      c.trials_to_make.ensures.some;
}

abbrev search : Multigraph → Vector → ℕ → ℕ → ℕ → Search
search g x k count w = record { graph = g; chips = x; k = k; count = count; workers = w }

-- the first piece starts with the first trial
found : (g : Multigraph) (x : Vector) (k count w : ℕ) (loss : Option (List ℕ)) → HasTrials g.size k count →
    TellsFirstLoss (search g x k count w) (piece_start (search g x k count w) 0) count loss →
    MatchOption loss (TrialsWinFrom g (at x) k 0) (IsFirstLossFrom g (at x) k 0)
found g x k count w loss limits told =
    of_all g (at x) k count loss limits
    (subst (λ (m : ℕ). TellsFirstLoss (search g x k count w) m count loss) (piece_first (search g x k count w)) told)

told : (g : Over) (c : In-None g) → HasTrials c.args.graph.now.size c.args.k c.trials_to_make.result ×
    MatchOption c.in-Ok.loss (TrialsWinFrom c.args.graph.now (at c.of.result) c.args.k 0)
    (IsFirstLossFrom c.args.graph.now (at c.of.result) c.args.k 0)
told g c =
    let all : c.trials_to_make.result ≡ c.in-Some.count = rw c.in-None.is at c.trials_to_make.ensures.all in
    let limits : HasTrials c.args.graph.now.size c.args.k c.trials_to_make.result =
    rw all (rw c.size-size.ensures.size at c.in-Some.ensures) in (
      limits,
      found c.args.graph.now c.of.result c.args.k c.trials_to_make.result c.args.workers c.in-Ok.loss limits c.in-Ok.ensures,
    )

pub verdict_of_loss-requires : goal.verdict_of_loss-requires
verdict_of_loss-requires g c =
    let (limits, found) = told g (goal.at.verdict_of_loss-requires g c).In-None in
    found_trial c.args.graph.now (at c.of.result) c.args.k c.in-Ok.loss limits.small found

pub returns-in-None : goal.returns-in-None
returns-in-None g c = (
  (c.in-Some.count, rw c.size-size.ensures.size at c.in-Some.ensures),
  (omega arith, c.if-workers-gt-MAX_WORKERS.false),
  c.verdict_of_loss.ensures c.args.graph.now (at c.args.divisor.now) (at c.of.result)
      (equivalent-refl c.args.graph.now (at c.args.divisor.now) (at c.of.result)
      (λ v inside. omega (arith, ints, c.of.ensures.amounts v (omega (arith, c.requires.size)))))
      (told g (goal.at.returns-in-None g c).In-None).1,
)
