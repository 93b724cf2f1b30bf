use Rattle.dg_rank.proofs.Common.{ℕ, ◌≤◌, ◌≤ℤ◌, arith, ints, pos, refl, at, HasRankAtLeast}
use Rattle.dg_rank.proofs.LeastLosses.{cast, loss_counted, least_fails}
use Rattle.dg_rank.proofs.TrialLists.{degree-trial}
use Rattle.dg_rank.proofs.numbers.+least_loss.Goals as goal
use Rattle.dg_rank.proofs.numbers.+least_loss.Goals.{After-degree-dollars}

pub to_divisor-requires : goal.to_divisor-requires
to_divisor-requires t c =
    let loss = c.in_ok-loss.ensures.told in
    omega (
      arith,
      ints,
      loss.few,
      degree-trial c.args.graph.now.size _ c.in_ok-loss.loss (record { places = loss.places; amount = refl }),
      c.requires.few,
    )

counted : (t : ℕ) (c : After-degree-dollars t) →
    (pos 0 ≤ℤ c.degree-dollars.result) × (c.degree-dollars.result ≤ℤ pos c.args.most) × (1 ≤ cast c.degree-dollars.result) ×
    (cast c.degree-dollars.result ≤ c.args.most) ×
    (¬ HasRankAtLeast c.args.graph.now (at c.args.left.now) (cast c.degree-dollars.result))
counted t c =
    loss_counted c.args.graph.now (at c.args.left.now) c.args.most c.in_ok-loss.loss c.to_divisor.result c.degree-dollars.result
    c.requires.few c.requires.effective c.in_ok-loss.ensures.told c.to_divisor.ensures c.degree-dollars.ensures

pub overflow_cast-dollars : goal.overflow_cast-dollars
overflow_cast-dollars t c =
    let (low, high, _, _, _) = counted t c in
    (omega (arith, ints, low, high, c.requires.few), omega (arith, ints, low, high, c.requires.few))

pub overflow_sub-dollars : goal.overflow_sub-dollars
overflow_sub-dollars t c = (counted t (goal.at.overflow_sub-dollars t c).After-degree-dollars).2

pub least_loss-requires : goal.least_loss-requires
least_loss-requires t c =
    let (_, _, some, few, _) = counted t (goal.at.least_loss-requires t c).After-degree-dollars in (
      omega (arith, some, few),
      (
        c.requires.some,
        (
          c.requires.size,
          (
            c.requires.effective,
            (c.requires.small, omega (arith, few, c.requires.few)),
          ),
        ),
      ),
    )

pub returns-in-Some : goal.returns-in-Some
returns-in-Some t c =
    let (_, _, some, few, _) = counted t (goal.at.returns-in-Some t c).After-degree-dollars in
    let least = c.in-Some.ensures in
    (omega (arith, some, few, least.0), least.1)

pub returns-in-None : goal.returns-in-None
returns-in-None t c =
    let (_, _, _, few, fails) = counted t (goal.at.returns-in-None t c).After-degree-dollars in
    (few, least_fails c.args.graph.now (at c.args.left.now) _ c.in-None.ensures fails)
