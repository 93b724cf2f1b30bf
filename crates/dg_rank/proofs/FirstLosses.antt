-- The first loss as a divisor.
--   found_trial      what was found among all trials, if it is one, has at most 1,000 dollars
--   found_loss       the first of all trials to lose is the first loss
--   poor_loses       where there are fewer dollars than a trial has, it loses
use Rattle.dg_rank.proofs.Common.{◌≡◌, ℕ, ◌<◌, ◌≤◌, List, length, arith, subst, ◌∙◌, sum, Option, Some, None, ⊤, MatchOption, ints, ◌≤ℤ◌, ◌<ℤ◌, pos, Multigraph, IsMultigraph, Amounts, degree, minus, IsFirstLoss, sum_below-cong, win_more, degree-less, degree-winnable, Vector, at, amounts_of_trial, HoldsTrial, WinsWithout, IsTrialFrom, TrialsWinFrom, IsFirstLossFrom}
use Rattle.dg_rank.proofs.Starts.{trial_from}

pub found_trial : (g : Multigraph) (D : Amounts) (k : ℕ) (found : Option (List ℕ)) → k ≤ 1000 →
    MatchOption found (TrialsWinFrom g D k 0) (IsFirstLossFrom g D k 0) → MatchOption found ⊤ (λ (E : List ℕ). sum E ≤ 1000)
found_trial g D k (Some E) few loss = omega (arith, (trial_from g.size k 0 E loss.places loss.from).amount)
found_trial g D k None few wins = tt

pub found_loss : (g : Multigraph) (D : Amounts) (k : ℕ) (E : List ℕ) (d : Vector) → IsFirstLossFrom g D k 0 E →
    HoldsTrial (length E) E d → (d.size ≡ g.size) × IsFirstLoss g D k (at d)
found_loss g D k E d loss holds =
    let held : HoldsTrial g.size E d = subst (λ (n : ℕ). HoldsTrial n E d) loss.places holds in (
      held.size,
      record {
        effective = λ v inside. omega (arith, ints, held.amounts v inside);
        of_degree = sum_below-cong g.size (at d) (amounts_of_trial E) held.amounts ∙ loss.from.of_degree;
        loses = λ win. loss.loses (win_more g (minus D (at d)) (minus D (amounts_of_trial E))
            (λ v inside. omega (arith, ints, held.amounts v inside)) win);
        first = λ F effective of_degree before. loss.first F
            (record { effective = effective; of_degree = of_degree; empty = λ v low. absurd (omega arith) })
            (record {
              place = before.place;
              inside = before.inside;
              same = λ u low.
                  let inner : u < g.size = omega (arith, before.inside) in
                  before.same u low ∙ held.amounts u inner;
              smaller = omega (arith, ints, before.smaller, held.amounts before.place before.inside);
            });
      },
    )

pub poor_loses : (g : Multigraph) (D : Amounts) (k : ℕ) (E : List ℕ) → IsMultigraph g → degree g.size D <ℤ pos k →
    IsTrialFrom g.size k 0 (amounts_of_trial E) → ¬ WinsWithout g D E
poor_loses g D k E graph poor from win =
    let high : pos 0 ≤ℤ degree g.size (minus D (amounts_of_trial E)) =
    degree-winnable g (minus D (amounts_of_trial E)) graph win in
    omega (arith, ints, degree-less g.size D (amounts_of_trial E), from.of_degree)
