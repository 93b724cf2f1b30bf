-- Trials as lists: their sums and their order.
--   sum_cons       the sum of a list, by its first amount
--   no_places      a list with no places is empty
--   trial_cons     an amount put before a trial makes a trial of that much more
--   trial_tail     what follows the first amount of a trial is a trial of that much less
--   before_cons    an order of trials stays with one amount put before both
--   before_both    no two trials are each before the other
use Rattle.dg_rank.proofs.Common.{◌≡◌, ℕ, zero, suc, ◌+◌, ◌<◌, ◌≤◌, List, [], ◌∷◌, length, arith, refl, sym, subst, ⊎_elim, slice_index, sum, cases_lt, sum_by-cons, IsTrial, IsTrialBefore}

pub sum_cons : (a : ℕ) (E : List ℕ) → sum (a ∷ E) ≡ a + sum E
sum_cons a E = sum_by-cons (λ (x : ℕ). x) a E

pub no_places : (E : List ℕ) → length E ≡ 0 → E ≡ []
no_places [] none = refl
no_places (a ∷ E) none = absurd (omega arith)

pub trial_cons : (n k a m : ℕ) (E : List ℕ) → IsTrial n k E → m ≡ a + k → IsTrial (suc n) m (a ∷ E)
trial_cons n k a m E trial whole =
    record { places = omega (arith, trial.places); amount = omega (arith, trial.amount, sum_cons a E) }

pub trial_tail : (n k a m : ℕ) (E : List ℕ) → IsTrial (suc n) m (a ∷ E) → m ≡ a + k → IsTrial n k E
trial_tail n k a m E trial whole =
    record { places = omega (arith, trial.places); amount = omega (arith, trial.amount, sum_cons a E) }

pub before_cons : (a : ℕ) (E F : List ℕ) → IsTrialBefore E F → IsTrialBefore (a ∷ E) (a ∷ F)
before_cons a E F before =
    record { place = suc before.place; same = same_cons before.place before.same; smaller = before.smaller } where
      same_cons : (p : ℕ) → ((u : ℕ) → u < p → slice_index E u ≡ slice_index F u) → (u : ℕ) → u < suc p →
          slice_index (a ∷ E) u ≡ slice_index (a ∷ F) u
      same_cons p same zero low = refl
      same_cons p same (suc u) low = same u (omega arith)

pub before_both : (E F : List ℕ) → IsTrialBefore E F → IsTrialBefore F E → ⊥
before_both E F one other = ⊎_elim
    (λ (low : one.place < other.place). omega (arith, one.smaller, other.same one.place low))
    (λ (high : other.place ≤ one.place). ⊎_elim
    (λ (low : other.place < one.place). omega (arith, other.smaller, one.same other.place low))
    (λ (low : one.place ≤ other.place).
    let here : one.place ≡ other.place = omega arith in
    omega (arith, one.smaller, subst (λ (p : ℕ). slice_index F p < slice_index E p) (sym here) other.smaller))
    (cases_lt other.place one.place))
    (cases_lt one.place other.place)
