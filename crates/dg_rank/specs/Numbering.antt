-- A way to number the trials, by the first amount: those with 0 there come first, then those with 1
-- or more, which are the trials of one dollar less with one dollar added at the first place.
--   count_with_place c k == with one place more: the sum of c 0, c 1, .. up to c k
--   trial_count n k       == how many trials of degree k there are on n places
--   raised_first E        == the trial E with one dollar more at its first place
--   with_trial_place c nth k i == the trial number i of degree k on one place more, if c and nth
--                            number those without it
--   nth_trial n k i       == the trial number i of degree k on n places
use Rattle.std.specs.Prelude.{if◌then◌else◌, ℕ, zero, suc, ◌+◌, ◌-◌, nat_lt, List, [], ◌∷◌}

unfoldable pub count_with_place : (ℕ → ℕ) → ℕ → ℕ
count_with_place c zero = c zero
count_with_place c (suc k) = c (suc k) + count_with_place c k

unfoldable pub trial_count : ℕ → ℕ → ℕ
trial_count zero zero = 1
trial_count zero (suc k) = 0
trial_count (suc n) k = count_with_place (trial_count n) k

unfoldable pub raised_first : List ℕ → List ℕ
raised_first [] = []
raised_first (a ∷ E) = suc a ∷ E

unfoldable pub with_trial_place : (ℕ → ℕ) → (ℕ → ℕ → List ℕ) → ℕ → ℕ → List ℕ
with_trial_place c nth zero i = 0 ∷ nth zero i
with_trial_place c nth (suc k) i =
    if nat_lt i (c (suc k)) then (0 ∷ nth (suc k) i) else
    (raised_first (with_trial_place c nth k (i - c (suc k))))

unfoldable pub nth_trial : ℕ → ℕ → ℕ → List ℕ
nth_trial zero k i = []
nth_trial (suc n) k i = with_trial_place (trial_count n) (nth_trial n) k i
