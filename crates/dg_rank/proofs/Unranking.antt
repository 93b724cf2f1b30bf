-- The trial with a number, place by place.
--   more_by a E             == the trial E with a more at its first place
--   IsSought n k i a rest   == the trial number i of degree k on n + 1 places is that with the number rest of a less,
--                              with a more at its first place
--   IsLast n k i rest       == the trial number i of degree k on n + 1 places holds all k at its first place, and has
--                              the number rest on the others
--   nth_low, nth_high, nth_broke   the trial with a number, where its first amount is 0, where it is more, and where
--                                  there is
--                              no dollar
--   count_broke             without a dollar one place more makes no more trials
--   sought_first            each trial is sought from its own number, with nothing more at its first place
--   sought_more             a trial is sought with one more, where its number is not below that of those that hold no
--                           more
--   sought_here             where the number is below that, the first amount is found
--   sought_last             a trial that is sought until nothing is left holds all at its first place
--   one_amount              on one place there is but one trial
--   last_amount             what is left goes to the last place
use Rattle.dg_rank.proofs.Common.{◌≡◌, ℕ, suc, ◌+◌, ◌-◌, ◌<◌, ◌≤◌, List, [], ◌∷◌, ◌++◌, length, take, set, arith, refl, sym, ap, subst, ◌∙◌, length-set, take_more_set, take_all, cond_below, cond_above, IsTrial}
use Rattle.dg_rank.specs.Numbering.{count_with_place, trial_count, raised_first, with_trial_place, nth_trial}
use Rattle.dg_rank.proofs.Lists.{no_places}
use Rattle.dg_rank.proofs.Numbering.{numbered}
use Rattle.dg_rank.proofs.Pascal.{count_more}

abbrev pub more_by : ℕ → List ℕ → List ℕ
more_by a [] = []
more_by a (x ∷ E) = (a + x) ∷ E

pub record IsSought (n k i a rest : ℕ) : Type 0 where
  pub trial : nth_trial (suc n) k i ≡ more_by a (nth_trial (suc n) (k - a) rest)
  pub number : rest < trial_count (suc n) (k - a)
  pub limit : rest ≤ i

more_none : (E : List ℕ) → E ≡ more_by 0 E
more_none [] = refl
more_none (x ∷ E) = ap (λ (y : ℕ). y ∷ E) (omega arith)

more_raised : (a : ℕ) (E : List ℕ) → more_by a (raised_first E) ≡ more_by (a + 1) E
unfolding raised_first
more_raised a [] = refl
more_raised a (x ∷ E) = ap (λ (y : ℕ). y ∷ E) (omega arith)

pub nth_low : (n k i : ℕ) → i < trial_count n (suc k) → nth_trial (suc n) (suc k) i ≡ 0 ∷ nth_trial n (suc k) i
unfolding nth_trial with_trial_place
nth_low n k i low = sym (cond_below i (trial_count n (suc k)) (0 ∷ nth_trial n (suc k) i) _ low)

pub nth_high : (n k i : ℕ) → trial_count n (suc k) ≤ i →
    nth_trial (suc n) (suc k) i ≡ raised_first (nth_trial (suc n) k (i - trial_count n (suc k)))
unfolding nth_trial with_trial_place
nth_high n k i high = sym (cond_above i (trial_count n (suc k)) (0 ∷ nth_trial n (suc k) i) _ _ high refl)

pub nth_broke : (n i : ℕ) → nth_trial (suc n) 0 i ≡ 0 ∷ nth_trial n 0 i
unfolding nth_trial with_trial_place
nth_broke n i = refl

pub count_broke : (n : ℕ) → trial_count (suc n) 0 ≡ trial_count n 0
unfolding trial_count count_with_place
count_broke n = refl

pub sought_first : (n k i : ℕ) → i < trial_count (suc n) k → IsSought n k i 0 i
sought_first n k i small = record {
  trial = more_none (nth_trial (suc n) k i) ∙ ap (λ (d : ℕ). more_by 0 (nth_trial (suc n) d i)) (omega arith);
  number = omega (arith, ap (trial_count (suc n)) (sub_none k));
  limit = omega arith;
} where
  sub_none : (m : ℕ) → m - 0 ≡ m
  sub_none m = omega arith

pub sought_more : (n k i a rest : ℕ) → a < k → IsSought n k i a rest → trial_count n (k - a) ≤ rest →
    IsSought n k i (a + 1) (rest - trial_count n (k - a))
sought_more n k i a rest low sought high =
    let m : ℕ = k - (a + 1) in
    let one : k - a ≡ suc m = omega arith in
    let past : trial_count n (suc m) ≤ rest = subst (λ (d : ℕ). trial_count n d ≤ rest) one high in
    let small : rest < trial_count (suc n) (suc m) =
    subst (λ (d : ℕ). rest < trial_count (suc n) d) one sought.number in
    let is : nth_trial (suc n) k i ≡ more_by a (nth_trial (suc n) (suc m) rest) =
    sought.trial ∙ ap (λ (d : ℕ). more_by a (nth_trial (suc n) d rest)) one in
    rw one (record {
      trial = is ∙ ap (more_by a) (nth_high n m rest past)
          ∙ more_raised a (nth_trial (suc n) m (rest - trial_count n (suc m)));
      number = omega (arith, count_more n m);
      limit = omega (arith, sought.limit);
    })

pub sought_here : (n k i a rest : ℕ) → a < k → IsSought n k i a rest → rest < trial_count n (k - a) →
    nth_trial (suc n) k i ≡ a ∷ nth_trial n (k - a) rest
sought_here n k i a rest low sought small =
    let m : ℕ = k - (a + 1) in
    let one : k - a ≡ suc m = omega arith in
    let below : rest < trial_count n (suc m) = subst (λ (d : ℕ). rest < trial_count n d) one small in
    let is : nth_trial (suc n) k i ≡ more_by a (nth_trial (suc n) (suc m) rest) =
    subst (λ (d : ℕ). nth_trial (suc n) k i ≡ more_by a (nth_trial (suc n) d rest)) one sought.trial in
    rw one (is ∙ ap (more_by a) (nth_low n m rest below) ∙ ap (λ (x : ℕ). x ∷ nth_trial n (suc m) rest) (omega arith))

pub record IsLast (n k i rest : ℕ) : Type 0 where
  pub trial : nth_trial (suc n) k i ≡ k ∷ nth_trial n (k - k) rest
  pub number : rest < trial_count n (k - k)

pub sought_last : (n k i a rest : ℕ) → a ≡ k → IsSought n k i a rest → IsLast n k i rest
sought_last n k i a rest all so_far =
    let sought : IsSought n k i k rest = subst (λ (b : ℕ). IsSought n k i b rest) all so_far in
    let none : k - k ≡ 0 = omega arith in
    let small : rest < trial_count (suc n) 0 =
    subst (λ (d : ℕ). rest < trial_count (suc n) d) none sought.number in
    let is : nth_trial (suc n) k i ≡ more_by k (nth_trial (suc n) 0 rest) =
    subst (λ (d : ℕ). nth_trial (suc n) k i ≡ more_by k (nth_trial (suc n) d rest)) none sought.trial in
    record {
      trial = rw none (is ∙ ap (more_by k) (nth_broke n rest) ∙ ap (λ (x : ℕ). x ∷ nth_trial n 0 rest) (omega arith));
      number = rw none (omega (arith, count_broke n));
    }

only_amount : (k : ℕ) (E : List ℕ) → IsTrial 1 k E → E ≡ k ∷ []
only_amount k [] trial = absurd (omega (arith, trial.places))
only_amount k (a ∷ E) trial =
    let empty : E ≡ [] = no_places E (omega (arith, trial.places)) in
    subst (λ (F : List ℕ). IsTrial 1 k (a ∷ F) → a ∷ F ≡ k ∷ []) (sym empty)
    (λ one. ap (λ (x : ℕ). x ∷ []) (omega (arith, one.amount))) trial

pub one_amount : (k i : ℕ) → i < trial_count 1 k → nth_trial 1 k i ≡ k ∷ []
one_amount k i small = only_amount k (nth_trial 1 k i) ((numbered 1 k).each i small).0

pub last_amount : (n left number : ℕ) (E : List ℕ) → 0 < n → length E ≡ n → number < trial_count (n - (n - 1)) left →
    set E (n - 1) left ≡ take (n - 1) E ++ nth_trial (n - (n - 1)) left number
last_amount n left number E some places small =
    let one : n - (n - 1) ≡ 1 = omega arith in
    let here : number < trial_count 1 left = subst (λ (m : ℕ). number < trial_count m left) one small in
    let whole : n - 1 + 1 ≡ length (set E (n - 1) left) = omega (arith, length-set E (n - 1) left) in
    let all : take (n - 1 + 1) (set E (n - 1) left) ≡ set E (n - 1) left = take_all _ _ (omega arith) in
    rw one (rw (one_amount left number here) (sym all ∙ take_more_set E (n - 1) left (omega arith)))
