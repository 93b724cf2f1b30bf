-- However trials are numbered, there are as many.
--   lower_number   of two numbered trials the one that comes before the other has the lower number
--   no_lower       the trial of a number has no lower one in another numbering
--   counted_once   two counts of the trials with one property are the same
use Rattle.dg_rank.proofs.Common.{◌≡◌, ℕ, zero, suc, ◌<◌, ◌≤◌, List, arith, sym, subst, ⊎_elim, cases_lt, IsTrialNumbering, AreTrialsCounted, IsTrialBefore}
use Rattle.dg_rank.proofs.Lists.{before_both}

pub lower_number : (n k : ℕ) (P : List ℕ → Type 0) (c : ℕ) (nth : ℕ → List ℕ) (i j : ℕ) → IsTrialNumbering n k P c nth →
    i < c →
    IsTrialBefore (nth i) (nth j) → i < j
lower_number n k P c nth i j numbers small before = ⊎_elim
    (λ (low : i < j). low)
    (λ (high : j ≤ i). absurd (⊎_elim
    (λ (more : j < i). before_both (nth i) (nth j) before (numbers.ascending j i more small))
    (λ (less : i ≤ j).
    let same : i ≡ j = omega arith in
    let self : IsTrialBefore (nth j) (nth j) = subst (λ (m : ℕ). IsTrialBefore (nth m) (nth j)) same before in
    before_both (nth j) (nth j) self self)
    (cases_lt j i)))
    (cases_lt i j)

pub no_lower : (n k : ℕ) (P : List ℕ → Type 0) (c d : ℕ) (f g : ℕ → List ℕ) → IsTrialNumbering n k P c f →
    IsTrialNumbering n k P d g →
    (i j : ℕ) → i < c → f i ≡ g j → i ≤ j
no_lower n k P c d f g first second zero j small same = omega arith
no_lower n k P c d f g first second (suc i) j small same =
    let here : i < c = omega arith in
    let (m, within, found) = second.all (f i) (first.each i here).0 (first.each i here).1 in
    let least : i ≤ m = no_lower n k P c d f g first second i m here (sym found) in
    let step : IsTrialBefore (f i) (f (suc i)) = first.ascending i (suc i) (omega arith) small in
    let next : IsTrialBefore (g m) (g j) = rw (found, ← same) step in
    let lower : m < j = lower_number n k P d g m j second within next in
    omega arith

as_many : (n k : ℕ) (P : List ℕ → Type 0) (c d : ℕ) (f g : ℕ → List ℕ) → IsTrialNumbering n k P c f → IsTrialNumbering n k P d g →
    c ≤ d
as_many n k P zero d f g first second = omega arith
as_many n k P (suc c) d f g first second =
    let last : c < suc c = omega arith in
    let (j, within, found) = second.all (f c) (first.each c last).0 (first.each c last).1 in
    let least : c ≤ j = no_lower n k P (suc c) d f g first second c j last (sym found) in
    omega arith

pub counted_once : (n k : ℕ) (P : List ℕ → Type 0) (c d : ℕ) → AreTrialsCounted n k P c → AreTrialsCounted n k P d → c ≡ d
counted_once n k P c d (f, first) (g, second) =
    let most : c ≤ d = as_many n k P c d f g first second in
    let least : d ≤ c = as_many n k P d c g f second first in
    omega arith
