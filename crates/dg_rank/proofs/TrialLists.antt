-- Trials as effective divisors, and effective divisors as trials.
--   degree-take       the first n amounts of a list add up to the degree of n vertices
--   degree-trial      the amounts of a trial of degree k have the degree k
--   listed n D        the amounts of n vertices as a list, each without its sign
--   length-listed     the list of n vertices has n amounts
--   listed-at         the list holds the amount of each vertex in its place
--   listed-amounts    where nobody is in debt, the amounts of the list are those of the divisor
--   listed-trial      where nobody is in debt, the list is a trial of the divisor's degree
use Rattle.dg_rank.proofs.Common.{◌≡◌, ℕ, zero, suc, ◌+◌, ◌<◌, ◌≤◌, List, [], ◌∷◌, ◌++◌, length, take, arith, refl, sym, ◌∙◌, ⊎_elim, add-one, length-append, slice_index, sum, unsigned_abs, cases_eq, ints, get_or_append_left, get_or_push, take_all, sum_by_more, pos, Amounts, degree, IsEffective, sum_below-cong, IsTrial, amounts_of_trial}

pub degree-take : (n : ℕ) (E : List ℕ) → n ≤ length E → degree n (amounts_of_trial E) ≡ pos (sum (take n E))
degree-take zero E few = refl
degree-take (suc n) E few =
    let before : degree n (amounts_of_trial E) ≡ pos (sum (take n E)) = degree-take n E (omega arith) in
    let more : sum (take (n + 1) E) ≡ sum (take n E) + slice_index E n =
    sum_by_more (λ (x : ℕ). x) E n 0 (omega arith) in
    let next : sum (take (suc n) E) ≡ sum (take n E) + slice_index E n = rw add-one at more in
    omega (arith, ints)

pub degree-trial : (n k : ℕ) (E : List ℕ) → IsTrial n k E → degree n (amounts_of_trial E) ≡ pos k
degree-trial n k E trial =
    let all : degree n (amounts_of_trial E) ≡ pos (sum (take n E)) = degree-take n E (omega (arith, trial.places)) in
    let whole : take n E ≡ E = take_all n E (omega (arith, trial.places)) in
    let added : sum (take n E) ≡ k = rw whole trial.amount in
    omega (arith, ints)

abbrev pub listed : ℕ → Amounts → List ℕ
listed zero D = []
listed (suc n) D = listed n D ++ unsigned_abs (D n) ∷ []

pub length-listed : (n : ℕ) (D : Amounts) → length (listed n D) ≡ n
length-listed zero D = refl
length-listed (suc n) D = omega (arith, length-append (listed n D) (unsigned_abs (D n) ∷ []), length-listed n D)

pub listed-at : (n : ℕ) (D : Amounts) (v : ℕ) → v < n → slice_index (listed n D) v ≡ unsigned_abs (D v)
listed-at zero D v inside = absurd (omega arith)
listed-at (suc n) D v inside =
    ⊎_elim
    (λ (last : v ≡ n). rw last (get_or_push (listed n D) (unsigned_abs (D n)) 0 n (length-listed n D)))
    (λ (other : v ≡ n → ⊥).
    let before : v < length (listed n D) = omega (arith, length-listed n D) in
    rw (get_or_append_left (listed n D) (unsigned_abs (D n) ∷ []) 0 v before) (listed-at n D v (omega arith)))
    (cases_eq v n)

pub listed-amounts : (n : ℕ) (D : Amounts) (v : ℕ) → IsEffective n D → v < n → amounts_of_trial (listed n D) v ≡ D v
listed-amounts n D v effective inside = omega (arith, ints, listed-at n D v inside, effective v inside)

pub listed-trial : (n k : ℕ) (D : Amounts) → IsEffective n D → degree n D ≡ pos k → IsTrial n k (listed n D)
listed-trial n k D effective of_degree =
    let same : degree n (amounts_of_trial (listed n D)) ≡ degree n D =
    sum_below-cong n (amounts_of_trial (listed n D)) D (λ v inside. listed-amounts n D v effective inside) in
    let all : degree n (amounts_of_trial (listed n D)) ≡ pos (sum (take n (listed n D))) =
    degree-take n (listed n D) (omega (arith, length-listed n D)) in
    let whole : take n (listed n D) ≡ listed n D = take_all n (listed n D) (omega (arith, length-listed n D)) in
    let added : pos (sum (take n (listed n D))) ≡ pos k = sym all ∙ same ∙ of_degree in
    let total : pos (sum (listed n D)) ≡ pos k = rw whole at added in
    record {
      places = length-listed n D;
      amount = omega (arith, ints);
    }
