-- The first loss by boxes with a fixed beginning.
--   loss_few       a loss of at most so many dollars holds nowhere more
--   first_skip     the first loss that holds nothing before a place is the first of those from an earlier place on
--   first_last     if all before the last place is fixed, one trial is left
--   first_unpaid   the first loss where one dollar more can't be won
--   fewer_lost     a loss without one of its dollars, which is taken
--   loss_fails     where something can't be lost, a divisor fails its test
--   all_told       what is told of all losses tells the test of equivalent amounts
--   lost_at_last   where all can't be lost at the last vertex, a divisor fails its test
use Rattle.dg_rank.proofs.Common.{◌≡◌, ◌≢◌, ℕ, ◌+◌, ◌-◌, ◌<◌, ◌≤◌, List, length, arith, refl, ap, ◌∙◌, ⊎_elim, set, length-set, get_or-set_same, get_or-set_other, slice_index, ◌≤ℤ◌, cases_eq, cases_lt, ints, pos, ◌-ℤ◌, Multigraph, Amounts, degree, only_at, AreEquivalent, IsWinnable, minus, HasRankAtLeast, equivalent-refl, degree-less, degree-only_at, only_at-here, only_at-other, sum_below-one, sum_below-cong, equivalent-winnable, win_more, amounts_of_trial, TrialsWinFrom, IsFirstLossFrom, IsLossFrom, natural, Bool, true, false, not, is_some, Option, Some, None, MatchOption, MatchBool, IsTrial, WinsWithout, equivalent-rank, both_ways}
use Rattle.std.proofs.Math.IntN.{◌+ℤ◌}
use Rattle.dg_rank.proofs.Elsewhere.{only_at-more, degree-given}
use Rattle.dg_rank.proofs.TrialLists.{degree-trial}
use Rattle.dg_rank.proofs.AnyLoss.{rank_from}
use Rattle.dg_rank.proofs.FirstFrom.{first_at_last, first_with}

pub loss_few : (g : Multigraph) (A : Amounts) (r d v : ℕ) (E : List ℕ) → IsLossFrom g A r d E → v < g.size →
    slice_index E v ≤ r
loss_few g A r d v E loss below =
    let most : amounts_of_trial E v ≤ℤ degree g.size (amounts_of_trial E) =
    sum_below-one g.size v (amounts_of_trial E) below (λ w low _. omega (arith, ints)) in
    omega (arith, ints, loss.few)

pub first_skip : (g : Multigraph) (A : Amounts) (r p q : ℕ) (E : List ℕ) → p ≤ q → IsFirstLossFrom g A r q E →
    IsFirstLossFrom g A r p E
first_skip g A r p q E past loss = record {
  places = loss.places;
  from = record {
    effective = loss.from.effective;
    of_degree = loss.from.of_degree;
    empty = λ v low. loss.from.empty v (omega arith);
  };
  loses = loss.loses;
  first = λ F from earlier.
      let u = earlier.place in
      ⊎_elim
      (λ (low : u < q). absurd (omega
      (arith, ints, earlier.smaller, loss.from.empty u low, from.effective u earlier.inside)))
      (λ (high : q ≤ u). loss.first F (record {
        effective = from.effective;
        of_degree = from.of_degree;
        empty = λ v low. earlier.same v (omega arith) ∙ loss.from.empty v low;
      }) earlier)
      (cases_lt u q);
}

pub first_last : (g : Multigraph) (A : Amounts) (r p : ℕ) (E K : List ℕ) → p + 1 ≡ g.size → length E ≡ g.size →
    slice_index E (g.size - 1) ≡ r → ((u : ℕ) → u + 1 < g.size → slice_index E u ≡ 0) → IsLossFrom g A r p K →
    IsFirstLossFrom g A r p E
first_last g A r p E K end places held empty known =
    first_at_last g A r p E (omega arith) places held empty
    (λ win. known.loses (win_more g (minus A (amounts_of_trial E)) (minus A (amounts_of_trial K)) (λ v below. ⊎_elim
    (λ (last : v ≡ g.size - 1).
    let all : slice_index E v ≡ r = ap (slice_index E) last ∙ held in
    omega (arith, ints, loss_few g A r p v K known below))
    (λ (inner : v ≡ g.size - 1 → ⊥). omega (arith, ints, known.empty v (omega arith)))
    (cases_eq v (g.size - 1))) win))

pub first_unpaid : (g : Multigraph) (A : Amounts) (r p : ℕ) (E E' : List ℕ) → p < g.size → 1 ≤ r →
    TrialsWinFrom g A r (p + 1) → length E' ≡ g.size → slice_index E' (g.size - 1) ≡ r - 1 →
    ((u : ℕ) → u + 1 < g.size → slice_index E' u ≡ 0) → E ≡ set E' p (slice_index E' p + 1) →
    (¬ IsWinnable g (minus A (only_at p (pos 1)))) → IsFirstLossFrom g A r p E
first_unpaid g A r p E E' inside some wins places held empty is lost =
    let B : Amounts = minus A (only_at p (pos 1)) in
    first_with g A B r p E E' inside some (equivalent-refl g B B (λ v below. refl)) wins
    (first_at_last g B (r - 1) p E' inside places held empty
    (λ win. lost (win_more g (minus B (amounts_of_trial E')) B (λ v below. omega (arith, ints)) win)))
    is

one_fewer : (K : List ℕ) (p v : ℕ) → p < length K → 1 ≤ slice_index K p →
    amounts_of_trial (set K p (slice_index K p - 1)) v ≡ amounts_of_trial K v -ℤ only_at p (pos 1) v
one_fewer K p v inside some = ⊎_elim
    (λ (there : v ≡ p). rw there (omega
    (arith, ints, get_or-set_same K p (slice_index K p - 1) 0 inside, only_at-here p (pos 1))))
    (λ (apart : v ≡ p → ⊥). omega
    (arith, ints, get_or-set_other K p v (slice_index K p - 1) 0 apart, only_at-other p (pos 1) v apart))
    (cases_eq v p)

pub fewer_lost : (g : Multigraph) (A B : Amounts) (r p : ℕ) (K : List ℕ) → p < g.size → 1 ≤ slice_index K p →
    AreEquivalent g (minus A (only_at p (pos 1))) B → IsLossFrom g A r p K →
    IsLossFrom g B (r - 1) p (set K p (slice_index K p - 1))
fewer_lost g A B r p K below some (s, leads) known = record {
  places = length-set K p (slice_index K p - 1) ∙ known.places;
  few = omega (
    arith,
    ints,
    sum_below-cong g.size (amounts_of_trial (set K p (slice_index K p - 1))) (minus (amounts_of_trial K) (only_at p (pos 1)))
        (λ v low. fewer v),
    degree-less g.size (amounts_of_trial K) (only_at p (pos 1)),
    degree-only_at g.size p (pos 1) below,
    known.few,
    loss_few g A r p p K known below,
  );
  empty = λ v low.
      let apart : v ≢ p = omega arith in
      get_or-set_other K p v (slice_index K p - 1) 0 apart ∙ known.empty v low;
  loses = λ win. known.loses ((equivalent-winnable g (minus A (amounts_of_trial K))
      (minus B (amounts_of_trial (set K p (slice_index K p - 1))))
      (s, λ v low. omega (arith, ints, leads v low, fewer v))).1 win);
} where
  fewer : (v : ℕ) → amounts_of_trial (set K p (slice_index K p - 1)) v ≡ amounts_of_trial K v -ℤ only_at p (pos 1) v
  fewer v = one_fewer K p v (omega (arith, known.places)) some

-- a loss of fewer dollars is one of more
pub loss_fails : (g : Multigraph) (A : Amounts) (k : ℕ) (E : List ℕ) → 0 < g.size → IsLossFrom g A k 0 E →
    ¬ HasRankAtLeast g A k
loss_fails g A k E some loss rank =
    let (t, rest) = natural (pos k -ℤ degree g.size (amounts_of_trial E)) (omega (arith, ints, loss.few)) in
    let F : Amounts = λ v. amounts_of_trial E v +ℤ only_at 0 (pos t) v in
    loss.loses (win_more g (minus A F) (minus A (amounts_of_trial E))
    (λ v below. omega (arith, ints, only_at-more 0 t v))
    (rank F (λ v below. omega (arith, ints, only_at-more 0 t v))
    (omega (arith, ints, rest, degree-given g.size (amounts_of_trial E) F 0 t some (λ w. refl)))))

pub all_told : (b : Bool) (found : Option (List ℕ)) (g : Multigraph) (A B : Amounts) (k : ℕ) → 0 < g.size →
    AreEquivalent g A B → is_some found ≡ not b → MatchOption found (TrialsWinFrom g B k 0) (IsLossFrom g B k 0) →
    MatchBool b (HasRankAtLeast g A k) (¬ HasRankAtLeast g A k)
all_told true None g A B k some same is wins = (equivalent-rank g A B k same).1 (rank_from g B k wins)
all_told false (Some E) g A B k some same is loss =
    λ rank. loss_fails g B k E some loss ((equivalent-rank g A B k same).0 rank)
all_told true (Some E) g A B k some same is loss = absurd (both_ways _ is refl)
all_told false None g A B k some same is wins = absurd (both_ways _ refl is)

pub lost_at_last : (g : Multigraph) (D : Amounts) (k : ℕ) (E : List ℕ) → IsTrial g.size k E → (¬ WinsWithout g D E) →
    ¬ HasRankAtLeast g D k
lost_at_last g D k E trial lost rank =
    lost (rank (amounts_of_trial E) (λ v below. omega (arith, ints)) (degree-trial g.size k E trial))
