-- The last place at which a loss begins.
--   LastOrNone   it and such a loss, or none of the trials is lost that hold nothing before a place
--   wins_back, lost_back, last_back, told_back, first_back   what is told of amounts is told of equivalent ones
--   wins_none    trials that hold nothing are borne by who owes nothing
--   loss_later   a loss that holds nothing at a place is one from the next on
--   wins_with    trials are borne if they are both with a dollar at a place and without
--   last_with    if a loss is none of those without, it begins there
--   last_unpaid  so does the dollar itself, where it can't be won
use Rattle.dg_rank.proofs.Common.{◌≡◌, ◌≢◌, ℕ, ◌+◌, ◌-◌, ◌<◌, ◌≤◌, ◌⊎◌, List, [], length, arith, refl, ap, ◌∙◌, ⊎_elim, set, length-set, slice_index, cases_eq, cases_lt, ints, pos, Option, Some, None, MatchOption, Multigraph, Amounts, only_at, AreEquivalent, IsEffective, IsWinnable, minus, equivalent-refl, only_at-here, only_at-other, equivalent-winnable, amounts_of_trial, TrialsWinFrom, IsFirstLossFrom, IsLossFrom, IsTrialFrom, HoldsAt}
use Rattle.std.proofs.Math.IntN.{◌+ℤ◌}
use Rattle.dg_theory.proofs.Equivalence.{equivalent-less}
use Rattle.dg_rank.specs.Boxes.{IsLastLoss}
use Rattle.dg_rank.proofs.Elsewhere.{degree-given}
use Rattle.dg_rank.proofs.FirstFrom.{IsOther, from_few, none_or_some, some_less, some_more, wins_other}
use Rattle.dg_rank.proofs.LossBoxes.{nothing_unpaid}
use Rattle.dg_rank.specs.Prices.{paid}

abbrev pub LastOrNone : Multigraph → Amounts → ℕ → ℕ → Option (ℕ × List ℕ) → Type 0
LastOrNone g A r d found =
    MatchOption found (TrialsWinFrom g A r d) (λ (l : ℕ × List ℕ). (d ≤ l.0) × IsLastLoss g A r l.0 l.1)

pub wins_back : (g : Multigraph) (A B : Amounts) (r d : ℕ) → AreEquivalent g A B → TrialsWinFrom g B r d →
    TrialsWinFrom g A r d
wins_back g A B r d same wins F from =
    (equivalent-winnable g (minus A F) (minus B F) (equivalent-less g A B F same)).1 (wins F from)

pub lost_back : (g : Multigraph) (A B : Amounts) (r d : ℕ) (E : List ℕ) → AreEquivalent g A B → IsLossFrom g B r d E →
    IsLossFrom g A r d E
lost_back g A B r d E same loss = record {
  places = loss.places;
  few = loss.few;
  empty = loss.empty;
  loses = λ win. loss.loses ((equivalent-winnable g (minus A (amounts_of_trial E)) (minus B (amounts_of_trial E))
      (equivalent-less g A B (amounts_of_trial E) same)).0 win);
}

pub last_back : (g : Multigraph) (A B : Amounts) (r p : ℕ) (E : List ℕ) → AreEquivalent g A B → IsLastLoss g B r p E →
    IsLastLoss g A r p E
last_back g A B r p E same last = record {
  inside = last.inside;
  loss = lost_back g A B r p E same last.loss;
  held = last.held;
  later = wins_back g A B r (p + 1) same last.later;
}

pub told_back : (found : Option (ℕ × List ℕ)) (g : Multigraph) (A B : Amounts) (r d : ℕ) → AreEquivalent g A B →
    LastOrNone g B r d found → LastOrNone g A r d found
told_back None g A B r d same wins = wins_back g A B r d same wins
told_back (Some l) g A B r d same last = (last.0, last_back g A B r l.0 l.1 same last.1)

pub first_back : (g : Multigraph) (A B : Amounts) (r d : ℕ) (E : List ℕ) → AreEquivalent g A B →
    IsFirstLossFrom g B r d E → IsFirstLossFrom g A r d E
first_back g A B r d E same loss = record {
  places = loss.places;
  from = loss.from;
  loses = λ win. loss.loses ((equivalent-winnable g (minus A (amounts_of_trial E)) (minus B (amounts_of_trial E))
      (equivalent-less g A B (amounts_of_trial E) same)).0 win);
  first = λ F from earlier. (equivalent-winnable g (minus A F) (minus B F) (equivalent-less g A B F same)).1
      (loss.first F from earlier);
}

pub wins_none : (g : Multigraph) (A : Amounts) (r d : ℕ) → IsEffective g.size A → (r ≡ 0) ⊎ (d ≡ g.size) →
    TrialsWinFrom g A r d
wins_none g A r d rich none F from = (
  [],
  λ v below. ⊎_elim
      (λ (nothing : r ≡ 0). omega (arith, ints, rich v below, from_few g.size r d v F from below))
      (λ (past : d ≡ g.size). omega (arith, ints, rich v below, from.empty v (omega arith)))
      none,
)

pub loss_later : (g : Multigraph) (A : Amounts) (r p : ℕ) (E : List ℕ) → IsEffective g.size A → p < g.size →
    slice_index E p ≡ 0 → IsLossFrom g A r p E → (p + 1 < g.size) × IsLossFrom g A r (p + 1) E
loss_later g A r p E rich inside none loss = (
  ⊎_elim
      (λ (more : p + 1 < g.size). more)
      (λ (end : g.size ≤ p + 1).
      absurd (loss.loses ([], λ v below. omega (arith, ints, rich v below, empty v (omega arith)))))
      (cases_lt (p + 1) g.size),
  record { places = loss.places; few = loss.few; empty = empty; loses = loss.loses },
) where
  empty : (v : ℕ) → v < p + 1 → slice_index E v ≡ 0
  empty v low = ⊎_elim
      (λ (there : v ≡ p). rw there none)
      (λ (apart : v ≡ p → ⊥). loss.empty v (omega arith))
      (cases_eq v p)

pub wins_with : (g : Multigraph) (A B : Amounts) (r p : ℕ) → p < g.size → IsOther g A B p 1 →
    TrialsWinFrom g A r (p + 1) → TrialsWinFrom g B (r - 1) p → TrialsWinFrom g A r p
wins_with g A B r p inside other later wins F from = ⊎_elim
    (λ (none : IsTrialFrom g.size r (p + 1) F). later F none)
    (λ (held : HoldsAt p 1 F). wins_other g A B F p 1 other
    (wins (minus F (only_at p (pos 1))) (some_less g.size r p 1 F from inside held)))
    (none_or_some g.size r p F inside from)

pub last_with : (g : Multigraph) (A B : Amounts) (r p : ℕ) (L E : List ℕ) → p < g.size → 1 ≤ r → IsOther g A B p 1 →
    TrialsWinFrom g A r (p + 1) → IsLossFrom g B (r - 1) p L → E ≡ set L p (slice_index L p + 1) → IsLastLoss g A r p E
last_with g A B r p L E inside some other later loss is = record {
  inside = inside;
  loss = record {
    places = ap length is ∙ length-set L p (slice_index L p + 1) ∙ loss.places;
    few = omega
        (arith, ints, degree-given g.size (amounts_of_trial L) (amounts_of_trial E) p 1 inside more, loss.few);
    empty = λ v low.
        let apart : v ≢ p = omega arith in
        omega (arith, ints, more v, loss.empty v low, only_at-other p (pos 1) v apart);
    loses = λ win. loss.loses ((equivalent-winnable g (minus A (amounts_of_trial E)) (minus B (amounts_of_trial L))
        (other.0, λ v below. omega (arith, ints, other.1 v below, more v))).0 win);
  };
  held = omega (arith, ints, more p, only_at-here p (pos 1));
  later = later;
} where
  more : (v : ℕ) → amounts_of_trial E v ≡ amounts_of_trial L v +ℤ only_at p (pos 1) v
  more v = ap (λ (T : List ℕ). amounts_of_trial T v) is ∙ some_more L p 1 v (omega (arith, loss.places))

pub last_unpaid : (g : Multigraph) (A : Amounts) (r p : ℕ) (L E : List ℕ) → p < g.size → 1 ≤ r →
    TrialsWinFrom g A r (p + 1) → length L ≡ g.size → ((u : ℕ) → u < g.size → slice_index L u ≡ 0) →
    E ≡ set L p (slice_index L p + 1) → (¬ IsWinnable g (minus A (only_at p (pos 1)))) → IsLastLoss g A r p E
last_unpaid g A r p L E inside some later places empty is lost =
    let B : Amounts = minus A (only_at p (pos 1)) in
    let none = nothing_unpaid g B (paid None []) [] (r - 1) L (λ v. refl) places empty lost in
    last_with g A B r p L E inside some (equivalent-refl g B B (λ v _. refl)) later (record {
      places = places;
      few = none.inside.few;
      empty = λ v low. empty v (omega arith);
      loses = none.loses;
    }) is
