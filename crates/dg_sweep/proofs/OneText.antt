-- Verdicts with the order in which the vertices burn have one text.
--   order_same     vertices burn in one order, the least first
--   judgement_same verdicts on one divisor are printed alike, with the order of burning or without
use Rattle.dg_sweep.proofs.Common.{◌≡◌, ℕ, zero, suc, ◌+◌, ◌<◌, Bool, true, false, List, [], ◌∷◌, ◌++◌, length, take, get_or, inl, inr, arith, sym, ap, ◌∙◌, subst, ◌<ℤ◌, slice_get, Some, cases_eq, cases_lt, take_all, take_more, slice_get-get_or, slice_get_within, get_or_from_slice_get, Multigraph, IsMultigraph, Amounts, DivisorsAgreeOn, list_contains, edges_into, MayBurn, BurnsNext, IsLeastBurningOrder, at, IsVerdictOn, Verdict, verdict_text, burning_text, judgement_text}
use Rattle.std.proofs.Math.IntN.{ℤ, pos}
use Rattle.dg_lines.proofs.OneText.{verdict_same, reduced_same}

may_cong : (g : Multigraph) (D E : Amounts) (B : ℕ → Bool) (v : ℕ) → DivisorsAgreeOn g.size D E → MayBurn g D B v
    → MayBurn g E B v
may_cong g D E B v same may = record {
  vertex = may.vertex;
  unburnt = may.unburnt;
  reached = subst (λ (z : ℤ). z <ℤ pos (edges_into g B v)) (same v may.vertex) may.reached;
}

-- two orders of burning agree up to each place
module _ (g : Multigraph) (q : ℕ) (D E : Amounts) (same : DivisorsAgreeOn g.size D E) where
  back : DivisorsAgreeOn g.size E D
  back v below = sym (same v below)

  next_same : (B : ℕ → Bool) (v w : ℕ) → BurnsNext g D B v → BurnsNext g E B w → v ≡ w
  next_same B v w first second = elim (cases_eq v w) [
    | inl one ↦ one
    | inr other ↦ elim (cases_lt v w) [
      | inl before ↦ absurd (second.least v before (may_cong g D E B v same first.may))
      | inr after ↦ absurd (first.least w (omega (arith, other, after)) (may_cong g E D B w back second.may))
    ]
  ]

  module _ (l m : List ℕ) (first : IsLeastBurningOrder g q D l) (second : IsLeastBurningOrder g q E m) where
    next_first : (i : ℕ) → suc i < length l → BurnsNext g D (list_contains (take (suc i) l)) (get_or l (suc i) 0)
    next_first i inside = first.begun.next i (get_or l (suc i) 0) (slice_get-get_or l (suc i) 0 inside)

    next_second : (i : ℕ) → suc i < length m → BurnsNext g E (list_contains (take (suc i) m)) (get_or m (suc i) 0)
    next_second i inside = second.begun.next i (get_or m (suc i) 0) (slice_get-get_or m (suc i) 0 inside)

    one_more : (i : ℕ) → take (suc i) l ≡ take (suc i) m → take (suc (suc i)) l ≡ take (suc (suc i)) m
    one_more i before = elim (cases_lt (suc i) (length l)) [
      | inl here ↦ elim (cases_lt (suc i) (length m)) [
        | inl there ↦
            let next : suc i + 1 ≡ suc (suc i) = omega arith in
            subst (λ (n : ℕ). take n l ≡ take n m) next
            (take_more l (suc i) 0 here
            ∙ ap (λ (t : List ℕ). t ++ get_or l (suc i) 0 ∷ []) before
            ∙ ap (λ (x : ℕ). take (suc i) m ++ x ∷ [])
            (next_same (list_contains (take (suc i) m)) (get_or l (suc i) 0) (get_or m (suc i) 0)
            (subst (λ (t : List ℕ). BurnsNext g D (list_contains t) (get_or l (suc i) 0)) before (next_first i here))
            (next_second i there))
            ∙ sym (take_more m (suc i) 0 there))
        | inr past ↦
            absurd (second.last (get_or l (suc i) 0) (may_cong g D E (list_contains m) (get_or l (suc i) 0) same
            (subst (λ (t : List ℕ). MayBurn g D (list_contains t) (get_or l (suc i) 0)) (before ∙ take_all (suc i) m past)
            (next_first i here).may)))
      ]
      | inr past ↦ elim (cases_lt (suc i) (length m)) [
        | inl there ↦
            absurd (first.last (get_or m (suc i) 0) (may_cong g E D (list_contains l) (get_or m (suc i) 0) back
            (subst (λ (t : List ℕ). MayBurn g E (list_contains t) (get_or m (suc i) 0)) (sym before ∙ take_all (suc i) l past)
            (next_second i there).may)))
        | inr past' ↦
            take_all (suc (suc i)) l (omega (arith, past))
            ∙ sym (take_all (suc i) l past)
            ∙ before
            ∙ take_all (suc i) m past'
            ∙ sym (take_all (suc (suc i)) m (omega (arith, past')))
      ]
    ]

    first_place : (xs : List ℕ) → slice_get xs 0 ≡ Some q → take 1 xs ≡ q ∷ []
    first_place xs is =
        take_more xs 0 0 (slice_get_within xs 0 q is)
        ∙ ap (λ (x : ℕ). x ∷ []) (get_or_from_slice_get xs 0 q 0 is)

    all_same : (i : ℕ) → take (suc i) l ≡ take (suc i) m
    all_same zero = first_place l first.begun.first ∙ sym (first_place m second.begun.first)
    all_same (suc i) = one_more i (all_same i)

    order_same : l ≡ m
    order_same =
        let far : ℕ = length l + length m in
        sym (take_all (suc far) l (omega arith)) ∙ all_same far ∙ take_all (suc far) m (omega arith)

module _ (names : List (List ℕ)) (g : Multigraph) (D : Amounts) (fit : length names ≡ g.size) where
  pub judgement_same : (q : ℕ) → IsMultigraph g → q < g.size → (ordered : Bool) (x y : Verdict) → IsVerdictOn g q D x
      → IsVerdictOn g q D y → judgement_text names ordered x ≡ judgement_text names ordered y
  judgement_same q graph vertex false x y first second = verdict_same names g D fit q graph vertex x y first.right second.right
  judgement_same q graph vertex true x y first second =
      ap (λ (t : List ℕ). t ++ burning_text names (take (length names) x.order))
      (verdict_same names g D fit q graph vertex x y first.right second.right)
      ∙ ap (λ (l : List ℕ). verdict_text names y ++ burning_text names l)
      (subst (λ (n : ℕ). take n x.order ≡ take n y.order) (sym fit)
      (order_same g q (at x.reduced) (at y.reduced) (reduced_same names g D fit q vertex x y first.right second.right)
      (take g.size x.order) (take g.size y.order) first.order.burns second.order.burns))
