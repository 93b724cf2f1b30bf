-- The labels of vertices.
--   AreLabels-pushed   the label of the next name, put at the next vertex
--   AreLabels-added    the same if the name may be among them already
use Rattle.dg_tokens.proofs.Common.{◌≡◌, ℕ, ◌<◌, List, [], ◌∷◌, ◌++◌, length, set, sym, subst, inl, inr, arith, length-append, slice_index_or, cases_order, cond_both, get_or-set_same, get_or-set_other, get_or_append_left, get_or_at, Label, names_contain, names_inserted, name_at, AreLabels, IsLabel}

module _ (labels : List Label) (names : List (List ℕ)) (name : List ℕ) (next : ℕ) (l : Label)
    (last : length names ≡ next) (inside : next < length labels) (is : IsLabel l name)
    (are : AreLabels labels names) where
  before-next : AreLabels (set labels next l) names
  before-next v other below =
      let kept = get_or-set_other labels next v l other (λ same. omega arith) in
      subst (λ (own : Label). IsLabel own (name_at names v)) (sym kept) (are v other below)

  at-next : (other : Label)
      → IsLabel (slice_index_or (set labels next l) next other) (name_at (names ++ name ∷ []) next)
  at-next other = rw (get_or-set_same labels next l other inside, get_or_at names name [] [] next last) is

  pub AreLabels-pushed : AreLabels (set labels next l) (names ++ name ∷ [])
  AreLabels-pushed v other below =
      elim (cases_order v next) [
        | inl same ↦ rw same (at-next other)
        | inr (inl less) ↦
            subst (λ (own : List ℕ). IsLabel (slice_index_or (set labels next l) v other) own)
            (sym (get_or_append_left names (name ∷ []) [] v (omega arith))) (before-next v other (omega arith))
        | inr (inr more) ↦ absurd (omega (arith, length-append names (name ∷ [])))
      ]

  pub AreLabels-added : AreLabels (set labels next l) (names_inserted names name)
  AreLabels-added =
      cond_both (names_contain names name) names (names ++ name ∷ []) (AreLabels (set labels next l))
      (λ old. before-next) (λ new. AreLabels-pushed)
