-- Notes of many cells: they can be had twice, one more can be added, one can be taken out, and two lists of them agree.
-- Each lemma goes by induction on the list. Assumes `Logic`.
use Rattle.dg_log.proofs.Common.{◌≡◌, ℕ, zero, suc, ◌<◌, List, [], ◌∷◌, ◌++◌, length, map, refl, ap, ◌∙◌, subst, unwrap_or, option_map, arith, slice_get_within, slice_get-map, ℕ_discrete, Ura, ent, sep, emp, emp∗, via, Logic, sem, ‵, ◌⊛◌, ◌$◌, ◌∵◌, !, qed, by, move, keep, fsplit, fjoin, split, use1, use2, rewrite, done, fact, fact_i, fact_mono, fact_use, Keyless, RattleType, slice_get, Some, noted, noted_twice, noted_agree, noted_cells, AgreesOnCell, AgreeOnCells}

pub all_keyless : (R : RattleType) (items : List (ℕ × ℕ × R.Denot)) → Keyless (noted_cells R items)
all_keyless R [] = tt
all_keyless R (x ∷ items) = (tt, all_keyless R items)

module _ {M : Type 1} {𝓤 : Ura M} (𝓛 : Logic 𝓤) (R : RattleType) where
  abbrev Item : Type 0
  Item = ℕ × ℕ × R.Denot

  pub all_twice : (items : List Item)
      → ent 𝓤 (sem 𝓛 (noted_cells R items)) (sep 𝓤 (sem 𝓛 (noted_cells R items)) (sem 𝓛 (noted_cells R items)))
  all_twice [] = emp∗ 𝓤 (emp 𝓤)
  all_twice (x ∷ items) = let N = noted R x.1 (Some x.2) in let rest = noted_cells R items in
      qed 𝓛 (‵ (noted_cells R (x ∷ items)) ∷ []) ∵ fsplit ! $ use1 𝓛 (‵ N ⊛ ‵ N) (noted_twice 𝓛 R x.1 (Some x.2)) $
      split ! $ move ! (2 ∷ []) $ use1 𝓛 (‵ rest ⊛ ‵ rest) (all_twice items) $ split ! $
      move ! (2 ∷ 0 ∷ []) $ fjoin ! $ move ! (2 ∷ 1 ∷ []) $ fjoin ! $ done !

  pub all_more : (items : List Item) (n γ : ℕ) (x : R.Denot)
      → ent 𝓤 (sep 𝓤 (sem 𝓛 (noted_cells R items)) (sem 𝓛 (noted R γ (Some x))))
      (sem 𝓛 (noted_cells R (items ++ (n, γ, x) ∷ [])))
  all_more [] n γ x = qed 𝓛 (‵ (noted_cells R []) ∷ ‵ (noted R γ (Some x)) ∷ []) ∵ move ! (1 ∷ 0 ∷ []) $ fjoin ! $ done !
  all_more (y ∷ items) n γ x =
      qed 𝓛 (‵ (noted_cells R (y ∷ items)) ∷ ‵ (noted R γ (Some x)) ∷ []) ∵ fsplit ! $ move ! (1 ∷ 2 ∷ []) $
      use2 𝓛 (‵ (noted_cells R (items ++ (n, γ, x) ∷ []))) (all_more items n γ x) $ move ! (1 ∷ 0 ∷ []) $ fjoin ! $ done !

  pub all_at : (items : List Item) (i : ℕ) (x : Item) → slice_get items i ≡ Some x
      → ent 𝓤 (sem 𝓛 (noted_cells R items)) (sem 𝓛 (noted R x.1 (Some x.2)))
  all_at [] i x e = let low : i < 0 = slice_get_within [] i x e in absurd (omega arith)
  all_at (y ∷ items) zero x e =
      subst (λ (z : Item). ent 𝓤 (sem 𝓛 (noted_cells R (y ∷ items))) (sem 𝓛 (noted R z.1 (Some z.2))))
      (ap (λ z. unwrap_or z y) e)
      (qed 𝓛 (‵ (noted_cells R (y ∷ items)) ∷ []) ∵ fsplit ! $ keep ! (0 ∷ []) $ done !)
  all_at (y ∷ items) (suc i) x e =
      qed 𝓛 (‵ (noted_cells R (y ∷ items)) ∷ []) ∵ fsplit ! $ keep ! (1 ∷ []) $ by ! (all_at items i x e)

  pub item_at : (items : List Item) (i : ℕ) → i < length items → (x : Item) × (slice_get items i ≡ Some x)
  item_at [] i low = absurd (omega arith)
  item_at (x ∷ items) zero low = (x, refl)
  item_at (x ∷ items) (suc i) low = item_at items i (omega arith)

  pub part_at : {X : Type 0} (part : Item → X) (items : List Item) (i : ℕ) (x : Item) → slice_get items i ≡ Some x
      → slice_get (map part items) i ≡ Some (part x)
  part_at part items i x e = slice_get-map part items i ∙ ap (option_map part) e

  abbrev AgreeAt : Item → Item → Type 0
  AgreeAt x y = x.1 ≡ y.1 → x.2 ≡ y.2

  one_agrees : (x y : Item) → ent 𝓤 (sep 𝓤 (sem 𝓛 (noted R x.1 (Some x.2))) (sem 𝓛 (noted R y.1 (Some y.2))))
      (fact 𝓤 (AgreeAt x y))
  one_agrees x y = by_name (ℕ_discrete x.1 y.1)
    where
      by_name : Dec (x.1 ≡ y.1) → ent 𝓤 (sep 𝓤 (sem 𝓛 (noted R x.1 (Some x.2))) (sem 𝓛 (noted R y.1 (Some y.2))))
          (fact 𝓤 (AgreeAt x y))
      by_name (no other) = fact_i 𝓤 _ _ (λ same. absurd (other same))
      by_name (yes same) =
          qed 𝓛 (‵ (noted R x.1 (Some x.2)) ∷ ‵ (noted R y.1 (Some y.2)) ∷ []) ∵
          rewrite ! 0 (λ (k : ℕ). ‵ (noted R k (Some x.2))) same refl $
          by ! (via 𝓤 _ (noted_agree 𝓛 R y.1 (Some x.2) (Some y.2)) (fact_mono 𝓤 (x.2 ≡ y.2) (AgreeAt x y) (λ e _. e)))

  one_agrees_with : (x : Item) (items : List Item)
      → ent 𝓤 (sep 𝓤 (sem 𝓛 (noted R x.1 (Some x.2))) (sem 𝓛 (noted_cells R items))) (fact 𝓤 (AgreesOnCell x items))
  one_agrees_with x [] = fact_i 𝓤 _ _ tt
  one_agrees_with x (y ∷ items) = let N = noted R x.1 (Some x.2) in
      fact_use 𝓤 (AgreeAt x y) (qed 𝓛 (‵ N ∷ ‵ (noted_cells R (y ∷ items)) ∷ []) ∵
      move ! (1 ∷ []) $ fsplit ! $ keep ! (2 ∷ 0 ∷ []) $ by ! (one_agrees x y)) (λ here.
      fact_use 𝓤 (AgreesOnCell x items) (qed 𝓛 (‵ N ∷ ‵ (noted_cells R (y ∷ items)) ∷ []) ∵
      move ! (1 ∷ []) $ fsplit ! $ keep ! (2 ∷ 1 ∷ []) $ by ! (one_agrees_with x items)) (λ later.
      fact_i 𝓤 _ _ (here, later)))

  pub all_agree : (items others : List Item)
      → ent 𝓤 (sep 𝓤 (sem 𝓛 (noted_cells R items)) (sem 𝓛 (noted_cells R others))) (fact 𝓤 (AgreeOnCells items others))
  all_agree [] others = fact_i 𝓤 _ _ tt
  all_agree (x ∷ items) others =
      fact_use 𝓤 (AgreesOnCell x others) (qed 𝓛 (‵ (noted_cells R (x ∷ items)) ∷ ‵ (noted_cells R others) ∷ []) ∵
      fsplit ! $ keep ! (0 ∷ 2 ∷ []) $ by ! (one_agrees_with x others)) (λ here.
      fact_use 𝓤 (AgreeOnCells items others) (qed 𝓛 (‵ (noted_cells R (x ∷ items)) ∷ ‵ (noted_cells R others) ∷ []) ∵
      fsplit ! $ keep ! (1 ∷ 2 ∷ []) $ by ! (all_agree items others)) (λ later.
      fact_i 𝓤 _ _ (here, later)))
