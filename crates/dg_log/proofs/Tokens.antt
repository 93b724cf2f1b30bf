-- A `Witness` and a `Witnesses` as values, and a `&` to what can be had twice. Assumes `Logic`.
use Rattle.dg_log.proofs.Common.{ℕ, List, [], ◌∷◌, refl, Ura, Val, vstruct, vcons, vnil, ent, sep, wand, apply∗, Lft, Fml, fbor, Logic, sem, lfts, ‵, raw, ◌⊛◌, later, ◌$◌, ◌∵◌, !, qed, move, drop, use0, use1, use2, split, await, updating, now, done, RattleType, makes_shadow, said, Struct, shape, Lends, Some, noted, noted_cells}
use Rattle.dg_log.specs.contracts.witnesses.Witnesses as witnesses
use Rattle.dg_log.specs.contracts.witness.Witness as witness

-- both tokens have the one field `marker`
abbrev pub token : Val
token = vstruct (vcons (vstruct vnil) vnil)

module _ {M : Type 1} {𝓤 : Ura M} (𝓛 : Logic 𝓤) where
  pub witness_made : (R : RattleType) (γ : ℕ) (x : R.Denot)
      → ent 𝓤 (sem 𝓛 (noted R γ (Some x))) (sem 𝓛 ((witness.the_row R).own_val (record {
        marker = record {};
        cell = γ;
        value = x;
      }) (token ∷ [])))
  witness_made R γ x = let F = (Struct (shape (witness.the_type R))).own_val (tt, tt) (token ∷ []) in
      qed 𝓛 (‵ (noted R γ (Some x)) ∷ []) ∵
      use0 𝓛 (‵ F) (makes_shadow 𝓛 F (λ vss. (tt, ((λ uss. (tt, tt)), tt)))
      ((vstruct vnil ∷ [], tt), (refl, ((tt, (refl, tt)), tt)))) $ done !

  pub witnesses_made : (R : RattleType) (items : List (ℕ × ℕ × R.Denot))
      → ent 𝓤 (sem 𝓛 (noted_cells R items)) (sem 𝓛 ((witnesses.the_row R).own_val (record {
        marker = record {};
        items = items;
      }) (token ∷ [])))
  witnesses_made R items = let F = (Struct (shape (witnesses.the_type R))).own_val (tt, tt) (token ∷ []) in
      qed 𝓛 (‵ (noted_cells R items) ∷ []) ∵
      use0 𝓛 (‵ F) (makes_shadow 𝓛 F (λ vss. (tt, ((λ uss. (tt, tt)), tt)))
      ((vstruct vnil ∷ [], tt), (refl, ((tt, (refl, tt)), tt)))) $ done !

  pub lends_twice : (P : Fml) → ent 𝓤 (sem 𝓛 P) (sep 𝓤 (sem 𝓛 P) (sem 𝓛 P)) → (l : Lft) → Lends 𝓛 P (said P) l
  lends_twice P twice l κ ts inc sp = let Back = 𝓛.H.⇛ (sep 𝓤 (𝓛.A.bor κ P) (lfts 𝓛 ts)) in
      qed 𝓛 (‵ (fbor κ P) ∷ raw (lfts 𝓛 ts) ∷ []) ∵ updating ! $
      use2 𝓛 (later (‵ P ⊛ raw (wand 𝓤 (sem 𝓛 P) Back))) (𝓛.more.bor_acc_by κ ts P sp) $ await ! tt $ split ! $
      use1 𝓛 (‵ P ⊛ ‵ P) twice $ split ! $ move ! (0 ∷ 2 ∷ []) $
      use2 𝓛 (later (‵ (fbor κ P) ⊛ raw (lfts 𝓛 ts))) (apply∗ 𝓤 (sem 𝓛 P) Back) $ await ! tt $ split ! $ drop ! $
      move ! (1 ∷ 0 ∷ []) $ now ! $ done !
