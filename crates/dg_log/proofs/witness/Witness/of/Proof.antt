-- What a note knows can be had twice: the note keeps the one, and the token takes the other.
use Rattle.dg_log.proofs.Common.{◌≡◌, ℕ, List, [], ◌∷◌, refl, a_type, named, Val, vptr, inst_fn, SProp, emp, apply∗, all, all_e, Lft, Share, Fml, ftrue, fsep, flft, sem, ‵, raw, ◌⊛◌, later, ◌$◌, ◌∵◌, !, qed, by, move, keep, split, join, fsplit, fjoin, use0, use1, use2, await, rewrite, feq_i, no_more, and_then, returns, enter, alloc_all, pass_all, free_all, look_at, get, sets, agg, tables, fact, fact_i, RattleType, owns, types_at, plain, nothing, heard, param, layouts, mut_vals, mut_Tells, Stays, walk_of, stay_ref, Goes-ref, Option, Some, proved, leaves, noted}
use Rattle.once_cell.proofs.Notes as notes
use Rattle.dg_log.specs.contracts.witness.Witness as witness
use Rattle.dg_log.proofs.Tokens.{token, witness_made}
use Rattle.dg_log.specs.contracts.witness.Witness.of.{ended, clauses}
use Rattle.dg_log.specs.contracts.witness.Witness.of.Key.{name as #self}
use Rattle.dg_log.proofs.witness.Witness.of.Statement.{statement}
use Rattle.dg_log.proofs.witness.Witness.of.Code as code

pub of_spec : {M : Type 1} → statement M
of_spec 𝓤 𝓛 𝓜 𝓡 wired T L =
    let H = 𝓛.H in let 𝓣 = tables 𝓤 H 𝓜 𝓡 𝓡.env in let R : RattleType = param 0 T in let En = ended T in
    let S : RattleType = witness.the_row R in let N : RattleType = notes.Note 𝓛 R in
    let inst = layouts (a_type ∷ []) (T, tt) in let fn = inst_fn inst code.function in
    let c = clauses T 𝓛 𝓜.mem 𝓡.returns in
    let hs : Stays En.signature.params En.kept = (stay_ref (0 ∷ []) tt (plain (λ _. N)), tt) in
    proved 𝓛 En hs c 𝓜 𝓡 (Goes-ref 𝓛 2 0 tt (plain (λ _. N)), tt) (#self inst) fn (code.unfolded 𝓤 H 𝓜 𝓡 wired (T, tt))
    (λ κs. (mut_vals, tt)) (λ κs. (mut_Tells (named 0) κs.0 N, tt)) (λ κs qs bounds a gh are.
    let κ : Lft = κs.0 in let q : Share = qs.0 in let b : ℕ = a.0.ref_ptr.0 in let o : ℕ = a.0.ref_ptr.1 in
    let ν : ℕ = a.0.ghost_name in let n = a.0.now in let γ : ℕ = n.cell in
    let p : Val = vptr b o in let Shuts = notes.Shuts 𝓛 R κ q b o ν in let K : Fml = noted R γ n.known in
    let y : (walk_of 𝓛 En hs c).Ghost = ((κs, qs, bounds, a, (p ∷ [], tt)), gh) in
    let Post : Val → SProp 𝓤 = (walk_of 𝓛 En hs c).post y in
    qed 𝓛 (((‵ (flft κ q) ⊛ ‵ (fsep (flft κs.1.0 qs.1.0) ftrue)) ⊛ ‵ (owns (types_at En.signature.params κs) a y.0.4)) ∷
    raw (fact 𝓤 _) ∷ raw (fact 𝓤 ((x : T.Denot) × (n.known ≡ Some x))) ∷ []) ∵
    move ! (2 ∷ []) $ heard ! ((x : T.Denot) × (n.known ≡ Some x)) (λ has. let x : T.Denot = has.0 in
    let r : S.Denot = record { marker = record {}; cell = γ; value = x } in
    let Told : Type 0 = (n ≡ n) × (γ ≡ γ) × (n.known ≡ Some x) in
    split ! $ split ! $ move ! (2 ∷ []) $ fsplit ! $ fsplit ! $ keep ! (1 ∷ 3 ∷ 4 ∷ []) $
    enter ! 𝓣.C 𝓣.Λ fn (p ∷ []) Post $ alloc_all ! (λ l. pass_all ! refl ((tt, tt), tt) $
    use2 𝓛 (later (‵ K ⊛ raw (all 𝓤 Shuts))) (notes.note_opens 𝓛 R κ q b o ν n) $ await ! tt $ split ! $
    use1 𝓛 (‵ K ⊛ ‵ K) (notes.noted_twice 𝓛 R γ n.known) $ split ! $
    -- [the one; the other; what shuts the note; T's token]
    move ! (2 ∷ []) $ use1 𝓛 (raw (Shuts n)) (all_e 𝓤 Shuts n) $ move ! (1 ∷ 0 ∷ []) $
    use2 𝓛 (later (‵ (notes.lent 𝓛 R κ q b o ν n) ⊛ ‵ (flft κ q))) (apply∗ 𝓤 (sem 𝓛 K) _) $ await ! tt $ split ! $
    feq_i ! (List Val) (p ∷ []) (p ∷ []) refl $ fjoin ! $ nothing ! $ move ! (1 ∷ 0 ∷ []) $ fjoin ! $
    -- [the note; its token; the other; T's token]
    move ! (2 ∷ []) $ rewrite ! 0 (λ (k : Option R.Denot). ‵ (noted R γ k)) has.1 refl $
    use1 𝓛 (‵ (S.own_val r (token ∷ []))) (witness_made 𝓛 R γ x) $
    move ! (2 ∷ 3 ∷ []) $ join ! $ sets ! (agg ! (no_more !)) refl (tt, tt) $
    sets ! (agg ! (and_then ! (get ! refl) (no_more !))) refl (tt, (tt, tt)) $
    use0 𝓛 (raw (fact 𝓤 Told)) (fact_i 𝓤 Told (emp 𝓤) (refl, refl, has.1)) $
    returns ! (look_at ! 0 refl) $ free_all ! refl $ keep ! (1 ∷ 3 ∷ 2 ∷ 0 ∷ []) $
    by ! (leaves 𝓛 En hs c y token r (n, tt) (tt, tt)))))
