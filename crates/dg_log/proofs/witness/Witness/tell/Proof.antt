-- What the token knows can be had twice, so the note is shut with a copy of it.
use Rattle.dg_log.proofs.Common.{◌≡◌, ℕ, List, [], ◌∷◌, refl, sym, a_type, named, Val, vunit, vptr, inst_fn, SProp, emp, apply∗, all, all_e, Lft, Share, Fml, ftrue, fsep, flft, sem, ‵, raw, ◌⊛◌, later, ◌$◌, ◌∵◌, !, qed, by, move, keep, drop, split, split3, join, fsplit, fsplit3, fjoin, use0, use1, use2, await, rewrite, feq_i, of_opd, unit_lit, returns, enter, alloc_all, pass_all, free_all, look_at, sets, tables, fact, fact_i, yes, RattleType, owns, types_at, plain, nothing, heard, unhide, param, layouts, RefOf, shr_vals, shr_Tells, mut_vals, mut_Tells, Stays, walk_of, stay_dropped, Goes-dropped, stay_ref, Goes-ref, Some, proved, leaves, noted}
use Rattle.once_cell.proofs.Notes as notes
use Rattle.dg_log.specs.contracts.witness.Witness as witness
use Rattle.dg_log.specs.contracts.witness.Witness.tell.{ended, clauses}
use Rattle.dg_log.specs.contracts.witness.Witness.tell.Key.{name as #self}
use Rattle.dg_log.proofs.witness.Witness.tell.Statement.{statement}
use Rattle.dg_log.proofs.witness.Witness.tell.Code as code

pub tell_spec : {M : Type 1} → statement M
tell_spec 𝓤 𝓛 𝓜 𝓡 wired T L =
    let H = 𝓛.H in let 𝓣 = tables 𝓤 H 𝓜 𝓡 𝓡.env in let R : RattleType = param 0 T in let En = ended T in
    let S : RattleType = witness.the_row R in let N : RattleType = notes.Note 𝓛 R in
    let inst = layouts (a_type ∷ []) (T, tt) in let fn = inst_fn inst code.function in
    let c = clauses T 𝓛 𝓜.mem 𝓡.returns in
    let self = RefOf (0 ∷ []) tt (plain (λ _. S)) (λ _. tt) in
    let hs : Stays En.signature.params En.kept = (stay_dropped self yes, (stay_ref (1 ∷ []) tt (plain (λ _. N)), tt)) in
    proved 𝓛 En hs c 𝓜 𝓡 (Goes-dropped 𝓛 3 self yes (λ κs x f. refl), (Goes-ref 𝓛 3 1 tt (plain (λ _. N)), tt))
    (#self inst) fn (code.unfolded 𝓤 H 𝓜 𝓡 wired (T, tt))
    (λ κs. (shr_vals, (mut_vals, tt))) (λ κs. (shr_Tells (named 0) κs.0 S, (mut_Tells (named 1) κs.1.0 N, tt)))
    (λ κs qs bounds a gh are.
    let κ : Lft = κs.1.0 in let q : Share = qs.1.0 in let m = a.1.0 in let b : ℕ = m.ref_ptr.0 in
    let o : ℕ = m.ref_ptr.1 in let ν : ℕ = m.ghost_name in let γ : ℕ = m.now.cell in
    let x : T.Denot = a.0.now.value in let n : N.Denot = record { marker = m.now.marker; cell = γ; known = Some x } in
    let p : Val = vptr a.0.ref_ptr.0 a.0.ref_ptr.1 in let p' : Val = vptr b o in
    let Shuts = notes.Shuts 𝓛 R κ q b o ν in let K : Fml = noted R γ (Some x) in
    let y : (walk_of 𝓛 En hs c).Ghost = ((κs, qs, bounds, a, (p ∷ [], (p' ∷ [], tt))), gh) in
    let Post : Val → SProp 𝓤 = (walk_of 𝓛 En hs c).post y in let Told : Type 0 = (γ ≡ γ) × (n.known ≡ n.known) in
    qed 𝓛 (((‵ (flft κs.0 qs.0) ⊛ ‵ (flft κ q) ⊛ ‵ (fsep (flft κs.1.1.0 qs.1.1.0) ftrue)) ⊛
    ‵ (owns (types_at En.signature.params κs) a y.0.4)) ∷ raw (fact 𝓤 _) ∷ raw (fact 𝓤 (γ ≡ a.0.now.cell)) ∷ []) ∵
    move ! (2 ∷ []) $ heard ! (γ ≡ a.0.now.cell) (λ same. split ! $ split3 ! $ move ! (3 ∷ []) $ fsplit3 ! $
    fsplit ! $ move ! (2 ∷ []) $ fsplit ! $ keep ! (3 ∷ 1 ∷ 5 ∷ 6 ∷ 7 ∷ []) $
    unhide ! $ fsplit ! $ drop ! $ rewrite ! 0 (λ (k : ℕ). ‵ (noted R k (Some x))) (sym same) refl $
    -- [what the token knows; the note; the tokens of the three lifetimes]
    enter ! 𝓣.C 𝓣.Λ fn (p ∷ p' ∷ []) Post $ alloc_all ! (λ l. pass_all ! refl ((tt, tt), ((tt, tt), tt)) $
    move ! (1 ∷ 3 ∷ []) $ use2 𝓛 (later (‵ (noted R γ m.now.known) ⊛ raw (all 𝓤 Shuts)))
    (notes.note_opens 𝓛 R κ q b o ν m.now) $ await ! tt $ split ! $ drop ! $
    use1 𝓛 (raw (Shuts n)) (all_e 𝓤 Shuts n) $ move ! (1 ∷ 0 ∷ []) $
    use2 𝓛 (later (‵ (notes.lent 𝓛 R κ q b o ν n) ⊛ ‵ (flft κ q))) (apply∗ 𝓤 (sem 𝓛 K) _) $ await ! tt $ split ! $
    feq_i ! (List Val) (p' ∷ []) (p' ∷ []) refl $ fjoin ! $ nothing ! $ move ! (1 ∷ 0 ∷ []) $ fjoin ! $
    nothing ! $ fjoin ! $ move ! (1 ∷ 3 ∷ []) $ join ! $ move ! (2 ∷ 0 ∷ []) $ join ! $
    sets ! (of_opd ! (unit_lit !)) refl (tt, tt) $ feq_i ! (List Val) (vunit ∷ []) (vunit ∷ []) refl $
    use0 𝓛 (raw (fact 𝓤 Told)) (fact_i 𝓤 Told (emp 𝓤) (refl, refl)) $
    returns ! (look_at ! 0 refl) $ free_all ! refl $ keep ! (2 ∷ 3 ∷ 1 ∷ 0 ∷ []) $
    by ! (leaves 𝓛 En hs c y vunit tt (tt, (n, tt)) (tt, (tt, tt))))))
