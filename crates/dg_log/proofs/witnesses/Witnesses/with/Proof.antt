-- `with` copies what both references hold, and joins the one note to the many.
use Rattle.dg_log.proofs.Common.{◌≡◌, ℕ, List, [], ◌∷◌, ◌++◌, refl, w32, a_type, named, Val, vptr, vint, inst_fn, SProp, emp, ‵, raw, ◌⊛◌, ◌$◌, ◌∵◌, !, qed, by, move, keep, drop, use0, use1, use2, split, fsplit, fsplit3, fjoin, no_more, and_then, returns, enter, alloc_all, pass_all, free_all, look_at, get, sets, agg, tables, fact, fact_i, yes, RattleType, owns, types_at, plain, nothing, unhide, param, layouts, RefOf, u32, uint_vals, uint_Tells, shr_vals, shr_Tells, alive, Stays, stay_dropped, walk_of, Goes-dropped, proved, leaves, noted_cells}
use Rattle.dg_log.specs.contracts.witnesses.Witnesses as witnesses
use Rattle.dg_log.specs.contracts.witness.Witness as witness
use Rattle.dg_log.proofs.AllNoted.{all_more}
use Rattle.dg_log.proofs.Tokens.{token, witnesses_made}
use Rattle.dg_log.specs.contracts.witnesses.Witnesses.with.{ended, clauses}
use Rattle.dg_log.specs.contracts.witnesses.Witnesses.with.Key.{name as #self}
use Rattle.dg_log.proofs.witnesses.Witnesses.with.Statement.{statement}
use Rattle.dg_log.proofs.witnesses.Witnesses.with.Code as code

pub with_spec : {M : Type 1} → statement M
with_spec 𝓤 𝓛 𝓜 𝓡 wired T L =
    let H = 𝓛.H in let 𝓣 = tables 𝓤 H 𝓜 𝓡 𝓡.env in let R : RattleType = param 0 T in let En = ended T in
    let S : RattleType = witnesses.the_row R in let K : RattleType = witness.the_row R in
    let inst = layouts (a_type ∷ []) (T, tt) in let fn = inst_fn inst code.function in
    let c = clauses T 𝓛 𝓜.mem 𝓡.returns in
    let self = RefOf (0 ∷ []) tt (plain (λ _. S)) (λ _. tt) in let one = RefOf (1 ∷ []) tt (plain (λ _. K)) (λ _. tt) in
    let hs : Stays En.signature.params En.kept =
    (stay_dropped self yes, (stay_dropped (plain (λ _. u32)) yes, (stay_dropped one yes, tt))) in
    let number = Goes-dropped 𝓛 3 (plain (λ _. u32)) yes (λ κs x f. refl) in
    proved 𝓛 En hs c 𝓜 𝓡
    (Goes-dropped 𝓛 3 self yes (λ κs x f. refl), (number, (Goes-dropped 𝓛 3 one yes (λ κs x f. refl), tt)))
    (#self inst) fn (code.unfolded 𝓤 H 𝓜 𝓡 wired (T, tt))
    (λ κs. (shr_vals, (uint_vals w32, (shr_vals, tt))))
    (λ κs. (shr_Tells (named 0) κs.0 S, (uint_Tells w32, (shr_Tells (named 1) κs.1.0 K, tt)))) (λ κs qs bounds a gh are.
    let p : Val = vptr a.0.ref_ptr.0 a.0.ref_ptr.1 in let n : ℕ = a.1.0 in
    let p' : Val = vptr a.1.1.0.ref_ptr.0 a.1.1.0.ref_ptr.1 in
    let items : List (ℕ × ℕ × R.Denot) = a.0.now.items in let γ : ℕ = a.1.1.0.now.cell in
    let x : R.Denot = a.1.1.0.now.value in
    let more : List (ℕ × ℕ × R.Denot) = items ++ (n, γ, x) ∷ [] in
    let r : S.Denot = record { marker = record {}; items = more } in let Told : Type 0 = more ≡ more in
    let y : (walk_of 𝓛 En hs c).Ghost = ((κs, qs, bounds, a, (p ∷ [], (uint_vals w32 n, (p' ∷ [], tt)))), gh) in
    let Post : Val → SProp 𝓤 = (walk_of 𝓛 En hs c).post y in
    qed 𝓛 ((raw (alive 𝓛 En.signature κs qs) ⊛ ‵ (owns (types_at En.signature.params κs) a y.0.4)) ∷
    raw ((c κs a).requires gh) ∷ []) ∵ split ! $ keep ! (1 ∷ 0 ∷ []) $
    fsplit3 ! $ move ! (2 ∷ []) $ fsplit ! $ fsplit ! $ move ! (3 ∷ []) $ fsplit ! $ keep ! (1 ∷ 3 ∷ 6 ∷ []) $
    -- [what self's `&` holds; what the other's holds; the tokens]
    unhide ! $ fsplit ! $ drop ! $ move ! (1 ∷ []) $ unhide ! $ fsplit ! $ drop ! $ move ! (1 ∷ 0 ∷ []) $
    use2 𝓛 (‵ (noted_cells R more)) (all_more 𝓛 R items n γ x) $
    use1 𝓛 (‵ (S.own_val r (token ∷ []))) (witnesses_made 𝓛 R more) $
    enter ! 𝓣.C 𝓣.Λ fn (p ∷ vint w32 n ∷ p' ∷ []) Post $
    alloc_all ! (λ l. pass_all ! refl ((tt, tt), ((tt, record { fits = are.1.0.1 }), ((tt, tt), tt))) $
    sets ! (agg ! (no_more !)) refl (tt, tt) $
    sets ! (agg ! (and_then ! (get ! refl) (no_more !))) refl (tt, (tt, tt)) $
    use0 𝓛 (raw (fact 𝓤 Told)) (fact_i 𝓤 Told (emp 𝓤) refl) $
    nothing ! $ nothing ! $ fjoin ! $ nothing ! $ fjoin ! $ nothing ! $ fjoin ! $
    returns ! (look_at ! 0 refl) $ free_all ! refl $ keep ! (3 ∷ 0 ∷ 2 ∷ 1 ∷ []) $
    by ! (leaves 𝓛 En hs c y token r (tt, (tt, (tt, tt))) (tt, (tt, (tt, tt))))))
