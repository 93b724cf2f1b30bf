-- `at` copies what the reference holds, and takes one note out of the many.
use Rattle.dg_log.proofs.Common.{◌≡◌, ℕ, ◌<◌, List, [], ◌∷◌, length, map, refl, w32, a_type, named, Val, vptr, vint, inst_fn, SProp, emp, ‵, raw, ◌⊛◌, ◌$◌, ◌∵◌, !, qed, by, move, keep, drop, use0, use1, split, fsplit, fjoin, no_more, and_then, returns, enter, alloc_all, pass_all, free_all, look_at, get, sets, agg, tables, fact, fact_i, yes, RattleType, owns, types_at, plain, nothing, heard, unhide, param, layouts, RefOf, u32, uint_vals, uint_Tells, shr_vals, shr_Tells, alive, Stays, stay_dropped, walk_of, Goes-dropped, slice_get, Some, proved, leaves, noted}
use Rattle.dg_log.specs.contracts.witnesses.Witnesses as witnesses
use Rattle.dg_log.specs.contracts.witness.Witness as witness
use Rattle.dg_log.proofs.AllNoted.{all_at, item_at, part_at}
use Rattle.dg_log.proofs.Tokens.{token, witness_made}
use Rattle.dg_log.specs.contracts.witnesses.Witnesses.at.{ended, clauses}
use Rattle.dg_log.specs.contracts.witnesses.Witnesses.at.Key.{name as #self}
use Rattle.dg_log.proofs.witnesses.Witnesses.at.Statement.{statement}
use Rattle.dg_log.proofs.witnesses.Witnesses.at.Code as code

pub at_spec : {M : Type 1} → statement M
at_spec 𝓤 𝓛 𝓜 𝓡 wired T L =
    let H = 𝓛.H in let 𝓣 = tables 𝓤 H 𝓜 𝓡 𝓡.env in let R : RattleType = param 0 T in let En = ended T in
    let S : RattleType = witnesses.the_row R in let K : RattleType = witness.the_row R in
    let inst = layouts (a_type ∷ []) (T, tt) in let fn = inst_fn inst code.function in
    let c = clauses T 𝓛 𝓜.mem 𝓡.returns in
    let self = RefOf (0 ∷ []) tt (plain (λ _. S)) (λ _. tt) in
    let hs : Stays En.signature.params En.kept = (stay_dropped self yes, (stay_dropped (plain (λ _. u32)) yes, tt)) in
    let number = Goes-dropped 𝓛 2 (plain (λ _. u32)) yes (λ κs x f. refl) in
    proved 𝓛 En hs c 𝓜 𝓡 (Goes-dropped 𝓛 2 self yes (λ κs x f. refl), (number, tt))
    (#self inst) fn (code.unfolded 𝓤 H 𝓜 𝓡 wired (T, tt))
    (λ κs. (shr_vals, (uint_vals w32, tt))) (λ κs. (shr_Tells (named 0) κs.0 S, (uint_Tells w32, tt)))
    (λ κs qs bounds a gh are.
    let p : Val = vptr a.0.ref_ptr.0 a.0.ref_ptr.1 in let items : List (ℕ × ℕ × R.Denot) = a.0.now.items in
    let i : ℕ = a.1.0 in
    let y : (walk_of 𝓛 En hs c).Ghost = ((κs, qs, bounds, a, (p ∷ [], (uint_vals w32 i, tt))), gh) in
    let Post : Val → SProp 𝓤 = (walk_of 𝓛 En hs c).post y in
    qed 𝓛 ((raw (alive 𝓛 En.signature κs qs) ⊛ ‵ (owns (types_at En.signature.params κs) a y.0.4)) ∷ raw (fact 𝓤 _) ∷
    raw (fact 𝓤 (i < length items)) ∷ []) ∵
    keep ! (2 ∷ 0 ∷ []) $ heard ! (i < length items) (λ low. let found = item_at 𝓛 R items i low in
    let x : ℕ × ℕ × R.Denot = found.0 in
    let r : K.Denot = record { marker = record {}; cell = x.1; value = x.2 } in
    let Told : Type 0 = (slice_get (map (λ (z : ℕ × ℕ × R.Denot). z.1) items) i ≡ Some x.1) ×
    (slice_get (map (λ (z : ℕ × ℕ × R.Denot). z.2) items) i ≡ Some x.2) in
    split ! $ move ! (1 ∷ []) $ fsplit ! $ fsplit ! $ keep ! (1 ∷ 3 ∷ []) $ unhide ! $ fsplit ! $ drop ! $
    use1 𝓛 (‵ (noted R x.1 (Some x.2))) (all_at 𝓛 R items i x found.1) $
    use1 𝓛 (‵ (K.own_val r (token ∷ []))) (witness_made 𝓛 R x.1 x.2) $
    enter ! 𝓣.C 𝓣.Λ fn (p ∷ vint w32 i ∷ []) Post $
    alloc_all ! (λ l. pass_all ! refl ((tt, tt), ((tt, record { fits = are.1.0.1 }), tt)) $
    sets ! (agg ! (no_more !)) refl (tt, tt) $
    sets ! (agg ! (and_then ! (get ! refl) (no_more !))) refl (tt, (tt, tt)) $
    use0 𝓛 (raw (fact 𝓤 Told)) (fact_i 𝓤 Told (emp 𝓤)
    (part_at 𝓛 R (λ z. z.1) items i x found.1, part_at 𝓛 R (λ z. z.2) items i x found.1)) $
    nothing ! $ nothing ! $ fjoin ! $ nothing ! $ fjoin ! $
    returns ! (look_at ! 0 refl) $ free_all ! refl $ keep ! (3 ∷ 0 ∷ 2 ∷ 1 ∷ []) $
    by ! (leaves 𝓛 En hs c y token r (tt, (tt, tt)) (tt, (tt, tt))))))
