-- Of no cells there is nothing to own.
use Rattle.dg_log.proofs.Common.{◌≡◌, [], ◌∷◌, refl, a_type, Val, inst_fn, SProp, emp, ‵, raw, ◌⊛◌, ◌$◌, ◌∵◌, !, qed, by, keep, split, use0, use1, no_more, and_then, returns, enter, alloc_all, pass_all, free_all, look_at, get, sets, agg, tables, fact, fact_i, RattleType, owns, types_at, nothing, param, layouts, alive, Stays, walk_of, proved, leaves}
use Rattle.dg_log.specs.contracts.witnesses.Witnesses as witnesses
use Rattle.dg_log.proofs.Tokens.{token, witnesses_made}
use Rattle.dg_log.specs.contracts.witnesses.Witnesses.new.{ended, clauses}
use Rattle.dg_log.specs.contracts.witnesses.Witnesses.new.Key.{name as #self}
use Rattle.dg_log.proofs.witnesses.Witnesses.new.Statement.{statement}
use Rattle.dg_log.proofs.witnesses.Witnesses.new.Code as code

pub new_spec : {M : Type 1} → statement M
new_spec 𝓤 𝓛 𝓜 𝓡 wired T L =
    let H = 𝓛.H in let 𝓣 = tables 𝓤 H 𝓜 𝓡 𝓡.env in let R : RattleType = param 0 T in let En = ended T in
    let S : RattleType = witnesses.the_row R in
    let inst = layouts (a_type ∷ []) (T, tt) in let fn = inst_fn inst code.function in
    let c = clauses T 𝓛 𝓜.mem 𝓡.returns in
    let hs : Stays En.signature.params En.kept = tt in
    proved 𝓛 En hs c 𝓜 𝓡 tt (#self inst) fn (code.unfolded 𝓤 H 𝓜 𝓡 wired (T, tt))
    (λ κs. tt) (λ κs. tt) (λ κs qs bounds a gh are.
    let r : S.Denot = record { marker = record {}; items = [] } in let Told : Type 0 = r.items ≡ r.items in
    let y : (walk_of 𝓛 En hs c).Ghost = ((κs, qs, bounds, a, tt), gh) in
    let Post : Val → SProp 𝓤 = (walk_of 𝓛 En hs c).post y in
    qed 𝓛 ((raw (alive 𝓛 En.signature κs qs) ⊛ ‵ (owns (types_at En.signature.params κs) a y.0.4)) ∷
    raw ((c κs a).requires gh) ∷ []) ∵ split ! $ keep ! (0 ∷ []) $
    nothing ! $ use1 𝓛 (‵ (S.own_val r (token ∷ []))) (witnesses_made 𝓛 R []) $
    enter ! 𝓣.C 𝓣.Λ fn [] Post $ alloc_all ! (λ l. pass_all ! refl tt $
    sets ! (agg ! (no_more !)) refl (tt, tt) $
    sets ! (agg ! (and_then ! (get ! refl) (no_more !))) refl (tt, (tt, tt)) $
    use0 𝓛 (raw (fact 𝓤 Told)) (fact_i 𝓤 Told (emp 𝓤) refl) $ nothing ! $
    returns ! (look_at ! 0 refl) $ free_all ! refl $ keep ! (3 ∷ 0 ∷ 2 ∷ 1 ∷ []) $
    by ! (leaves 𝓛 En hs c y token r tt tt)))
