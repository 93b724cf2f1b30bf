-- The claim takes the roll's other half of the next tally.
use Rattle.dg_log.proofs.Common.{◌≡◌, ℕ, suc, ◌+◌, ◌<◌, List, [], ◌∷◌, length, arith, refl, named, Val, vptr, SProp, emp, Lft, Share, ftrue, flft, ‵, raw, ◌⊛◌, ◌$◌, ◌∵◌, !, qed, by, move, keep, split, join, fsplit, fsplit3, fjoin, fjoin3, use0, use1, feq_i, no_more, and_then, returns, enter, alloc_all, pass_all, free_all, look_at, get, sets, agg, tables, fact, fact_i, RattleType, owns, types_at, plain, nothing, heard, mut_vals, mut_Tells, Stays, walk_of, stay_ref, Goes-ref, proved, leaves, opens, closes, roll_owns, claim_owns}
use Rattle.dg_log.specs.contracts.roll.Roll as roll
use Rattle.dg_log.specs.contracts.roll.Claim as claim
use Rattle.dg_log.proofs.Tokens.{token}
use Rattle.dg_log.proofs.Rolls.{claim_made, enrolls}
use Rattle.dg_log.specs.contracts.roll.Roll.enroll.{ended, clauses}
use Rattle.dg_log.specs.contracts.roll.Roll.enroll.Key.{name as #self}
use Rattle.dg_log.proofs.roll.Roll.enroll.Statement.{statement}
use Rattle.dg_log.proofs.roll.Roll.enroll.Code as code

pub enroll_spec : {M : Type 1} → statement M
enroll_spec 𝓤 𝓛 𝓜 𝓡 wired =
    let H = 𝓛.H in let 𝓣 = tables 𝓤 H 𝓜 𝓡 𝓡.env in let En = ended in let S : RattleType = roll.the_row in
    let C : RattleType = claim.the_row in
    let fn = code.function in let c = clauses 𝓛 𝓜.mem 𝓡.returns in
    let hs : Stays En.signature.params En.kept = (stay_ref (0 ∷ []) tt (plain (λ _. S)), tt) in
    proved 𝓛 En hs c 𝓜 𝓡 (Goes-ref 𝓛 1 0 tt (plain (λ _. S)), tt) #self fn (code.unfolded 𝓤 H 𝓜 𝓡 wired)
    (λ κs. (mut_vals, tt)) (λ κs. (mut_Tells (named 0) κs.0 S, tt)) (λ κs qs bounds a gh are.
    let κ : Lft = κs.0 in let q : Share = qs.0 in let b : ℕ = a.0.ref_ptr.0 in let o : ℕ = a.0.ref_ptr.1 in
    let n = a.0.now in let names : List ℕ = n.names in let ts : List (ℕ × ℕ) = n.tallies in let k : ℕ = n.claimed in
    let p : Val = vptr b o in
    let n' : S.Denot = record { marker = n.marker; names = names; tallies = ts; claimed = suc k } in
    let r : C.Denot = record { marker = record {}; names = names; place = k; tally = (0, 0) } in
    let Told : Type 0 =
    (names ≡ names) × (ts ≡ ts) × (suc k ≡ k + 1) × (names ≡ names) × (k ≡ k) × (r.tally ≡ r.tally) in
    let y : (walk_of 𝓛 En hs c).Ghost = ((κs, qs, bounds, a, (p ∷ [], tt)), gh) in
    let Post : Val → SProp 𝓤 = (walk_of 𝓛 En hs c).post y in
    qed 𝓛 (((‵ (flft κ q) ⊛ ‵ ftrue) ⊛ ‵ (owns (types_at En.signature.params κs) a y.0.4)) ∷
    raw (fact 𝓤 (k < length names)) ∷ []) ∵ move ! (1 ∷ []) $ heard ! (k < length names) (λ below.
    split ! $ split ! $ move ! (2 ∷ []) $ fsplit ! $ fsplit3 ! $
    keep ! (1 ∷ 2 ∷ 4 ∷ []) $
    enter ! 𝓣.C 𝓣.Λ fn (p ∷ []) Post $ alloc_all ! (λ l. pass_all ! refl ((tt, tt), tt) $
    opens ! tt S b o (λ vs. move ! (1 ∷ []) $ fsplit ! $ move ! (1 ∷ []) $
    use1 𝓛 (‵ (roll_owns names ts (suc k)) ⊛ ‵ (claim_owns names k (0, 0))) (enrolls 𝓛 names ts k below) $ split ! $
    -- [the roll's; the claim's; the mark; the cell; ..]
    move ! (2 ∷ 0 ∷ []) $ fjoin ! $ move ! (2 ∷ 0 ∷ 3 ∷ 4 ∷ 5 ∷ []) $ closes ! tt S n' vs b o $
    move ! (3 ∷ []) $ use1 𝓛 (‵ (C.own_val r (token ∷ []))) (claim_made 𝓛 names k (0, 0)) $
    sets ! (agg ! (no_more !)) refl (tt, tt) $
    sets ! (agg ! (and_then ! (get ! refl) (no_more !))) refl (tt, (tt, tt)) $
    -- [the claim; the reference's two; its token]
    move ! (1 ∷ 2 ∷ []) $ feq_i ! (List Val) (p ∷ []) (p ∷ []) refl $ fjoin3 ! $ nothing ! $ move ! (1 ∷ 0 ∷ []) $ fjoin ! $
    nothing ! $ move ! (3 ∷ 0 ∷ []) $ join ! $
    use0 𝓛 (raw (fact 𝓤 Told)) (fact_i 𝓤 Told (emp 𝓤) (refl, refl, omega arith, refl, refl, refl)) $
    returns ! (look_at ! 0 refl) $ free_all ! refl $ keep ! (1 ∷ 2 ∷ 3 ∷ 0 ∷ []) $
    by ! (leaves 𝓛 En hs c y token r (n', tt) (tt, tt))))))
