-- Both halves of one tally are there: they agree, and both are set.
use Rattle.dg_log.proofs.Common.{◌≡◌, ℕ, ◌+◌, List, [], ◌∷◌, refl, sym, w32, named, Val, vunit, vptr, vint, SProp, emp, Lft, Share, ftrue, flft, ‵, raw, ◌⊛◌, later, given, ◌$◌, ◌∵◌, !, qed, by, move, keep, split, split3, join, fsplit, fsplit3, fjoin, fjoin3, learn, rewrite, use0, use2, await, feq_i, unit_lit, of_opd, returns, enter, alloc_all, pass_all, free_all, look_at, sets, tables, fact, fact_i, yes, RattleType, owns, types_at, plain, nothing, heard, u32, uint_vals, uint_Tells, mut_vals, mut_Tells, Stays, walk_of, stay_ref, stay_dropped, Goes-ref, Goes-dropped, proved, leaves, opens, closes, slice_get, slice_set, Some, roll_owns, claim_owns}
use Rattle.dg_log.specs.contracts.roll.Roll as roll
use Rattle.dg_log.specs.contracts.roll.Claim as claim
use Rattle.dg_log.proofs.Rolls.{signs}
use Rattle.dg_log.specs.contracts.roll.Roll.sign.{ended, clauses}
use Rattle.dg_log.specs.contracts.roll.Roll.sign.Key.{name as #self}
use Rattle.dg_log.proofs.roll.Roll.sign.Statement.{statement}
use Rattle.dg_log.proofs.roll.Roll.sign.Code as code

pub sign_spec : {M : Type 1} → statement M
sign_spec 𝓤 𝓛 𝓜 𝓡 wired =
    let H = 𝓛.H in let 𝓣 = tables 𝓤 H 𝓜 𝓡 𝓡.env in let En = ended in let S : RattleType = roll.the_row in
    let C : RattleType = claim.the_row in
    let fn = code.function in let c = clauses 𝓛 𝓜.mem 𝓡.returns in
    let hs : Stays En.signature.params En.kept = (
      stay_ref (0 ∷ []) tt (plain (λ _. S)),
      (
        stay_ref (1 ∷ []) tt (plain (λ _. C)),
        (stay_dropped (plain (λ _. u32)) yes, (stay_dropped (plain (λ _. u32)) yes, tt)),
      ),
    ) in
    let number = Goes-dropped 𝓛 2 (plain (λ _. u32)) yes (λ κs x f. refl) in
    proved 𝓛 En hs c 𝓜 𝓡
    (Goes-ref 𝓛 2 0 tt (plain (λ _. S)), (Goes-ref 𝓛 2 1 tt (plain (λ _. C)), (number, (number, tt))))
    #self fn (code.unfolded 𝓤 H 𝓜 𝓡 wired)
    (λ κs. (mut_vals, (mut_vals, (uint_vals w32, (uint_vals w32, tt)))))
    (λ κs. (mut_Tells (named 0) κs.0 S, (mut_Tells (named 1) κs.1.0 C, (uint_Tells w32, (uint_Tells w32, tt)))))
    (λ κs qs bounds a gh are.
    let κ : Lft = κs.0 in let q : Share = qs.0 in let b : ℕ = a.0.ref_ptr.0 in let o : ℕ = a.0.ref_ptr.1 in
    let κ' : Lft = κs.1.0 in let q' : Share = qs.1.0 in let b' : ℕ = a.1.0.ref_ptr.0 in let o' : ℕ = a.1.0.ref_ptr.1 in
    let n = a.0.now in let m = a.1.0.now in
    let names : List ℕ = n.names in let ts : List (ℕ × ℕ) = n.tallies in let k : ℕ = n.claimed in
    let i : ℕ = m.place in let x : ℕ × ℕ = m.tally in
    let found : ℕ = a.1.1.0 in let more : ℕ = a.1.1.1.0 in let x' : ℕ × ℕ = (found, x.1 + more) in
    let p : Val = vptr b o in let p' : Val = vptr b' o' in
    let n' : S.Denot = record { marker = n.marker; names = names; tallies = slice_set ts i x'; claimed = k } in
    let m' : C.Denot = record { marker = m.marker; names = m.names; place = i; tally = x' } in
    let Told : Type 0 =
    (slice_get ts i ≡ Some x) × (names ≡ names) × (n'.tallies ≡ n'.tallies) × (k ≡ k) ×
    (m.names ≡ m.names) × (i ≡ i) × (x' ≡ x') in
    let y : (walk_of 𝓛 En hs c).Ghost =
    ((κs, qs, bounds, a, (p ∷ [], (p' ∷ [], (uint_vals w32 found, (uint_vals w32 more, tt))))), gh) in
    let Post : Val → SProp 𝓤 = (walk_of 𝓛 En hs c).post y in
    qed 𝓛 (((‵ (flft κ q) ⊛ ‵ (flft κ' q') ⊛ ‵ ftrue) ⊛ ‵ (owns (types_at En.signature.params κs) a y.0.4)) ∷
    raw (fact 𝓤 (m.names ≡ names)) ∷ []) ∵ move ! (1 ∷ []) $ heard ! (m.names ≡ names) (λ same.
    split ! $ split3 ! $ move ! (3 ∷ []) $ fsplit ! $ fsplit3 ! $ move ! (3 ∷ []) $ fsplit ! $ fsplit3 ! $
    -- [the claim's reference: its value, two; the numbers; the roll's: its value, two; the tokens of the two lifetimes]
    keep ! (5 ∷ 6 ∷ 7 ∷ 1 ∷ 2 ∷ 8 ∷ []) $
    enter ! 𝓣.C 𝓣.Λ fn (p ∷ p' ∷ vint w32 found ∷ vint w32 more ∷ []) Post $
    alloc_all ! (λ l. pass_all ! refl
    ((tt, tt), ((tt, tt), ((tt, record { fits = are.1.1.0.1 }), ((tt, record { fits = are.1.1.1.0.1 }), tt)))) $
    opens ! tt S b o (λ vs. move ! (5 ∷ 6 ∷ 7 ∷ []) $ opens ! tt C b' o' (λ us.
    -- [the claim's cell, what it owns, three; the roll's cell, what it owns, three]
    move ! (1 ∷ []) $ fsplit ! $ move ! (7 ∷ []) $ fsplit ! $ move ! (1 ∷ 3 ∷ []) $
    -- [the roll; the claim; the roll's mark; the claim's mark; the claim's cell, three; the roll's cell, three]
    rewrite ! 1 (λ (ns : List ℕ). ‵ (claim_owns ns i x)) same refl $
    use2 𝓛 (later (given (slice_get ts i ≡ Some x) (‵ (roll_owns names n'.tallies k) ⊛ ‵ (claim_owns names i x'))))
    (signs 𝓛 names ts k i x x') $
    await ! tt $ learn ! (λ has. split ! $
    rewrite ! 1 (λ (ns : List ℕ). ‵ (claim_owns ns i x')) (sym same) refl $
    move ! (2 ∷ 0 ∷ []) $ fjoin ! $ move ! (2 ∷ 1 ∷ []) $ fjoin ! $
    move ! (2 ∷ 0 ∷ 3 ∷ 4 ∷ 5 ∷ []) $ closes ! tt C m' us b' o' $
    move ! (4 ∷ 3 ∷ 5 ∷ 6 ∷ 7 ∷ []) $ closes ! tt S n' vs b o $
    -- [the roll's reference and token; the claim's reference and token]
    sets ! (of_opd ! (unit_lit !)) refl (tt, tt) $
    feq_i ! (List Val) (p ∷ []) (p ∷ []) refl $ fjoin3 ! $ move ! (2 ∷ 3 ∷ []) $
    feq_i ! (List Val) (p' ∷ []) (p' ∷ []) refl $ fjoin3 ! $ nothing ! $ nothing ! $ fjoin ! $ nothing ! $ fjoin ! $
    move ! (1 ∷ 0 ∷ []) $ fjoin ! $ move ! (1 ∷ 0 ∷ []) $ fjoin ! $
    feq_i ! (List Val) (vunit ∷ []) (vunit ∷ []) refl $
    nothing ! $ move ! (4 ∷ 0 ∷ []) $ join ! $ move ! (3 ∷ 0 ∷ []) $ join ! $
    use0 𝓛 (raw (fact 𝓤 Told)) (fact_i 𝓤 Told (emp 𝓤) (has, refl, refl, refl, refl, refl, refl)) $
    returns ! (look_at ! 0 refl) $ free_all ! refl $ keep ! (1 ∷ 3 ∷ 2 ∷ 0 ∷ []) $
    by ! (leaves 𝓛 En hs c y vunit tt (n', (m', (tt, (tt, tt)))) (tt, (tt, (tt, (tt, tt)))))))))))
