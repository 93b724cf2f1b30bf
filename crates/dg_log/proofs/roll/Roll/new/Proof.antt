-- New tallies, of which the roll has both halves.
use Rattle.dg_log.proofs.Common.{◌≡◌, ℕ, List, [], ◌∷◌, length, refl, Val, SProp, emp, ‵, raw, ◌⊛◌, later, some, given, ◌$◌, ◌∵◌, !, qed, by, keep, split, use0, use1, await, pick, learn, no_more, and_then, returns, enter, alloc_all, pass_all, free_all, look_at, get, sets, agg, tables, fact, fact_i, RattleType, owns, types_at, nothing, alive, Stays, walk_of, proved, leaves, IsBlankRoll, roll_owns}
use Rattle.dg_log.specs.contracts.roll.Roll as roll
use Rattle.dg_log.proofs.Tokens.{token}
use Rattle.dg_log.proofs.Rolls.{roll_made, tallies_made, zeros}
use Rattle.dg_log.specs.contracts.roll.Roll.new.{ended, clauses}
use Rattle.dg_log.specs.contracts.roll.Roll.new.Key.{name as #self}
use Rattle.dg_log.proofs.roll.Roll.new.Statement.{statement}
use Rattle.dg_log.proofs.roll.Roll.new.Code as code

pub new_spec : {M : Type 1} → statement M
new_spec 𝓤 𝓛 𝓜 𝓡 wired =
    let H = 𝓛.H in let 𝓣 = tables 𝓤 H 𝓜 𝓡 𝓡.env in let En = ended in let S : RattleType = roll.the_row in
    let fn = code.function in let c = clauses 𝓛 𝓜.mem 𝓡.returns in
    let hs : Stays En.signature.params En.kept = tt in
    proved 𝓛 En hs c 𝓜 𝓡 tt #self fn (code.unfolded 𝓤 H 𝓜 𝓡 wired)
    (λ κs. tt) (λ κs. tt) (λ κs qs bounds a gh are.
    let y : (walk_of 𝓛 En hs c).Ghost = ((κs, qs, bounds, a, tt), gh) in
    let Post : Val → SProp 𝓤 = (walk_of 𝓛 En hs c).post y in
    qed 𝓛 ((raw (alive 𝓛 En.signature κs qs) ⊛ ‵ (owns (types_at En.signature.params κs) a y.0.4)) ∷
    raw ((c κs a).requires gh) ∷ []) ∵ split ! $ keep ! (0 ∷ []) $
    enter ! 𝓣.C 𝓣.Λ fn [] Post $ alloc_all ! (λ l. pass_all ! refl tt $
    use0 𝓛 (later (some (λ (names : List ℕ). given (length names ≡ 64) (‵ (roll_owns names (zeros names) 0)))))
    (tallies_made 𝓛 64) $ await ! tt $ pick ! (λ names. learn ! (λ seats.
    let r : S.Denot = record { marker = record {}; names = names; tallies = zeros names; claimed = 0 } in
    let Told : Type 0 = IsBlankRoll names (zeros names) 0 in
    use1 𝓛 (‵ (S.own_val r (token ∷ []))) (roll_made 𝓛 names (zeros names) 0) $
    sets ! (agg ! (no_more !)) refl (tt, tt) $
    sets ! (agg ! (and_then ! (get ! refl) (no_more !))) refl (tt, (tt, tt)) $
    use0 𝓛 (raw (fact 𝓤 Told))
    (fact_i 𝓤 Told (emp 𝓤) (record { seats = seats; zeros = refl; unclaimed = refl })) $ nothing ! $
    returns ! (look_at ! 0 refl) $ free_all ! refl $ keep ! (3 ∷ 0 ∷ 2 ∷ 1 ∷ []) $
    by ! (leaves 𝓛 En hs c y token r tt tt)))))
