-- What one more entry, or a second part, adds to the sums over a history.
--   scripts_played-more   one more entry adds its script to the scripts played
--   gifts_in-more         one more entry that is a change adds 1 to the gift count
--   gifts_in-append       the gift counts of a history in two parts add up
use Rattle.dg_rules.proofs.Common.{◌≡◌, ℕ, ◌+◌, List, [], ◌∷◌, ◌++◌, arith, ints, ◌+ℤ◌, accepted_script, scripts_played, change_count, gifts_in, Entry}

pub scripts_played-more : (H : List Entry) (e : Entry) (v : ℕ) →
    scripts_played (H ++ e ∷ []) v ≡ scripts_played H v +ℤ accepted_script e.request e.reply v
scripts_played-more [] e v = omega (arith, ints)
scripts_played-more (x ∷ H) e v = omega (arith, ints, scripts_played-more H e v)

pub gifts_in-more : (H : List Entry) (e : Entry) → gifts_in (H ++ e ∷ []) ≡ gifts_in H + change_count e.reply
gifts_in-more [] e = omega arith
gifts_in-more (x ∷ H) e = omega (arith, gifts_in-more H e)

pub gifts_in-append : (H L : List Entry) → gifts_in (H ++ L) ≡ gifts_in H + gifts_in L
gifts_in-append [] L = omega arith
gifts_in-append (x ∷ H) L = omega (arith, gifts_in-append H L)
