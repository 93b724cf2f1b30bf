-- What a roll and a claim own. A tally is two numbers with two halves, like a split stick: while both halves are there they
-- agree, and nobody changes the numbers but with both. A roll has one half of each tally, and the other too until a claim
-- takes it.
--   coded_tally                  == a tally as a ghost value
--   first_halves names ts        == one half of each of the tallies ts, which have these names
--   unclaimed_halves names n     == the other half of each tally past the first n, whose numbers are 0
--   roll_owns names ts n         == what a roll of the tallies ts owns after n claims
--   claim_owns names i t         == the other half of the tally t, which has the name at place i
--   IsBlankRoll names ts n       == there is a tally of two zeros for each seat that a table may have, and no claim yet
use Rattle.std.specs.Prelude.{◌≡◌, ℕ, zero, suc, List, [], ◌∷◌, length, map}
use base.Stored.{Coded, coded_ℕ, coded×}
use base.Fml.{Fml, ftrue, ffalse, fsep, fobs, fauth}
use Rattle.dg_rules.specs.declared.entry.TheConstants.{MAX_SEATS}

abbrev pub coded_tally : Coded (ℕ × ℕ)
coded_tally = coded× coded_ℕ coded_ℕ

abbrev pub first_halves : List ℕ → List (ℕ × ℕ) → Fml
first_halves [] [] = ftrue
first_halves (name ∷ names) (t ∷ ts) = fsep (fauth name (coded_tally.code t)) (first_halves names ts)
first_halves [] (t ∷ ts) = ffalse
first_halves (name ∷ names) [] = ffalse

abbrev pub unclaimed_halves : List ℕ → ℕ → Fml
unclaimed_halves [] n = ftrue
unclaimed_halves (name ∷ names) zero = fsep (fobs name (coded_tally.code (0, 0))) (unclaimed_halves names zero)
unclaimed_halves (name ∷ names) (suc n) = unclaimed_halves names n

abbrev pub roll_owns : List ℕ → List (ℕ × ℕ) → ℕ → Fml
roll_owns names ts n = fsep (first_halves names ts) (unclaimed_halves names n)

abbrev pub claim_owns : List ℕ → ℕ → ℕ × ℕ → Fml
claim_owns [] i t = ffalse
claim_owns (name ∷ names) zero t = fobs name (coded_tally.code t)
claim_owns (name ∷ names) (suc i) t = claim_owns names i t

pub record IsBlankRoll (names : List ℕ) (ts : List (ℕ × ℕ)) (n : ℕ) : Type 0 where
  pub seats : length names ≡ MAX_SEATS
  pub zeros : ts ≡ map (λ _. (0, 0)) names
  pub unclaimed : n ≡ 0
