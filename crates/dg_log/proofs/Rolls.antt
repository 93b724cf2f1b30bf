-- The halves of tallies, their ghost steps, and a `Roll` and a `Claim` as values. Assumes `Logic`.
use Rattle.dg_log.proofs.Common.{◌≡◌, ℕ, zero, suc, ◌<◌, List, [], ◌∷◌, length, map, arith, refl, ap, sym, Ura, vstruct, vnil, SProp, ent, sep, ex, guard, emp, never_e, Logic, sem, ‵, ◌⊛◌, later, some, given, ◌$◌, ◌∵◌, !, qed, by, move, keep, use0, use1, use2, split, fsplit, fjoin, updating, await, now, done, pick, learn, show, check, nothing, Keyless, makes_shadow, Struct, shape, slice_get, slice_set, Some, name_new, name_agree, name_set, coded_tally, first_halves, unclaimed_halves, roll_owns, claim_owns}
use Rattle.dg_log.specs.contracts.roll.Roll as roll
use Rattle.dg_log.specs.contracts.roll.Claim as claim
use Rattle.dg_log.proofs.Tokens.{token}

abbrev pub zeros : List ℕ → List (ℕ × ℕ)
zeros names = map (λ _. (0, 0)) names

first_halves_keyless : (names : List ℕ) (ts : List (ℕ × ℕ)) → Keyless (first_halves names ts)
first_halves_keyless [] [] = tt
first_halves_keyless (name ∷ names) (t ∷ ts) = (tt, first_halves_keyless names ts)
first_halves_keyless [] (t ∷ ts) = tt
first_halves_keyless (name ∷ names) [] = tt

unclaimed_halves_keyless : (names : List ℕ) (n : ℕ) → Keyless (unclaimed_halves names n)
unclaimed_halves_keyless [] n = tt
unclaimed_halves_keyless (name ∷ names) zero = (tt, unclaimed_halves_keyless names zero)
unclaimed_halves_keyless (name ∷ names) (suc n) = unclaimed_halves_keyless names n

pub roll_keyless : (names : List ℕ) (ts : List (ℕ × ℕ)) (n : ℕ) → Keyless (roll_owns names ts n)
roll_keyless names ts n = (first_halves_keyless names ts, unclaimed_halves_keyless names n)

pub claim_keyless : (names : List ℕ) (i : ℕ) (t : ℕ × ℕ) → Keyless (claim_owns names i t)
claim_keyless [] i t = tt
claim_keyless (name ∷ names) zero t = tt
claim_keyless (name ∷ names) (suc i) t = claim_keyless names i t

module _ {M : Type 1} {𝓤 : Ura M} (𝓛 : Logic 𝓤) where
  pub roll_made : (names : List ℕ) (ts : List (ℕ × ℕ)) (n : ℕ)
      → ent 𝓤 (sem 𝓛 (roll_owns names ts n)) (sem 𝓛 (roll.the_row.own_val (record {
        marker = record {};
        names = names;
        tallies = ts;
        claimed = n;
      }) (token ∷ [])))
  roll_made names ts n = let F = (Struct (shape roll.the_type)).own_val (tt, tt) (token ∷ []) in
      qed 𝓛 (‵ (roll_owns names ts n) ∷ []) ∵
      use0 𝓛 (‵ F) (makes_shadow 𝓛 F (λ vss. (tt, ((λ uss. (tt, tt)), tt)))
      ((vstruct vnil ∷ [], tt), (refl, ((tt, (refl, tt)), tt)))) $ done !

  pub claim_made : (names : List ℕ) (i : ℕ) (t : ℕ × ℕ)
      → ent 𝓤 (sem 𝓛 (claim_owns names i t)) (sem 𝓛 (claim.the_row.own_val (record {
        marker = record {};
        names = names;
        place = i;
        tally = t;
      }) (token ∷ [])))
  claim_made names i t = let F = (Struct (shape claim.the_type)).own_val (tt, tt) (token ∷ []) in
      qed 𝓛 (‵ (claim_owns names i t) ∷ []) ∵
      use0 𝓛 (‵ F) (makes_shadow 𝓛 F (λ vss. (tt, ((λ uss. (tt, tt)), tt)))
      ((vstruct vnil ∷ [], tt), (refl, ((tt, (refl, tt)), tt)))) $ done !

  -- new tallies, each with a name of its own
  abbrev BlankRoll : ℕ → List ℕ → SProp 𝓤
  BlankRoll n names = guard 𝓤 (length names ≡ n) (sem 𝓛 (roll_owns names (zeros names) 0))

  pub tallies_made : (n : ℕ) → ent 𝓤 (emp 𝓤) (𝓛.H.⇛ (ex 𝓤 (BlankRoll n)))
  tallies_made zero =
      qed 𝓛 [] ∵ updating ! $ now ! $ show ! (BlankRoll zero) [] $ check ! refl $ nothing ! $ nothing ! $ fjoin ! $ done !
  tallies_made (suc n) =
      qed 𝓛 [] ∵ updating ! $ name_new ! tt (coded_tally.code (0, 0)) (λ name.
      use0 𝓛 (later (some (λ (names : List ℕ). given (length names ≡ n) (‵ (roll_owns names (zeros names) 0)))))
      (tallies_made n) $ await ! tt $ pick ! (λ names. learn ! (λ long.
      now ! $ show ! (BlankRoll (suc n)) (name ∷ names) $ check ! (ap suc long) $ fsplit ! $
      move ! (3 ∷ 0 ∷ []) $ fjoin ! $ move ! (2 ∷ 1 ∷ []) $ fjoin ! $ move ! (1 ∷ 0 ∷ []) $ fjoin ! $ done !)))

  claimed_next : (names : List ℕ) (n : ℕ) → n < length names
      → ent 𝓤 (sem 𝓛 (unclaimed_halves names n))
      (sep 𝓤 (sem 𝓛 (unclaimed_halves names (suc n))) (sem 𝓛 (claim_owns names n (0, 0))))
  claimed_next [] n below = absurd (omega (arith, below))
  claimed_next (name ∷ names) zero below =
      qed 𝓛 (‵ (unclaimed_halves (name ∷ names) zero) ∷ []) ∵ fsplit ! $ move ! (1 ∷ 0 ∷ []) $ done !
  claimed_next (name ∷ names) (suc n) below = claimed_next names n (omega (arith, below))

  -- the other half of the next tally
  pub enrolls : (names : List ℕ) (ts : List (ℕ × ℕ)) (n : ℕ) → n < length names
      → ent 𝓤 (sem 𝓛 (roll_owns names ts n))
      (sep 𝓤 (sem 𝓛 (roll_owns names ts (suc n))) (sem 𝓛 (claim_owns names n (0, 0))))
  enrolls names ts n below =
      qed 𝓛 (‵ (roll_owns names ts n) ∷ []) ∵ fsplit ! $ move ! (1 ∷ []) $
      use1 𝓛 (‵ (unclaimed_halves names (suc n)) ⊛ ‵ (claim_owns names n (0, 0))) (claimed_next names n below) $ split ! $
      move ! (2 ∷ 0 ∷ []) $ fjoin ! $ done !

  -- both halves of one tally
  abbrev Signed : List ℕ → List (ℕ × ℕ) → ℕ → ℕ × ℕ → ℕ × ℕ → SProp 𝓤
  Signed names ts i t next = guard 𝓤 (slice_get ts i ≡ Some t)
      (sep 𝓤 (sem 𝓛 (first_halves names (slice_set ts i next))) (sem 𝓛 (claim_owns names i next)))

  halves_set : (names : List ℕ) (ts : List (ℕ × ℕ)) (i : ℕ) (t next : ℕ × ℕ)
      → ent 𝓤 (sep 𝓤 (sem 𝓛 (first_halves names ts)) (sem 𝓛 (claim_owns names i t)))
      (𝓛.H.⇛ (Signed names ts i t next))
  halves_set [] ts i t next =
      qed 𝓛 (‵ (first_halves [] ts) ∷ ‵ (claim_owns [] i t) ∷ []) ∵ keep ! (1 ∷ []) $ by ! (never_e 𝓤 _)
  halves_set (name ∷ names) [] i t next =
      qed 𝓛 (‵ (first_halves (name ∷ names) []) ∷ ‵ (claim_owns (name ∷ names) i t) ∷ []) ∵
      keep ! (0 ∷ []) $ by ! (never_e 𝓤 _)
  halves_set (name ∷ names) (x ∷ ts) zero t next =
      qed 𝓛 (‵ (first_halves (name ∷ names) (x ∷ ts)) ∷ ‵ (claim_owns (name ∷ names) zero t) ∷ []) ∵ updating ! $
      fsplit ! $ move ! (2 ∷ 0 ∷ []) $ name_agree ! coded_tally (λ one.
      name_set ! tt (coded_tally.code next) $ now ! $ check ! (ap Some (sym one)) $
      move ! (1 ∷ 2 ∷ []) $ fjoin ! $ done !)
  halves_set (name ∷ names) (x ∷ ts) (suc i) t next =
      qed 𝓛 (‵ (first_halves (name ∷ names) (x ∷ ts)) ∷ ‵ (claim_owns (name ∷ names) (suc i) t) ∷ []) ∵ updating ! $
      fsplit ! $ move ! (1 ∷ 2 ∷ []) $
      use2 𝓛 (later (given (slice_get ts i ≡ Some t)
      (‵ (first_halves names (slice_set ts i next)) ⊛ ‵ (claim_owns names i next))))
      (halves_set names ts i t next) $ await ! tt $ learn ! (λ has. split ! $
      now ! $ check ! has $ move ! (2 ∷ 0 ∷ []) $ fjoin ! $ done !)

  pub signs : (names : List ℕ) (ts : List (ℕ × ℕ)) (n i : ℕ) (t next : ℕ × ℕ)
      → ent 𝓤 (sep 𝓤 (sem 𝓛 (roll_owns names ts n)) (sem 𝓛 (claim_owns names i t)))
      (𝓛.H.⇛ (guard 𝓤 (slice_get ts i ≡ Some t)
      (sep 𝓤 (sem 𝓛 (roll_owns names (slice_set ts i next) n)) (sem 𝓛 (claim_owns names i next)))))
  signs names ts n i t next =
      qed 𝓛 (‵ (roll_owns names ts n) ∷ ‵ (claim_owns names i t) ∷ []) ∵ updating ! $
      fsplit ! $ move ! (0 ∷ 2 ∷ []) $
      use2 𝓛 (later (given (slice_get ts i ≡ Some t)
      (‵ (first_halves names (slice_set ts i next)) ⊛ ‵ (claim_owns names i next))))
      (halves_set names ts i t next) $ await ! tt $ learn ! (λ has. split ! $
      now ! $ check ! has $ move ! (0 ∷ 2 ∷ []) $ fjoin ! $ done !)
