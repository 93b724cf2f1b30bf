-- Entries with their numbers: one more of them, and a longer history.
--   stand_more     entries that stand in a history, and one more, stand in it
--   stand_longer   entries that stand in a history stand in a longer one
--   begins_on      what begins the beginning of a history begins the history
--   begins_length  and has no more entries
use Rattle.dg_table.proofs.Common.{◌≡◌, ℕ, ◌≤◌, List, [], ◌∷◌, ◌++◌, length, length-append, slice_get, Some, ap, arith, append_assoc, ◌∙◌, slice_get_within, Entry, slice_get-append, StandIn, IsPrefixOf}

pub stand_more : (H : List Entry) (ps : List (ℕ × Entry)) (p : ℕ × Entry) → StandIn H ps → slice_get H p.0 ≡ Some p.1 →
    StandIn H (ps ++ p ∷ [])
stand_more H [] p stand at = (at, tt)
stand_more H (q ∷ ps) p (first, stand) at = (first, stand_more H ps p stand at)

pub stand_longer : (H L : List Entry) (ps : List (ℕ × Entry)) → StandIn H ps → StandIn (H ++ L) ps
stand_longer H L [] stand = tt
stand_longer H L (p ∷ ps) (at, stand) =
    (slice_get-append H L p.0 (slice_get_within H p.0 p.1 at) ∙ at, stand_longer H L ps stand)

pub begins_on : (K L H : List Entry) → IsPrefixOf K L → IsPrefixOf L H → IsPrefixOf K H
begins_on K L H (first, p) (second, q) = (first ++ second, q ∙ ap (λ l. l ++ second) p ∙ append_assoc K first second)

pub begins_length : (K H : List Entry) → IsPrefixOf K H → length K ≤ length H
begins_length K H (rest, is) = omega (arith, ap length is, length-append K rest)
