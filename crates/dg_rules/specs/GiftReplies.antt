-- What may be replied to a gift of x dollars to v at the position p, if the gift count is g. A
-- gift of less than 0 dollars is a levy: it takes dollars from v, and may leave v in debt. It is
-- answered and counted as any other gift.
--   IsGift x                       == a gift may be so large: it is not 0, and within the limit at both
--                                     ends
--   IsAcceptedGift p g v x count d == the count and the amounts after the gift, all in range
--   RefusesGift p v x refusal      == the gift is refused for this cause, and for no earlier one
--   RepliesToGift p g v x reply    == the reply is the right one
use Rattle.std.specs.Prelude.{◌≡◌, ◌≢◌, ℕ, ◌+◌, ◌<◌, ◌≤◌, ℤ, pos, neg_ℤ, ◌≤ℤ◌}
use Rattle.dg_rules.specs.Common.{Vector, at, IsDivisorVector, IsOutOfRange}
use Rattle.dg_rules.specs.Position.{Position, with_gift}
use Rattle.dg_rules.specs.declared.entry.Refusal.{Refusal}
use Rattle.dg_rules.specs.declared.entry.Refusal.TheVariants.{NoVertex, Gift, Range}
use Rattle.dg_rules.specs.declared.entry.Reply.{Reply}
use Rattle.dg_rules.specs.declared.entry.Reply.TheVariants.{Given, Refused}
use Rattle.dg_rules.specs.declared.entry.TheConstants.{MAX_GIFT}

abbrev pub IsGift : ℤ → Type 0
IsGift x = (neg_ℤ MAX_GIFT ≤ℤ x) × (x ≤ℤ MAX_GIFT) × (x ≢ pos 0)

pub record IsAcceptedGift (p : Position) (g v : ℕ) (x : ℤ) (count : ℕ) (d : Vector) : Type 0 where
  pub vertex : v < p.graph.size
  pub gift : IsGift x
  pub count' : count ≡ g + 1
  pub size : d.size ≡ p.graph.size
  pub divisor : IsDivisorVector d
  pub amounts : (w : ℕ) → w < p.graph.size → at d w ≡ with_gift p v x w

abbrev pub RefusesGift : Position → ℕ → ℤ → Refusal → Type 0
RefusesGift p v x NoVertex = p.graph.size ≤ v
RefusesGift p v x Gift = (v < p.graph.size) × (¬ IsGift x)
RefusesGift p v x Range =
    (v < p.graph.size) × IsGift x × IsOutOfRange p.graph.size (with_gift p v x)
RefusesGift p v x refusal = ⊥

abbrev pub RepliesToGift : Position → ℕ → ℕ → ℤ → Reply → Type 0
RepliesToGift p g v x (Given count d) = IsAcceptedGift p g v x count d
RepliesToGift p g v x (Refused refusal) = RefusesGift p v x refusal
RepliesToGift p g v x reply = ⊥
