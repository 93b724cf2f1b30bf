-- What is paid for losses, by a table of prices or a dollar for each; and boxes whose losses are paid for.
--   price P v t           == what v pays for t dollars, by the table P
--   ArePrices P           == for up to so many dollars as P tells, no price is below that for fewer, or above 1,000
--   paid o l v t          == what v pays for t dollars more, once those of the list l are lost: by the table o, or t if there is
--                            none
--   AreTold o l j         == the table o, if there is one, tells what is paid for j dollars more than those of the list l
--   left_after A p E      == what is left of A once each vertex v has paid p v t for the t dollars that E loses there
--   BoxPays g A p r j     == that is winnable for each E in the box of room r and j dollars
--   IsUnpaid g A p r j E  == the trial E is in this box, and it is not winnable
--   AreCosts p r j c      == the list c has what each vertex pays for as many dollars as it may lose
--   IsLacking n p A r j o == at the vertex o.0 so many dollars as o.1 may be lost, some; if there is no o, A holds everywhere
--                            what may have to be paid
--   IsPaidTwin g A p r v u == u is v or a twin of it, A holds as much at both, as much may be lost at both, and as much is paid
--   IsTwinClosed g A p r v h c == the list c is r, but for the number h at some vertices that are the same as v in the box
use Rattle.std.specs.Prelude.{◌≡◌, ℕ, ◌+◌, ◌-◌, ◌<◌, ◌≤◌, ◌⊎◌, pos, ◌-ℤ◌, ◌≤ℤ◌, List, [], Option, Some, None, MatchOption, IfSome, length, min, slice_index}
use Rattle.std.specs.List.{slice_index_or}
use Rattle.std.specs.Int.RustNames.{unsigned_abs}
use Rattle.dg_theory.specs.Firing.{Amounts}
use Rattle.dg_theory.specs.Multigraph.{Multigraph}
use Rattle.dg_theory.specs.Play.{IsWinnable}
use Rattle.dg_theory.specs.Twins.{AreTwins}
use Rattle.dg_graph.specs.declared.graph.TheConstants.{MAX_VERTICES}
use Rattle.dg_rank.specs.Boxes.{IsInBox}
use Rattle.dg_rank.specs.Divisors.{amounts_of_trial}
use Rattle.dg_rank.specs.declared.prices.Prices.{Prices}
use Rattle.dg_rank.specs.declared.prices.TheConstants.{MAX_PLACES}

abbrev pub price : Prices → ℕ → ℕ → ℕ
price P v t = slice_index (slice_index_or P.rows v []) t

pub record ArePrices (P : Prices) : Type 0 where
  pub few : P.most < MAX_PLACES
  pub rising : (v s t : ℕ) → s ≤ t → t ≤ P.most → price P v s ≤ price P v t
  pub cheap : (v t : ℕ) → t ≤ P.most → price P v t ≤ 1000

abbrev pub paid : Option Prices → List ℕ → ℕ → ℕ → ℕ
paid None l v t = t
paid (Some P) l v t = price P v (slice_index l v + t) - price P v (slice_index l v)

abbrev pub AreTold : Option Prices → List ℕ → ℕ → Type 0
AreTold o l j = IfSome o (λ P. ArePrices P × ((v : ℕ) → v < MAX_VERTICES → slice_index l v + j ≤ P.most))

abbrev pub left_after : Amounts → (ℕ → ℕ → ℕ) → Amounts → Amounts
left_after A p E v = A v -ℤ pos (p v (unsigned_abs (E v)))

abbrev pub BoxPays : Multigraph → Amounts → (ℕ → ℕ → ℕ) → List ℕ → ℕ → Type 0
BoxPays g A p r j = (E : Amounts) → IsInBox g.size r j E → IsWinnable g (left_after A p E)

pub record IsUnpaid (g : Multigraph) (A : Amounts) (p : ℕ → ℕ → ℕ) (r : List ℕ) (j : ℕ) (E : List ℕ) : Type 0 where
  pub places : length E ≡ g.size
  pub inside : IsInBox g.size r j (amounts_of_trial E)
  pub loses : ¬ IsWinnable g (left_after A p (amounts_of_trial E))

abbrev pub AreCosts : (ℕ → ℕ → ℕ) → List ℕ → ℕ → List ℕ → Type 0
AreCosts p r j c = (v : ℕ) → v < MAX_VERTICES → slice_index c v ≡ p v (min (slice_index r v) j)

abbrev pub IsLacking : ℕ → (ℕ → ℕ → ℕ) → Amounts → List ℕ → ℕ → Option (ℕ × ℕ) → Type 0
IsLacking n p A r j o = MatchOption o
    ((v : ℕ) → v < n → pos (p v (min (slice_index r v) j)) ≤ℤ A v)
    (λ l. (l.0 < n) × (0 < l.1) × (l.1 ≤ min (slice_index r l.0) j))

pub record IsPaidTwin (g : Multigraph) (A : Amounts) (p : ℕ → ℕ → ℕ) (r : List ℕ) (v u : ℕ) : Type 0 where
  pub twins : AreTwins g v u
  pub held : A u ≡ A v
  pub room : slice_index r u ≡ slice_index r v
  pub paid : (t : ℕ) → p u t ≡ p v t

abbrev pub IsTwinClosed : Multigraph → Amounts → (ℕ → ℕ → ℕ) → List ℕ → ℕ → ℕ → List ℕ → Type 0
IsTwinClosed g A p r v h c = (u : ℕ) → u < g.size →
    (slice_index c u ≡ slice_index r u) ⊎ ((slice_index c u ≡ h) × IsPaidTwin g A p r v u)
