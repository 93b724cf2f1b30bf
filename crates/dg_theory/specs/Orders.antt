-- Orders of the vertices, and what they tell of losses (Baker and Norine 2007, section 3.2 and lemma 2.7, here for
-- burning orders: Dhar 1990). An order is told by a place for each vertex, a whole number; a vertex is earlier than
-- another if its place is less.
--   AreApart n place      == no two of n vertices have the same place
--   earlier g place v     == how many edges lead from v to earlier vertices
--   order_divisor g place == the divisor of the order: at each vertex a dollar less than so many
--   excess D N            == what D holds beyond N: at each vertex the difference, or 0 if D holds no more
--   BurnsAtCost g q D k   == some divisor that is equivalent to D, without debt off q and not too deep in debt
--                            at q, burns in some order that begins with q, once k dollars at most are taken
--                            from it: so many it holds beyond the divisor of the order
--   LossIffBurns          == some effective divisor of degree k can't be lost exactly if D burns at the cost of
--                            k dollars
use Rattle.std.specs.Prelude.{◌≡◌, ◌≢◌, ℕ, ◌<◌, ◌↔◌, pos, ◌-ℤ◌, ◌≤ℤ◌, ◌<ℤ◌}
use Rattle.std.specs.Int.{int_max}
use Rattle.std.specs.Int.Signed.{le_z}
use Rattle.dg_theory.specs.Multigraph.{Multigraph, IsMultigraph, genus}
use Rattle.dg_theory.specs.Firing.{Amounts, degree, AreEquivalent, IsEffective, IsEffectiveOff}
use Rattle.dg_theory.specs.Play.{IsWinnable}
use Rattle.dg_theory.specs.Rank.{minus}
use Rattle.dg_theory.specs.Reduced.{edges_out}

abbrev pub AreApart : ℕ → Amounts → Type 0
AreApart n place = (v w : ℕ) → v < n → w < n → place v ≡ place w → v ≡ w

abbrev pub earlier : Multigraph → Amounts → ℕ → ℕ
earlier g place v = edges_out g (λ w. le_z (place v) (place w)) v

abbrev pub order_divisor : Multigraph → Amounts → Amounts
order_divisor g place v = pos (earlier g place v) -ℤ pos 1

abbrev pub excess : Amounts → Amounts → Amounts
excess D N v = int_max (D v -ℤ N v) (pos 0)

pub record BurnsAtCost (g : Multigraph) (q : ℕ) (D : Amounts) (k : ℕ) : Type 0 where
  pub divisor : Amounts
  pub equivalent : AreEquivalent g D divisor
  pub no_debt : IsEffectiveOff g q divisor
  pub bound : ((degree g.size D -ℤ genus g) -ℤ pos k) ≤ℤ divisor q
  pub place : Amounts
  pub apart : AreApart g.size place
  pub first : (v : ℕ) → v < g.size → v ≢ q → place q <ℤ place v
  pub cost : degree g.size (excess divisor (order_divisor g place)) ≤ℤ pos k

abbrev pub LossIffBurns : Type 0
LossIffBurns = (g : Multigraph) (q : ℕ) (D : Amounts) (k : ℕ) → IsMultigraph g → q < g.size →
    (((E : Amounts) × IsEffective g.size E × (degree g.size E ≡ pos k) × (¬ IsWinnable g (minus D E)))
    ↔ BurnsAtCost g q D k)
