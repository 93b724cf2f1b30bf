-- Playing the dollar game (Baker and Norine 2007, section 1; Corry and Perkinson, chapter 1).
--   Play           == one lending or one borrowing by a vertex
--   script_of_play p == the script of that play
--   played g D l   == the divisor after the plays of the list l, one after another
--   IsWinnable g D == some list of lendings and borrowings clears all debts
-- A play at a number that is no vertex changes no amount, since no edge meets it.
use Rattle.std.specs.Prelude.{ℕ, pos, negsuc, List, [], ◌∷◌}
use Rattle.dg_theory.specs.Multigraph.{Multigraph}
use Rattle.dg_theory.specs.Firing.{Amounts, fired, only_at, IsEffective}

pub data Play : Type 0 where
  lend : ℕ → Play
  borrow : ℕ → Play

abbrev pub script_of_play : Play → Amounts
script_of_play (lend v) = only_at v (pos 1)
script_of_play (borrow v) = only_at v (negsuc 0)

abbrev pub played : Multigraph → Amounts → List Play → Amounts
played g D [] = D
played g D (p ∷ l) = played g (fired g D (script_of_play p)) l

abbrev pub IsWinnable : Multigraph → Amounts → Type 0
IsWinnable g D = (l : List Play) × IsEffective g.size (played g D l)
