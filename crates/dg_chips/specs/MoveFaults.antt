-- Why a move is refused. For each move at most one of the four causes stands: a set that names a
-- number that is no vertex is not empty, and a result is judged only if the move can be played.
--   IsMoveFault g D m fault      == the move is refused at the amounts D for this cause
--   IsLendingFault g D v x fault == it is refused for this cause that v lends x times
use Rattle.std.specs.Prelude.{ℕ, ◌<◌, ◌≤◌, ℤ}
use Rattle.dg_theory.specs.Firing.{Amounts, fired, only_at}
use Rattle.dg_theory.specs.Multigraph.{Multigraph}
use Rattle.dg_chips.specs.Vector.{IsOutOfRange}
use Rattle.dg_chips.specs.Moves.{move_script, NamesNoVertex, FiresEmptySet, HasOtherSize, IsApplicableMove}
use Rattle.dg_chips.specs.declared.moves.Move.{Move}
use Rattle.dg_chips.specs.declared.moves.MoveFault.{MoveFault}
use Rattle.dg_chips.specs.declared.moves.MoveFault.TheVariants.{NoVertex, Empty, Script, Range}

abbrev pub IsMoveFault : Multigraph → Amounts → Move → MoveFault → Type 0
IsMoveFault g D m NoVertex = NamesNoVertex g.size m
IsMoveFault g D m Empty = FiresEmptySet m
IsMoveFault g D m Script = HasOtherSize g.size m
IsMoveFault g D m Range = IsApplicableMove g.size m × IsOutOfRange g.size (fired g D (move_script m))

abbrev pub IsLendingFault : Multigraph → Amounts → ℕ → ℤ → MoveFault → Type 0
IsLendingFault g D v x NoVertex = g.size ≤ v
IsLendingFault g D v x Empty = ⊥
IsLendingFault g D v x Script = ⊥
IsLendingFault g D v x Range = (v < g.size) × IsOutOfRange g.size (fired g D (only_at v x))
