-- When amounts for n vertices are refused; and the residual of a divisor (Baker and Norine 2007, theorem 1.12).
--   IsChipFault n xs fault == the numbers xs are refused as a divisor for n vertices, for this cause first
--   IsWideFault n xs fault == the numbers xs are refused as amounts of any size for n vertices, for this cause
--   IsMinusFault x y fault == x less y is refused as a divisor, for this cause first
--   IsDualOf g D E         == E is the residual of D: at each vertex the canonical divisor less D
--   IsDualFault g D fault  == the residual of D is refused as a divisor, for this cause
use Rattle.std.specs.Prelude.{◌≡◌, ◌≢◌, ℕ, ℤ, List, length}
use Rattle.dg_theory.specs.Rank.{minus, canonical}
use Rattle.dg_chips.specs.Vector.{Vector, at, IsFirstBeyond, IsFirstPast}
use Rattle.dg_chips.specs.declared.divisor.ChipFault.{ChipFault}
use Rattle.dg_chips.specs.declared.divisor.ChipFault.TheVariants.{Length, Range}
use Rattle.dg_chips.specs.declared.divisor.TheConstants.{MAX_AMOUNT}
use Rattle.dg_theory.specs.Firing.{Amounts, DivisorsAgreeOn}
use Rattle.dg_theory.specs.Multigraph.{Multigraph}

abbrev pub IsChipFault : ℕ → List ℤ → ChipFault → Type 0
IsChipFault n xs Length = length xs ≢ n
IsChipFault n xs (Range v) = (length xs ≡ n) × IsFirstPast MAX_AMOUNT xs v

abbrev pub IsWideFault : ℕ → List ℤ → ChipFault → Type 0
IsWideFault n xs Length = length xs ≢ n
IsWideFault n xs (Range v) = ⊥

abbrev pub IsMinusFault : Vector → Vector → ChipFault → Type 0
IsMinusFault x y Length = y.size ≢ x.size
IsMinusFault x y (Range v) =
    (y.size ≡ x.size) × IsFirstBeyond MAX_AMOUNT x.size (minus (at x) (at y)) v

abbrev pub IsDualOf : Multigraph → Amounts → Amounts → Type 0
IsDualOf g D E = DivisorsAgreeOn g.size E (minus (canonical g) D)

abbrev pub IsDualFault : Multigraph → Amounts → ChipFault → Type 0
IsDualFault g D Length = ⊥
IsDualFault g D (Range v) = IsFirstBeyond MAX_AMOUNT g.size (minus (canonical g) D) v
