-- A law of lines of amounts.
--   with_amounts content xs == what a file says that has the amounts xs, and else all as before
--   LinesStandForTables     == if a line stands for a start, or its amounts are refused for their
--                              number or range, it spells numbers with which the file that says the
--                              table would describe that start, or would be refused so
use Rattle.std.specs.Prelude.{ℕ, ℤ, List}
use Rattle.dg_sweep.specs.Common.{StartData, ChipFault, Content, ContentDescribes, IsContentFault, Chip}
use Rattle.dg_sweep.specs.Divisors.{SpellsAmounts, LineStandsFor, IsAmountsFault}

abbrev pub with_amounts : Content → List ℤ → Content
with_amounts content xs = record content { amounts = xs }

pub record LinesStandForTables : Type 0 where
  pub stands : (content : Content) (o p : StartData) (names : List (List ℕ)) (line : List ℕ)
      → ContentDescribes content o names → LineStandsFor o line p
      → (xs : List ℤ) × SpellsAmounts line xs × ContentDescribes (with_amounts content xs) p names
  pub refused : (content : Content) (o : StartData) (names : List (List ℕ)) (line : List ℕ)
      (fault : ChipFault) → ContentDescribes content o names → IsAmountsFault o.graph.size line (Chip fault)
      → (xs : List ℤ) × SpellsAmounts line xs × IsContentFault (with_amounts content xs) (Chip fault)
