-- When numbers for n vertices are refused as a script.
--   IsScriptFault n xs fault == the numbers xs are refused as a script for n vertices, for
--                               this cause first
use Rattle.std.specs.Prelude.{◌≡◌, ◌≢◌, ℕ, ℤ, List, length}
use Rattle.dg_chips.specs.Vector.{IsFirstPast}
use Rattle.dg_chips.specs.declared.script.ScriptFault.{ScriptFault}
use Rattle.dg_chips.specs.declared.script.ScriptFault.TheVariants.{Length, Limit}
use Rattle.dg_chips.specs.declared.script.TheConstants.{MAX_ENTRY}

abbrev pub IsScriptFault : ℕ → List ℤ → ScriptFault → Type 0
IsScriptFault n xs Length = length xs ≢ n
IsScriptFault n xs (Limit v) = (length xs ≡ n) × IsFirstPast MAX_ENTRY xs v
