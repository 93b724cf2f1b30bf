use Rattle.dg_file.proofs.Common.{◌≡◌, take, AreNames}
use Rattle.dg_file.proofs.NamesRead.{texts}
use Rattle.dg_file.proofs.table_file.add_names.Given as goal

abbrev pub invariant-loop-v : goal.invariant-loop-v
invariant-loop-v l = record { so_far : l.names ≡ take l.v (texts l.vertices); are : AreNames l.names }
