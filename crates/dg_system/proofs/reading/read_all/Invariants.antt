-- The files so far are held.
use Rattle.dg_system.proofs.Common.{take, map, MayHoldAll}
use Rattle.dg_system.proofs.reading.read_all.Given as goal

abbrev pub invariant-names : goal.invariant-names
invariant-names g l =
    MayHoldAll (g.S.Sources.held l.sources) (map (λ name. name.now) (take l.name-index l.names))
    (map (λ file. file.items) l.all.items)
