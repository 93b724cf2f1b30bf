-- There is no look for each seat so far.
use Rattle.dg_session.proofs.Common.{◌≡◌, map, take, None, look_of}
use Rattle.dg_session.proofs.taking.no_looks.Given as goal

abbrev pub invariant-loop : goal.invariant-loop
invariant-loop g l = map look_of l.looks.items ≡ map (λ x. None) (take l.index l.fn.seats)
