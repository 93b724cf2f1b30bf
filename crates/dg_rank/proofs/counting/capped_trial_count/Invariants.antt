use Rattle.dg_rank.proofs.Common.{◌≡◌, ◌≤◌}
use Rattle.dg_rank.specs.Numbering.{trial_count}
use Rattle.dg_rank.proofs.counting.capped_trial_count.Given as goal

abbrev pub invariant-loop-places : goal.invariant-loop-places
invariant-loop-places l = record { count : l.count ≡ trial_count l.places l.k; limit : l.count ≤ 200000 }
