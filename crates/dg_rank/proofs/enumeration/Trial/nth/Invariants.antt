use Rattle.dg_rank.proofs.Common.{◌≡◌, ◌-◌, ◌<◌, ◌≤◌, ◌++◌, length, take}
use Rattle.dg_rank.specs.Numbering.{trial_count, nth_trial}
use Rattle.dg_rank.proofs.enumeration.Trial.nth.Given as goal

abbrev pub invariant-loop-v : goal.invariant-loop-v
invariant-loop-v l = record {
  places : length l.trial ≡ l.n;
  trial : nth_trial l.n l.k l.i ≡ take l.v l.trial ++ nth_trial (l.n - l.v) l.left l.number;
  counted : l.number < trial_count (l.n - l.v) l.left;
  amount : l.left ≤ 1000;
  number : l.number ≤ 200000;
}
