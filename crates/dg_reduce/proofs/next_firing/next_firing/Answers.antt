use Rattle.dg_reduce.proofs.Common.{◌≤◌, ◌^◌, unsigned_abs, in_set, at, times_held, IsMaxFirings}
use Rattle.dg_reduce.proofs.Most.{most_within}
use Rattle.dg_reduce.proofs.next_firing.next_firing.Goals as goal

pub returns : goal.returns
returns c =
    let most : IsMaxFirings c.args.graph.now c.args.q (at c.args.chips.now)
    (in_set c.in_ok-set.set) c.max_firings.result =
    c.max_firings.ensures c.args.q c.requires.vertex c.in_ok-set.ensures.0 in
    let few : unsigned_abs c.max_firings.result ≤ 2 ^ 120 =
    most_within c.args.graph.now c.args.q (at c.args.chips.now) (in_set c.in_ok-set.set) c.max_firings.result (2 ^ 120)
    c.in_ok-set.ensures.0.without most c.requires.range in
    rw (times_held c.max_firings.result few)
    (record { free = c.in_ok-set.ensures.0; member = c.in_ok-set.ensures.1; most = most; few = few })
