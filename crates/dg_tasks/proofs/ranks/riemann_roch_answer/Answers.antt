use Rattle.dg_tasks.proofs.Common.{◌≡◌, arith, rules, w64, to_z, of_z, FitsSigned, ints, to_z-of_z, minus, canonical, riemann_roch, at, IsInRange, IsTestedRank, RefusesBothRanks, riemann_roch_text, IsRiemannRochAnswer}
use Rattle.dg_tasks.proofs.ranks.riemann_roch_answer.Goals as goal

pub returns-in_default-both_ranks_in_limits-clause-refused : goal.returns-in_default-both_ranks_in_limits-clause-refused
returns-in_default-both_ranks_in_limits-clause-refused c =
    let (size, is_dual, in_range) = c.in_default.ensures in
    let needs : RefusesBothRanks c.graph-graph.result.now (at c.divisor-divisor.result.now) = record {
      in_range = λ v inside. omega (arith, ints, is_dual v inside, in_range v inside);
      either = c.in_default-both_ranks_in_limits.ensures;
    } in
    rw (← c.start-start.ensures, ← c.graph-graph.ensures.graph, ← c.divisor-divisor.ensures) needs

pub returns-clause-told : goal.returns-clause-told
returns-clause-told c =
    let o = c.start-start.result.now in
    let start = c.graph-graph.ensures.start in
    let (rank, dual_rank) = c.in-Some.ensures in
    let of_divisor : IsTestedRank o.graph (at o.divisor) c.in-Some.rank =
    rw (← c.graph-graph.ensures.graph, ← c.divisor-divisor.ensures) rank in
    let of_dual : IsTestedRank o.graph (minus (canonical o.graph) (at o.divisor)) c.in-Some.dual_rank =
    rw (← c.graph-graph.ensures.graph, ← c.divisor-divisor.ensures) dual_rank in
    let fits : FitsSigned w64 c.in-Some.rank = search rules in
    let dual_fits : FitsSigned w64 c.in-Some.dual_rank = search rules in
    let text : c.push_riemann_roch.new.text.items
    ≡ riemann_roch_text o (to_z w64 (of_z w64 c.in-Some.rank)) (to_z w64 (of_z w64 c.in-Some.dual_rank)) =
    c.in_ok-push_riemann_roch.ensures in
    let (size, is_dual, in_range) = c.in_default.ensures in
    let inside : IsInRange c.graph-graph.result.now.size
    (minus (canonical c.graph-graph.result.now) (at c.divisor-divisor.result.now)) =
    λ v below. omega (arith, ints, is_dual v below, in_range v below) in
    let told : IsRiemannRochAnswer o c.push_riemann_roch.new.text.items = record {
      in_range = rw (← c.graph-graph.ensures.graph, ← c.divisor-divisor.ensures) inside;
      rank = c.in-Some.rank;
      of_divisor = of_divisor;
      dual_rank = c.in-Some.dual_rank;
      of_dual = of_dual;
      apart =
          riemann_roch o.graph (at o.divisor) c.in-Some.rank c.in-Some.dual_rank start.graph.multigraph
          (omega (arith, start.vertex)) of_divisor.is_rank of_dual.is_rank;
      printed = rw (to_z-of_z w64 c.in-Some.rank fits, to_z-of_z w64 c.in-Some.dual_rank dual_fits) at text;
    } in
    rw (← c.start-start.ensures) told
