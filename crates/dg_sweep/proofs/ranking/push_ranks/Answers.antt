use Rattle.dg_sweep.proofs.Common.{◌≡◌, on_ok_weaker, arith, w64, to_z, of_z, ints, AreRanks, ranks_line}
use Rattle.dg_sweep.specs.Subjects.{subject_start}
use Rattle.dg_sweep.proofs.ranking.push_ranks.Goals as goal

pub returns : goal.returns
returns c =
    let o = subject_start c.args.subject.now in
    let ranks = c.both_ranks_of-rank.result in
    let told : c.push_ranks_line.new.answer.items ≡ ranks_line c.args.form o ranks.0 ranks.1 →
    AreRanks o c.args.form c.push_ranks_line.new.answer.items =
    λ printed. record {
      rank = ranks.0;
      of_divisor = c.both_ranks_of-rank.ensures.0;
      dual_rank = ranks.1;
      of_dual = c.both_ranks_of-rank.ensures.1;
      printed = printed;
    } in
    let rank : to_z w64 (of_z w64 ranks.0) ≡ ranks.0 = omega (arith, ints) in
    let dual_rank : to_z w64 (of_z w64 ranks.1) ≡ ranks.1 = omega (arith, ints) in
    on_ok_weaker _ told (rw (rank, dual_rank) at c.push_ranks_line.ensures)
