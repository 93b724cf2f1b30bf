use Rattle.dg_reduce.proofs.Common.{at}
use Rattle.dg_reduce.proofs.Ties.{tied-start}
use Rattle.dg_reduce.proofs.walk.FiringTrace.new.Goals as goal

pub returns-clause-tied : goal.returns-clause-tied
returns-clause-tied c = record {
  start_size = c.requires;
  chips_size = c.requires;
  script_size = c.zero.ensures.size;
  led = tied-start c.args.graph.now (at c.args.chips.now) (at c.zero.result) c.zero.ensures.amounts;
}
