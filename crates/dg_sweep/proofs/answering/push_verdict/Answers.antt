use Rattle.dg_sweep.proofs.Common.{at, judged-named}
use Rattle.dg_sweep.proofs.answering.push_verdict.Goals as goal

pub push_judgement-requires : goal.push_judgement-requires
push_judgement-requires c =
    judged-named c.args.names.now c.args.subject.now.graph.now c.args.subject.now.q (at c.args.subject.now.divisor.now)
    c.judge_subject-verdict.result c.requires.names c.requires.start.vertex c.judge_subject-verdict.ensures
