use Rattle.dg_sweep.proofs.Common.{rules, map, IsAnswered}
use Rattle.dg_sweep.proofs.Pieces.{all_joined}
use Rattle.dg_sweep.specs.Kinds.{answers_of}
use Rattle.dg_sweep.proofs.workers.+answer_among+fn-answer_among-others.Goals as goal

pub returns-in-Ok : goal.returns-in-Ok
returns-in-Ok g t c =
    all_joined (IsAnswered (answers_of c.args.context.now.kind.now) (map (λ piece. piece.now) c.args.pieces.now))
    (λ done. done.items) c.in-Ok.here c.in-Ok.there c.joined_answers.result (search rules) (search rules)
    c.joined_answers.ensures
