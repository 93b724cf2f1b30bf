use Rattle.dg_game.proofs.Common.{MatchResult-weaker}
use Rattle.dg_game.proofs.RehearsalLaws.{plays_at, stops_at}
use Rattle.dg_game.proofs.schedule.Rehearsal.play.Goals as goal

pub returns-in-Some-clause-plays : goal.returns-in-Some-clause-plays
returns-in-Some-clause-plays c = c.in-Some.ensures c.args.step.now.command

pub returns-in-Call-clause-plays : goal.returns-in-Call-clause-plays
returns-in-Call-clause-plays c =
    (c.in_default.ensures.1, plays_at c.args.step.now c.in-Call.is c.call.ensures)

pub returns-in-Commit-clause-plays : goal.returns-in-Commit-clause-plays
returns-in-Commit-clause-plays c =
    let (seat, room) = c.in_default.ensures in
    MatchResult-weaker c.commit.result c.commit.ensures.plays (λ e goes. (room, plays_at c.args.step.now c.in-Commit.is goes))
    (λ fault told. stops_at c.args.step.now c.in-Commit.is told)

pub returns-in-Rank-clause-plays : goal.returns-in-Rank-clause-plays
returns-in-Rank-clause-plays c =
    let (seat, room) = c.in_default.ensures in
    MatchResult-weaker c.rank.result c.rank.ensures.plays (λ e goes. (room, plays_at c.args.step.now c.in-Rank.is goes))
    (λ fault told. stops_at c.args.step.now c.in-Rank.is told)
