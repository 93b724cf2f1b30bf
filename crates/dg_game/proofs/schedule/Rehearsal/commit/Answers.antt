use Rattle.dg_game.proofs.Common.{◌≡◌, refl, length, rules, Commit, look_fits, look_vertices}
use Rattle.dg_game.proofs.RehearsalLaws.{aimed}
use Rattle.dg_game.proofs.schedule.Rehearsal.commit.Goals as goal

pub enter_stale-requires-clause-playing : goal.enter_stale-requires-clause-playing
enter_stale-requires-clause-playing c =
    let (o, H, steps, playing) = c.requires.playing in
    (o, H, steps, playing, c.in-Some.ensures o H steps playing)

pub returns-then-look-gifts-clause-plays : goal.returns-then-look-gifts-clause-plays
returns-then-look-gifts-clause-plays c = λ o H steps playing there.
    let keeps = c.in-Some.ensures o H steps playing in
    c.enter_stale.ensures o H steps Commit playing keeps there tt tt (c.in-Some.look.number, keeps.0, refl)

pub judge_look-finding-requires-clause-size : goal.judge_look-finding-requires-clause-size
judge_look-finding-requires-clause-size c =
    let (o, H, steps, playing) = c.requires.playing in
    let (kept, look) = c.in-Some.ensures o H steps playing in
    look_fits o H c.in-Some.look look

pub judge_look-finding-requires-clause-vertex : goal.judge_look-finding-requires-clause-vertex
judge_look-finding-requires-clause-vertex c =
    let (o, H, steps, playing) = c.requires.playing in
    let (kept, look) = c.in-Some.ensures o H steps playing in
    rw (look_vertices o H _ _ playing.leads look) c.q-q.ensures.vertex

pub enter_finding-requires-clause-playing : goal.enter_finding-requires-clause-playing
enter_finding-requires-clause-playing c =
    let (o, H, steps, playing) = c.requires.playing in
    (o, H, steps, aimed o H steps c.args.self.now _ refl refl refl playing, c.in-Some.ensures o H steps playing)

pub enter_finding-requires-clause-found : goal.enter_finding-requires-clause-found
enter_finding-requires-clause-found c = rw c.q-q.ensures.q at c.judge_look-finding.ensures.found

pub returns-clause-plays : goal.returns-clause-plays
returns-clause-plays c = λ o H steps playing there.
    let keeps = c.in-Some.ensures o H steps playing in
    c.enter_finding.ensures o H steps Commit (aimed o H steps c.args.self.now _ refl refl refl playing) keeps there
    tt tt
    (c.in-Some.look.number, keeps.0, c.judge_look-finding.ensures.asks c.in-Some.look.number)

pub returns-in_default-clause-plays : goal.returns-in_default-clause-plays
returns-in_default-clause-plays c = (
  λ no. cc,
  λ o H steps playing there.
      let here : c.entries-i.result ≡ length H = search rules in (
        search rules,
        rw here playing.good,
        (record { seat = c.args.seat; command = Commit }, rw here there, (c.requires.seat, λ has. search rules)),
      ),
)
