use Rattle.dg_game.proofs.Common.{◌≡◌, arith, rules, refl, ap, ◌∙◌, Multigraph, Rank, look_fits, look_vertices, vertices_stay, length}
use Rattle.dg_game.proofs.RehearsalLaws.{past_limits}
use Rattle.dg_game.proofs.schedule.Rehearsal.rank.Goals as goal

pub enter_stale-requires-clause-playing : goal.enter_stale-requires-clause-playing
enter_stale-requires-clause-playing c =
    let (o, H, steps, playing) = c.requires.playing in
    (o, H, steps, playing, c.in-Some.ensures o H steps playing)

pub returns-clause-plays : goal.returns-clause-plays
returns-clause-plays c = λ o H steps playing there.
    let keeps = c.in-Some.ensures o H steps playing in
    let size : c.size.result ≡ o.graph.size =
    c.size.ensures.size ∙ look_vertices o H _ _ playing.leads keeps.1
    ∙ ap (λ (g : Multigraph). g.size) playing.leads.graph ∙ vertices_stay o H in
    c.enter_stale.ensures o H steps (Rank c.args.k) playing keeps there tt (_, rw size at c.in-Some-trials.ensures)
    (c.in-Some.look.number, keeps.0, refl)

pub rank_look-requires-clause-size : goal.rank_look-requires-clause-size
rank_look-requires-clause-size c =
    let (o, H, steps, playing) = c.requires.playing in
    let (kept, look) = c.in-Some.ensures o H steps playing in
    look_fits o H c.in-Some.look look

pub rank_look-requires-clause-vertex : goal.rank_look-requires-clause-vertex
rank_look-requires-clause-vertex c =
    let (o, H, steps, playing) = c.requires.playing in
    let (kept, look) = c.in-Some.ensures o H steps playing in
    rw (look_vertices o H _ _ playing.leads look) c.q.ensures.vertex

pub enter_finding-requires-clause-playing : goal.enter_finding-requires-clause-playing
enter_finding-requires-clause-playing c =
    let (o, H, steps, playing) = c.requires.playing in
    (o, H, steps, playing, c.in-Some.ensures o H steps playing)

pub enter_finding-requires-clause-found : goal.enter_finding-requires-clause-found
enter_finding-requires-clause-found c = let (within, found, asks) = c.in-Ok.ensures in rw c.q.ensures.q at found

pub returns-in_default-rank_look-clause-plays : goal.returns-in_default-rank_look-clause-plays
returns-in_default-rank_look-clause-plays c = (
  search rules,
  λ o H steps playing there.
      let (kept, look) = c.in-Some.ensures o H steps playing in
      let (fault, past) = c.in_default-rank_look.ensures in
      let size : c.in-Some.look.graph.size ≡ o.graph.size =
      look_vertices o H _ _ playing.leads look ∙ ap (λ (g : Multigraph). g.size) playing.leads.graph
      ∙ vertices_stay o H in
      past_limits o H steps c.args.self.now c.args.seat c.args.k c.in-Some.look.number _ playing there
      (omega (arith, playing.leads.entries, c.entries-i.ensures.entries))
      (omega (arith, c.requires.room, c.entries-i.ensures.entries))
      c.requires.seat kept (rw size at past),
)

pub returns-2-clause-plays : goal.returns-2-clause-plays
returns-2-clause-plays c = λ o H steps playing there.
    let keeps = c.in-Some.ensures o H steps playing in
    let (within, found, asks) = c.in-Ok.ensures in
    let size : c.in-Some.look.graph.size ≡ o.graph.size =
    look_vertices o H _ _ playing.leads keeps.1 ∙ ap (λ (g : Multigraph). g.size) playing.leads.graph
    ∙ vertices_stay o H in
    c.enter_finding.ensures o H steps (Rank c.args.k) playing keeps there tt (rw size at within)
    (c.in-Some.look.number, keeps.0, asks c.in-Some.look.number)

pub returns-in_default-clause-plays : goal.returns-in_default-clause-plays
returns-in_default-clause-plays c = (
  λ no. cc,
  λ o H steps playing there.
      let here : c.entries-i.result ≡ length H = search rules in (
        search rules,
        rw here playing.good,
        (record { seat = c.args.seat; command = Rank c.args.k }, rw here there, (c.requires.seat, λ has. search rules)),
      ),
)
