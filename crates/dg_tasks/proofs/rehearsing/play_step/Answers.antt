use Rattle.dg_tasks.proofs.Common.{List, [], ◌∷◌, ◌++◌, length, Entry, Step, slice_get-seam, legal_named}
use Rattle.dg_tasks.proofs.UnderWay.{played_more, stopped_at, next_is}
use Rattle.dg_tasks.proofs.rehearsing.play_step.Goals as goal

pub play-requires : goal.play-requires
play-requires c =
    let (o, steps, fit, known) = c.requires in
    (o, known.history, steps ++ [], known.playing [])

pub returns-in-Err : goal.returns-in-Err
returns-in-Err c = λ o steps known.
    stopped_at o c.args.names.now steps c.args.step.now c.args.rehearsal.now c.args.text.now.items c.in-Err.fault
    c.in-Err.ensures.plays known

pub push_entry-requires : goal.push_entry-requires
push_entry-requires c =
    let (o, steps, fit, known) = c.requires in
    let H : List Entry = known.history in
    let e : Entry = c.play.new.entry in
    let (room, plays) = c.in-Ok.ensures.plays in
    let all : List Step = steps ++ c.args.step.now ∷ [] in
    let more = plays o H all (known.playing (c.args.step.now ∷ []))
    (next_is steps [] c.args.step.now (length H) known.count) in
    legal_named c.args.names.now o (H ++ e ∷ []) fit more.legal (length H) e (slice_get-seam H e [])

pub returns-in-Ok-push_entry : goal.returns-in-Ok-push_entry
returns-in-Ok-push_entry c = λ o steps known.
    let (room, plays) = c.in-Ok.ensures.plays in
    played_more o c.args.names.now steps c.args.step.now c.play.new.entry c.args.rehearsal.now c.play.new.self
    c.args.text.now.items
    c.push_entry.new.text.items _ plays room c.entries-number.ensures.entries c.in-Ok-push_entry.ensures known
