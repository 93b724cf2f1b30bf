use Rattle.dg_table.proofs.Common.{◌≡◌, ◌∙◌, length, Replies, Look, Looked, LookData}
use Rattle.dg_table.proofs.Findings.{look_asked, look_seen, looked_vertices}
use Rattle.dg_table.proofs.seat.keep_look.Goals as goal

pub returns-in-Looked : goal.returns-in-Looked
returns-in-Looked c = λ o H ps leads replies kept.
    let looked = c.in-Looked in
    let told = rw looked.is at replies in
    let asked = look_asked o H c.args.entry.now.request looked.gifts looked.position looked.graph told in
    let shown : Replies o H Look (Looked looked.gifts looked.position looked.graph) = rw asked at told in
    let number : c.look_data.result.number ≡ length H = c.look_data.ensures.number ∙ leads.entries in
    let seen : LookData = record {
      number = c.look_data.result.number;
      gifts = looked.gifts;
      graph = looked.graph;
      position = looked.position;
      drift = c.look_data.result.drift;
    } in
    look_seen o ps (length H, c.args.entry.now) seen
    (record { look = asked; shown = looked.is; number = number })
    (looked_vertices o H seen shown)
