use Rattle.dg_sweep.proofs.Common.{rules, [], sym, append-nil}
use Rattle.dg_sweep.proofs.Pieces.{leads_none, puts_piece, puts_all}
use Rattle.dg_sweep.proofs.workers.push_answers.Goals as goal

pub loop-place-init : goal.loop-place-init
loop-place-init g c = ([], leads_none _, sym (append-nil c.args.text.now.items))

pub loop-place-preserved : goal.loop-place-preserved
loop-place-preserved g c =
    puts_piece _ c.args.pieces.now c.loop-place.place c.args.text.now.items c.loop-place.text.items
    c.push_piece_answer.new.text.items (search rules) c.requires.lines c.loop-place.invariant c.in_ok-push_piece_answer.ensures

pub returns : goal.returns
returns g c =
    puts_all _ c.args.pieces.now c.loop-place.place c.args.text.now.items c.loop-place.text.items (search rules)
    c.loop-place.invariant
