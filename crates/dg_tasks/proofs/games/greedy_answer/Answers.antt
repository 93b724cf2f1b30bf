use Rattle.dg_tasks.proofs.Common.{◌≡◌, arith}
use Rattle.dg_tasks.proofs.GreedyTurns.{none_played, turn_named, one_played, all_settled, all_used_up}
use Rattle.dg_tasks.proofs.games.greedy_answer.Goals as goal

pub turns-init : goal.turns-init
turns-init c =
    rw c.start.ensures at
    (none_played c.start.result.now c.names-names.result.now c.new-game.result c.in_ok-text.text.items
    c.new-game.ensures c.in_ok-text.ensures.items)

pub push_entry-requires : goal.push_entry-requires
push_entry-requires c =
    turn_named c.args.table.now.start c.names-names.result.now c.turns.game c.turns.number c.turns.text.items
    c.greedy_turn-settled.new.entry c.greedy_turn-settled.result c.greedy_turn-settled.ensures.turn c.turns.invariant
    c.names-names.ensures.named

pub turns-preserved : goal.turns-preserved
turns-preserved c =
    one_played c.args.table.now.start c.names-names.result.now c.turns.game c.turns.number c.turns.text.items
    c.greedy_turn-settled.new.entry c.greedy_turn-settled.result c.greedy_turn-settled.ensures.turn c.turns.invariant
    c.greedy_turn-settled.new.game _ c.if-settled.false c.greedy_turn-settled.ensures.leads
    c.in_ok-push_entry.ensures

pub returns-then-settled-clause-printed : goal.returns-then-settled-clause-printed
returns-then-settled-clause-printed c =
    rw c.names-names.ensures.value at
    (all_settled c.args.table.now.start c.names-names.result.now c.turns.game c.turns.number c.turns.text.items
    c.greedy_turn-settled.new.entry c.greedy_turn-settled.result c.greedy_turn-settled.ensures.turn c.turns.invariant
    c.args.turns c.push_entry.new.text.items c.if-settled.true c.turns-test.true c.in_ok-push_entry.ensures)

pub returns-clause-printed : goal.returns-clause-printed
returns-clause-printed c =
    let all : c.turns.number ≡ c.args.turns = omega (arith, c.turns-test.false, c.turns.auto.number-end) in
    rw (all, c.names-names.ensures.value) at
    (all_used_up c.args.table.now.start c.names-names.result.now c.turns.game c.turns.number c.turns.text.items
    c.extend_from_slice.new.self.items c.in_ok-extend_from_slice.ensures.items c.turns.invariant)
