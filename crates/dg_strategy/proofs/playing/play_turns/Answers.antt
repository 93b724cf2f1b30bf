use Rattle.std.specs.Borrow.{Bor}
use Rattle.dg_theory.specs.Multigraph.{Multigraph}
use Rattle.dg_strategy.specs.Choices.{Chooses}
use Rattle.dg_strategy.proofs.Common.{Option, Vector, Move, rules, ◌≡◌, ◌<◌, arith, refl, sym, ap, ◌∙◌, both_ways, Entry, Claim}
use Rattle.dg_strategy.proofs.Gained.{one_more, claimed_by, stopped_by, played_out}
use Rattle.dg_strategy.proofs.playing.play_turns.Goals as goal

pub returns-in_err-receipt : goal.returns-in_err-receipt
returns-in_err-receipt g c =
    let post = λ (p : Bor Multigraph) (q : Bor Vector) (m : Option Move).
    g.F.Fn.post c.args.choice.now (p, (q, tt)) m in
    let few : c.loop.counter < c.args.turns = omega (arith, c.loop-test.true) in
    let refused = c.in_err-receipt.ensures.fault in
    let stopped = stopped_by (Chooses post) g.N.Name.table c.loop.counter c.args.turns
    c.args.seat.now
    c.loop.seat c.play_turn.new.seat c.in_err-receipt.field-0.0 c.loop.invariant few refused.0 refused.1 in
    search rules

pub returns-then-is_claim : goal.returns-then-is_claim
returns-then-is_claim g c =
    let post = λ (p : Bor Multigraph) (q : Bor Vector) (m : Option Move).
    g.F.Fn.post c.args.choice.now (p, (q, tt)) m in
    let few : c.loop.counter < c.args.turns = omega (arith, c.loop-test.true) in
    let claim : c.in_ok-receipt.receipt.1.request ≡ Claim =
    ap (λ (e : Entry). e.request) (sym c.entry.ensures) ∙ c.if-is_claim.ensures.0 refl in
    claimed_by (Chooses post) g.N.Name.table c.args.seat.now c.loop.seat c.play_turn.new.seat
    c.in_ok-receipt.receipt c.loop.counter c.args.turns c.loop.invariant few c.in_ok-receipt.ensures.turn claim

pub loop-preserved : goal.loop-preserved
loop-preserved g c =
    let post = λ (p : Bor Multigraph) (q : Bor Vector) (m : Option Move).
    g.F.Fn.post c.args.choice.now (p, (q, tt)) m in
    let other : ¬ (c.in_ok-receipt.receipt.1.request ≡ Claim) = λ claim.
    both_ways _ c.if-is_claim.false (c.is_claim.ensures.1 (ap (λ (e : Entry). e.request)
    c.entry.ensures ∙ claim)) in
    one_more (Chooses post) g.N.Name.table c.args.seat.now c.loop.seat c.play_turn.new.seat
    c.in_ok-receipt.receipt c.loop.counter c.loop.invariant c.in_ok-receipt.ensures.turn other

pub returns : goal.returns
returns g c =
    let post = λ (p : Bor Multigraph) (q : Bor Vector) (m : Option Move).
    g.F.Fn.post c.args.choice.now (p, (q, tt)) m in
    let all : c.loop.counter ≡ c.args.turns = omega (arith, c.loop-test.false, c.loop.auto.counter-end) in
    played_out (Chooses post) g.N.Name.table c.args.turns c.args.seat.now c.loop.seat
    (rw all at c.loop.invariant)
