use Rattle.dg_log.proofs.Common.{◌<◌, ◌≤◌, length, arith}
use Rattle.dg_log.proofs.ReceiptSets.{began_seen, seen_length, longer_first, longer_second}
use Rattle.dg_log.proofs.prefix.Prefix.longer.Goals as goal

pub returns-then-self-other : goal.returns-then-self-other
returns-then-self-other g c =
    let mine = seen_length _ c.self.view_is in
    let yours = seen_length _ c.other.view_is in
    let few : length c.args.self.now ≤ length c.args.other.now =
    omega (arith, c.if-self-other.true, c.self.invariant.0, c.other.invariant.0) in
    longer_second c.args.self.now c.args.other.now c.copy.result
    (began_seen _ _ _ c.self.view_is c.other.view_is c.agree.ensures c.self.invariant.1 c.other.invariant.1 few)
    c.copy.ensures few

pub returns-else-self-other : goal.returns-else-self-other
returns-else-self-other g c =
    let mine = seen_length _ c.self.view_is in
    let yours = seen_length _ c.other.view_is in
    let more : length c.args.other.now < length c.args.self.now =
    omega (arith, c.if-self-other.false, c.self.invariant.0, c.other.invariant.0) in
    longer_first c.args.self.now c.args.other.now c.copy-else-self-other.result
    (began_seen _ _ _ c.other.view_is c.self.view_is c.agree-else-self-other.ensures c.other.invariant.1 c.self.invariant.1
    (omega (arith, more)))
    c.copy-else-self-other.ensures more
