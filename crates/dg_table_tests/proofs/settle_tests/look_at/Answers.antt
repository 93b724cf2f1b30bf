use Rattle.std.proofs.Common.{◌≡◌, [], ◌∷◌, ◌++◌, Some, rules}
use Rattle.dg_table.proofs.Findings.{look_of}
use Rattle.dg_table_tests.proofs.settle_tests.look_at.Goals as goal

pub returns-clause-look : goal.returns-clause-look
returns-clause-look g c =
    let entered = c.in_ok-receipt.ensures.answered.1 in
    let mine : c.call.new.seat.mine ≡ c.args.seat.now.mine ++ c.in_ok-receipt.receipt ∷ [] = entered.mine in
    let found : c.look_data.result ≡ Some c.in_ok-data.data = search rules in
    look_of c.args.seat.now.mine c.in_ok-receipt.receipt c.in_ok-data.data entered.request'
    (rw (mine, found) at c.look_data.ensures.look)
