use Rattle.dg_tokens.proofs.Common.{◌-◌, arith, refl, rules}
use Rattle.dg_tokens.proofs.Writing.{label_written}
use Rattle.dg_tokens.proofs.label.Label.write.Goals as goal

pub returns-clause-written : goal.returns-clause-written
returns-clause-written c =
    label_written (c.args.end - 18) c.args.end c.args.self.now.start c.args.line.now c.args.self.now.bytes _
    (omega arith) (omega arith) (omega arith) (search rules) refl
