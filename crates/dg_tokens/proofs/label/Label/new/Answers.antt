-- The sign is the last byte, the name stands before it, and the space before the name.
use Rattle.dg_tokens.proofs.Common.{◌-◌, [], ◌∷◌, length, refl, arith, length-append}
use Rattle.dg_tokens.proofs.Writing.{label_made}
use Rattle.dg_tokens.proofs.label.Label.new.Goals as goal

pub returns : goal.returns
returns c = record {
  text = label_made c.args.name.now _ c.copy_from_slice.new.self (16 - length c.args.name.now) _ refl refl c.requires
      refl c.copy_from_slice.ensures.after refl;
  start = omega (arith, c.requires, length-append c.args.name.now (61 ∷ []));
}
