-- The object has four members, and each part is found in it.
use Rattle.dg_file.proofs.Common.{arith}
use Rattle.dg_file.proofs.Listing.{parts-given, parts-counted}
use Rattle.dg_file.proofs.shape.members_from_json.Goals as goal

pub returns-then-not-has_four : goal.returns-then-not-has_four
returns-then-not-has_four c = λ parts.
    parts-counted _ c.in_ok-as_object.field-0.now.entries parts c.in_ok-as_object.ensures
    (λ four. omega (arith, c.if-not-has_four.true, c.len-has_four.ensures.len, four))

pub returns : goal.returns
returns c = parts-given _ c.in_ok-as_object.field-0.now.entries _ c.in_ok-as_object.ensures
    (omega (arith, c.if-not-has_four.false, c.len-has_four.ensures.len)) c.in_ok-get.ensures c.in_ok-get-2.ensures
    c.in_ok-get-3.ensures c.in_ok-get-4.ensures
