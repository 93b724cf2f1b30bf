-- The numbers read so far, and the values that are left.
use Rattle.dg_file.proofs.Common.{◌≡◌, sym, ◌∙◌, w64, rules, to_z-of_z, view, items_view, numbers_in_json, whole}
use Rattle.dg_file.specs.Content.{each}
use Rattle.dg_file.proofs.Listing.{each-more, each-failed, each-all, listed-each}
use Rattle.dg_file.proofs.shape.amounts_from_json.Goals as goal
use Rattle.dg_file.proofs.shape.amounts_from_json.Goals.{After-deref-item-items}

read : (c : After-deref-item-items)
    → numbers_in_json (view c.args.value.now) ≡ each whole (items_view c.deref-item-items.result.now)
read c =
    listed-each whole _ c.as_array.result c.in-Some.items c.deref-item-items.result.now c.as_array.ensures
    c.in-Some.is c.deref-item-items.ensures.value

pub loop-item-preserved : goal.loop-item-preserved
loop-item-preserved c =
    rw (c.in_ok-push.ensures.items, to_z-of_z w64 c.in-Some-as_i64.amount (search rules))
    (each-more whole c.deref-item-items.result.now c.loop-item.item-index c.item-item.result c.loop-item.amounts.items
    c.in-Some-as_i64.amount c.loop-item-test.true c.item-item.is (sym c.as_i64.ensures ∙ c.in-Some-as_i64.is)
    c.loop-item.invariant)

pub returns-in_default-as_i64 : goal.returns-in_default-as_i64
returns-in_default-as_i64 c =
    read (goal.at.returns-in_default-as_i64 c).After-deref-item-items
    ∙ each-failed whole c.deref-item-items.result.now c.loop-item.item-index c.item-item.result
    c.loop-item.amounts.items c.loop-item-test.true c.item-item.is
    (sym c.as_i64.ensures ∙ c.in_default-as_i64.is) c.loop-item.invariant

pub returns : goal.returns
returns c =
    read (goal.at.returns c).After-deref-item-items
    ∙ each-all whole c.deref-item-items.result.now c.loop-item.item-index c.loop-item.amounts.items
    c.loop-item-test.false c.loop-item.invariant
