-- The texts read so far, and the values that are left.
use Rattle.dg_file.proofs.Common.{◌≡◌, option_map, sym, ap, ◌∙◌, map_push, as_str, view, items_view, texts_in_json}
use Rattle.dg_file.specs.Content.{each}
use Rattle.dg_file.proofs.Listing.{each-more, each-failed, each-all, listed-each}
use Rattle.dg_file.proofs.NamesRead.{the_text, texts}
use Rattle.dg_file.proofs.shape.vertices_from_json.Goals as goal
use Rattle.dg_file.proofs.shape.vertices_from_json.Goals.{After-deref-vertex-items}

read : (c : After-deref-vertex-items)
    → texts_in_json (view c.args.value.now) ≡ each as_str (items_view c.deref-vertex-items.result.now)
read c =
    listed-each as_str _ c.as_array.result c.in-Some.items c.deref-vertex-items.result.now c.as_array.ensures
    c.in-Some.is c.deref-vertex-items.ensures.value

pub loop-vertex-preserved : goal.loop-vertex-preserved
loop-vertex-preserved c =
    rw (c.in_ok-push.ensures.items, map_push the_text c.loop-vertex.vertices.items c.in-Some-as_str.name)
    (each-more as_str c.deref-vertex-items.result.now c.loop-vertex.vertex-index c.vertex-item.result
    (texts c.loop-vertex.vertices.items) c.in-Some-as_str.name.now c.loop-vertex-test.true c.vertex-item.is
    (sym c.as_str.ensures ∙ ap (option_map the_text) c.in-Some-as_str.is)
    c.loop-vertex.invariant)

pub returns-in_default-as_str : goal.returns-in_default-as_str
returns-in_default-as_str c =
    read (goal.at.returns-in_default-as_str c).After-deref-vertex-items
    ∙ each-failed as_str c.deref-vertex-items.result.now c.loop-vertex.vertex-index c.vertex-item.result
    (texts c.loop-vertex.vertices.items) c.loop-vertex-test.true c.vertex-item.is
    (sym c.as_str.ensures ∙ ap (option_map the_text) c.in_default-as_str.is)
    c.loop-vertex.invariant

pub returns : goal.returns
returns c =
    read (goal.at.returns c).After-deref-vertex-items
    ∙ each-all as_str c.deref-vertex-items.result.now c.loop-vertex.vertex-index
    (texts c.loop-vertex.vertices.items) c.loop-vertex-test.false c.loop-vertex.invariant
