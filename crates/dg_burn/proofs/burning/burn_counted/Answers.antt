use Rattle.dg_burn.proofs.Common.{◌<◌, length, take, arith, refl, length-set, ◌∙◌, get_or-set_other, ints, take_more_set, BurnsNext, list_amounts, burns}
use Rattle.dg_burn.proofs.Rests.{none_after}
use Rattle.dg_burn.proofs.Steps.{count_unburnt-some, burning-lit, burning-fewer, burning-more, burning-done}
use Rattle.dg_burn.proofs.Told.{set_is_rest, rest_is_free, rest_counts, none_whole}
use Rattle.dg_burn.proofs.Fires.{fire-unlit, fire-room, fire-more, fire-counts, left-less, left-rest, burnt_out, least_burns}
use Rattle.dg_burn.proofs.burning.burn_counted.Goals as goal

pub burn_vertex-requires-clause-room : goal.burn_vertex-requires-clause-room
burn_vertex-requires-clause-room c =
    λ w. fire-room graph.now held.now new-unlit.result q w is_graph
    (fire-unlit graph.now held.now new-unlit.result new-unlit.ensures)
  where
    open c use {args.{graph, held, q}, new-unlit, size-size.{ensures.{graph as is_graph}}}

pub burning-init : goal.burning-init
burning-init c = record {
  state = burning-lit graph.now q (list_amounts held.now) (burns graph.now.size unlit) _ c.requires new-unlit.ensures.none_burns
      (left-less graph.now.size unlit lit q c.requires burnt.left);
  fire = fire-more graph.now held.now unlit lit q is_graph.multigraph c.requires (new-unlit.ensures.none_burns q)
      (fire-unlit graph.now held.now unlit new-unlit.ensures) burnt.left burnt.heat;
  places = refl;
  rest = none_after 15 q;
} where
  open c use {
    args.{graph, held, q},
    new-unlit,
    new-unlit.{result as unlit},
    burn_vertex.{new.{self as lit}, ensures as burnt},
    size-size.{ensures.{graph as is_graph}},
  }

pub bounds-order-count : goal.bounds-order-count
bounds-order-count c =
    let next :
    BurnsNext c.args.graph.now (list_amounts c.args.held.now) (burns c.args.graph.now.size c.burning.fire) c.in-Some.v =
    least_burns _ _ _ _ c.size-size.ensures.graph c.burning.invariant.fire c.in-Some.ensures in
    omega (
      arith,
      c.size-size.ensures.graph.few,
      c.burning.invariant.state.left,
      count_unburnt-some c.args.graph.now _ _ c.in-Some.v next,
    )

pub burn_vertex-requires-in-Some-clause-room : goal.burn_vertex-requires-in-Some-clause-room
burn_vertex-requires-in-Some-clause-room c = λ w.
    fire-room c.args.graph.now c.args.held.now c.burning.fire c.in-Some.v w c.size-size.ensures.graph
    c.burning.invariant.fire

pub burning-smaller : goal.burning-smaller
burning-smaller c =
    let next :
    BurnsNext c.args.graph.now (list_amounts c.args.held.now) (burns c.args.graph.now.size c.burning.fire) c.in-Some.v =
    least_burns _ _ _ _ c.size-size.ensures.graph c.burning.invariant.fire c.in-Some.ensures in
    let more = left-less c.args.graph.now.size c.burning.fire c.burn_vertex-in-Some.new.self c.in-Some.v next.may.vertex
    c.burn_vertex-in-Some.ensures.left in
    omega (arith, burning-fewer c.args.graph.now _ _ _ c.in-Some.v next more)

pub burning-preserved : goal.burning-preserved
burning-preserved c =
    let next :
    BurnsNext c.args.graph.now (list_amounts c.args.held.now) (burns c.args.graph.now.size c.burning.fire) c.in-Some.v =
    least_burns _ _ _ _ c.size-size.ensures.graph c.burning.invariant.fire c.in-Some.ensures in
    let more = left-less c.args.graph.now.size c.burning.fire c.burn_vertex-in-Some.new.self c.in-Some.v next.may.vertex
    c.burn_vertex-in-Some.ensures.left in
    let within : c.burning.count < length c.burning.order = omega (
      arith,
      c.burning.invariant.places,
      c.size-size.ensures.graph.few,
      c.burning.invariant.state.left,
      burning-fewer c.args.graph.now _ _ _ c.in-Some.v next more,
    ) in
    record {
      state = rw (take_more_set c.burning.order c.burning.count c.in-Some.v within)
          (burning-more _ _ _ _ _ _ _ c.in-Some.v c.burning.invariant.state next
          more);
      fire = fire-more c.args.graph.now c.args.held.now c.burning.fire c.burn_vertex-in-Some.new.self c.in-Some.v
          c.size-size.ensures.graph.multigraph next.may.vertex
          next.may.unburnt c.burning.invariant.fire
          c.burn_vertex-in-Some.ensures.left c.burn_vertex-in-Some.ensures.heat;
      places = length-set _ _ _ ∙ c.burning.invariant.places;
      rest = λ i past. get_or-set_other c.burning.order c.burning.count i c.in-Some.v 0 (omega arith)
          ∙ c.burning.invariant.rest i (omega arith);
    }

pub returns-clause-order : goal.returns-clause-order
returns-clause-order c = burning-done _ _ _ _ _ _ c.burning.invariant.state
    (burnt_out _ _ _ c.size-size.ensures.graph c.burning.invariant.fire c.in_default.ensures)

pub returns-clause-left : goal.returns-clause-left
returns-clause-left c =
    set_is_rest c.args.graph.now _ _ _ _ c.size-size.ensures.size c.burning.invariant.state.same
    (left-rest c.args.graph.now.size c.size-size.result c.burning.fire c.size-size.ensures.size
    c.burning.invariant.fire.inside)

pub returns-clause-unburnt : goal.returns-clause-unburnt
returns-clause-unburnt c =
    rest_is_free c.args.graph.now c.args.q (list_amounts c.args.held.now)
    (take c.burning.count c.burning.order) c.burning.fire.left
    c.size-size.ensures.graph.multigraph c.requires (λ v _ _. omega (arith, ints)) (returns-clause-order c)
    (returns-clause-left c)

pub returns-clause-joined : goal.returns-clause-joined
returns-clause-joined c = λ v.
    fire-counts c.args.graph.now c.args.held.now c.new-unlit.result c.burning.fire c.heat_gain.result v
    c.size-size.ensures.graph c.new-unlit.ensures c.burning.invariant.fire
    c.heat_gain.ensures.gained c.heat_gain.ensures.past
    ∙ rest_counts c.args.graph.now (take c.burning.count c.burning.order)
    (burns c.args.graph.now.size c.burning.fire) c.burning.fire.left v
    c.burning.invariant.state.same (returns-clause-left c)

pub returns-clause-whole : goal.returns-clause-whole
returns-clause-whole c =
    none_whole c.args.graph.now _ _ _ _ _ _ _ c.burning.invariant.state c.size-size.ensures.size
    (left-rest c.args.graph.now.size c.size-size.result c.burning.fire c.size-size.ensures.size
    c.burning.invariant.fire.inside)
