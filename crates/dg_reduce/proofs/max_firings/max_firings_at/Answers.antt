-- A vertex of the set has a dollar for each edge out of it.
use Rattle.dg_reduce.proofs.Common.{◌≡◌, ◌∙◌, true, sym, refl, arith, ints, inl, inr, pos, ◌≤ℤ◌, w128, to_z, of_z, edges_out, in_set, at}
use Rattle.dg_reduce.proofs.max_firings.max_firings_at.Goals as goal

pub max_firings_within-requires-clause-once : goal.max_firings_within-requires-clause-once
max_firings_within-requires-clause-once c =
    let held : pos (edges_out c.args.graph.now (in_set c.args.set) c.args.v) ≤ℤ at c.args.chips.now c.args.v =
    c.requires.once (sym c.contains.ensures ∙ c.if-not-contains.false) in
    omega (arith, ints, c.edges_out-edges.ensures.sum, c.get.ensures)

pub returns-then-not-contains : goal.returns-then-not-contains
returns-then-not-contains c =
    let outside : in_set c.args.set c.args.v ≡ true → ⊥ =
    λ member. cc (member, c.contains.ensures, c.if-not-contains.true) in
    record {
      some = omega (arith, ints);
      few = omega (arith, ints);
      enough = λ member. absurd (outside member);
      last = inr (refl, λ member. absurd (outside member));
    }

pub returns-then-edges-eq0 : goal.returns-then-edges-eq0
returns-then-edges-eq0 c =
    let none : edges_out c.args.graph.now (in_set c.args.set) c.args.v ≡ 0 =
    sym c.edges_out-edges.ensures.sum ∙ c.if-edges-eq0.true in
    record {
      some = omega (arith, ints);
      few = omega (arith, ints);
      enough = λ member. rw none (rw none at c.requires.once member);
      last = inr (refl, λ member. none);
    }

pub returns : goal.returns
returns c =
    let times : to_z w128 (of_z w128 c.max_firings_within.result) ≡ c.max_firings_within.result = omega (arith, ints) in
    let amount : to_z w128 (of_z w128 c.get.result) ≡ at c.args.chips.now c.args.v = omega (arith, ints, c.get.ensures) in
    rw times (record {
      some = c.max_firings_within.ensures.some;
      few = omega (arith, ints);
      enough = λ member. rw (amount, c.edges_out-edges.ensures.sum) at c.max_firings_within.ensures.enough;
      last = inl (
        sym c.contains.ensures ∙ c.if-not-contains.false,
        rw (amount, c.edges_out-edges.ensures.sum) at c.max_firings_within.ensures.last,
      );
    })
