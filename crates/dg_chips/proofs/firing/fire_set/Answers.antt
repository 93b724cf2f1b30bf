-- The set is one of vertices, and not empty.
use Rattle.dg_chips.proofs.firing.fire_set.Goals as goal

pub returns-then-not-is_vertex_set : goal.returns-then-not-is_vertex_set
returns-then-not-is_vertex_set c = rw c.size.ensures.size at c.if-not-is_vertex_set.ensures.past

pub after_firing-requires-clause-vertices : goal.after_firing-requires-clause-vertices
after_firing-requires-clause-vertices c = rw c.size.ensures.size at c.if-not-is_vertex_set.ensures.within

pub returns-in-Some : goal.returns-in-Some
returns-in-Some c =
    let (size, amounts, divisor) = c.in-Some.ensures in
    record {
      playable = (c.if-set-eq0.false, rw c.size.ensures.size at c.if-not-is_vertex_set.ensures.within);
      size = size;
      divisor = divisor;
      amounts = amounts;
    }

pub returns-in-None : goal.returns-in-None
returns-in-None c =
    ((c.if-set-eq0.false, rw c.size.ensures.size at c.if-not-is_vertex_set.ensures.within), c.in-None.ensures)
