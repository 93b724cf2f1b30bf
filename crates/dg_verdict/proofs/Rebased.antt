-- A verdict that is carried along a drift m: its script s becomes s less m, with m's number for q added.
--   rebased_leads   the new script leads from the divisor after the drift to the same reduced divisor
--   rebased_small   if that divisor is in range, the new script fits
--   rebased_right   the verdict with the new script is right for it
use Rattle.dg_verdict.proofs.Common.{◌≡◌, ℕ, ◌+◌, ◌*◌, ◌<◌, ◌≤◌, arith, sym, ◌∙◌, unsigned_abs, ints, pos, ◌+ℤ◌, ◌-ℤ◌, Multigraph, Amounts, DivisorsAgreeOn, fired, FiresTo, fired-fired, fired-shifted, equivalent-fired, equivalent-winnable, Vector, at, script_near, Verdict, IsRightVerdict, IsRebasable}

pub rebased_leads : (g : Multigraph) (q : ℕ) (D R s m t : Amounts) → FiresTo g s D R →
    DivisorsAgreeOn g.size t (λ v. s v -ℤ m v +ℤ m q) → FiresTo g t (fired g D m) R
rebased_leads g q D R s m t leads rebases v inside =
    leads v inside
    ∙ sym (fired-fired g D m t v
    ∙ fired-shifted g D (λ w. m w +ℤ t w) s (m q)
    (λ w below. let here : t w ≡ s w -ℤ m w +ℤ m q = rebases w below in omega (arith, ints)) v inside)

pub rebased_small : (q : ℕ) (x : Verdict) (m : Vector) → IsRebasable q x m → (v : ℕ) → v < x.script.size →
    unsigned_abs (at x.script v -ℤ at m v +ℤ at m q) ≤ 1000000000
rebased_small q x m can v inside =
    let t : Amounts = λ w. at x.script w -ℤ at m w +ℤ at m q in
    let leads : (w : ℕ) → w < can.graph.size → at x.reduced w ≡ fired can.graph (fired can.graph can.start (at m)) t w =
    rebased_leads can.graph q can.start (at x.reduced) (at x.script) (at m) t can.right.led
    (λ w below. omega (arith, ints)) in
    let near : unsigned_abs (t v -ℤ t q) ≤ 225 * (1000000 + 62) =
    script_near can.graph q (fired can.graph can.start (at m))
    (at x.reduced) t 1000000 can.is_graph can.vertex can.in_range
    can.right.reduced leads v (omega (arith, can.right.script_size)) in
    let at_q : at x.script q ≡ pos 0 = can.right.at_q in
    let same : t v -ℤ t q ≡ t v = omega (arith, ints) in
    let small : unsigned_abs (t v) ≤ 225 * (1000000 + 62) = rw same at near in
    omega arith

pub rebased_right : (g : Multigraph) (q : ℕ) (D : Amounts) (x : Verdict) (m t : Vector) → q < g.size → IsRightVerdict g q D x →
    m.size ≡ g.size → t.size ≡ x.script.size →
    ((v : ℕ) → v < x.script.size → at t v ≡ at x.script v -ℤ at m v +ℤ at m q) →
    IsRightVerdict g q (fired g D (at m)) record { winnable = x.winnable; script = t; reduced = x.reduced; order = x.order }
rebased_right g q D x m t vertex right drift size rebases =
    let within : (v : ℕ) → v < g.size → at t v ≡ at x.script v -ℤ at m v +ℤ at m q =
    λ v inside. rebases v (omega (arith, right.script_size)) in
    record {
      script_size = size ∙ right.script_size;
      reduced_size = right.reduced_size;
      at_q =
          let before : at x.script q ≡ pos 0 = right.at_q in
          let after : at t q ≡ at x.script q -ℤ at m q +ℤ at m q = within q vertex in
          omega (arith, ints);
      led = rebased_leads g q D (at x.reduced) (at x.script) (at m) (at t) right.led within;
      reduced = right.reduced;
      order = right.order;
      winnable = (
        λ told. (equivalent-winnable g D (fired g D (at m)) (equivalent-fired g D (at m))).0 (right.winnable.0 told),
        λ win. right.winnable.1 ((equivalent-winnable g D (fired g D (at m)) (equivalent-fired g D (at m))).1 win),
      );
    }
