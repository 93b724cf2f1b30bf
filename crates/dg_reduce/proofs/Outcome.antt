-- What a reduction comes to.
--   reduced_few       off q, a reduced divisor holds at most 62 dollars
--   script_near       the entries of a script that leads to a reduced divisor are near to its entry at q
--   relative_leads    a script less its entry at q leads to where the script leads
--   reduced_only      the reduced divisor and its script that is 0 at q are the only ones
--   reduction_within  a reduced divisor and a script that leads to it and is 0 at q are a reduction, within a bound
--                     that the range of the amounts gives
use Rattle.dg_reduce.proofs.Common.{◌≡◌, ◌≢◌, ℕ, ◌+◌, ◌*◌, ◌<◌, ◌≤◌, ◌==◌, Bool, arith, ap, sym, ◌∙◌, refl, ints, eq-eqb, eqb-true, ne_eqb, pos, ◌+ℤ◌, ◌-ℤ◌, ◌≤ℤ◌, unsigned_abs, Multigraph, valence, Amounts, DivisorsAgreeOn, AreEquivalent, FiresTo, fired, edges_out, IsReduced, script_bound, same_by_constant, out-le-valence, agree-trans, equivalent-fired, equivalent-sym, equivalent-trans, reduced_once, fired-shifted, IsGraph, at, Reduced, IsUniqueReduction, IsReduction}

pub reduced_few : (g : Multigraph) (q : ℕ) (D : Amounts) (v : ℕ) → IsGraph g → IsReduced g q D → v < g.size → v ≢ q →
    D v ≤ℤ pos 62
reduced_few g q D v graph reduced inside other =
    let S : ℕ → Bool = λ w. w == v in
    let (u, below, member, less) = reduced.none_fires S (ne_eqb q v (λ e. other (sym e))) v inside (eq-eqb v v refl) in
    let out : edges_out g S u ≤ valence g u = out-le-valence g S u in
    let few : valence g u ≤ 63 = graph.valences u below in
    let same : D u ≡ D v = ap D (eqb-true u v member) in
    omega (arith, ints)

pub script_near : (g : Multigraph) (q : ℕ) (D R s : Amounts) (M : ℕ) → IsGraph g → q < g.size →
    ((v : ℕ) → v < g.size → unsigned_abs (D v) ≤ M) → IsReduced g q R → ((v : ℕ) → v < g.size → R v ≡ fired g D s v) →
    (v : ℕ) → v < g.size → unsigned_abs (s v -ℤ s q) ≤ 225 * (M + 62)
script_near g q D R s M graph vertex range reduced leads v inside =
    script_bound g q D s M graph.multigraph vertex graph.few range
    (λ w below other. rw (← leads w below)
    (reduced.no_debt w below other, reduced_few g q R w graph reduced below other)) v inside

pub relative_leads : (g : Multigraph) (q : ℕ) (D R s t : Amounts) → ((v : ℕ) → v < g.size → R v ≡ fired g D s v) →
    ((v : ℕ) → v < g.size → t v ≡ s v -ℤ s q) → (v : ℕ) → v < g.size → R v ≡ fired g D t v
relative_leads g q D R s t leads relative v inside =
    leads v inside
    ∙ fired-shifted g D s t (s q)
    (λ w below. let at : t w ≡ s w -ℤ s q = relative w below in omega (arith, ints)) v inside

pub reduced_only : (g : Multigraph) (q : ℕ) (D R s : Amounts) → IsGraph g → q < g.size → IsReduced g q R →
    ((v : ℕ) → v < g.size → R v ≡ fired g D s v) → s q ≡ pos 0 → IsUniqueReduction g q D R s
reduced_only g q D R s graph vertex reduced leads at_q t also_q other v inside =
    let class : AreEquivalent g (fired g D t) R =
    equivalent-trans g (fired g D t) D R (equivalent-sym g D (fired g D t) (equivalent-fired g D t)) (s, leads) in
    let once : DivisorsAgreeOn g.size (fired g D t) R = reduced_once g q (fired g D t) R vertex class other reduced in
    let same : DivisorsAgreeOn g.size (fired g D t) (fired g D s) =
    agree-trans g.size (fired g D t) R (fired g D s) once leads in
    let (x, shift) = (same_by_constant g D t s graph.multigraph).0 same in
    let at_v : t v ≡ s v +ℤ x = shift v inside in
    let there : t q ≡ s q +ℤ x = shift q vertex in
    (omega (arith, ints), once v inside)

pub reduction_within : (g : Multigraph) (q : ℕ) (D : Amounts) (M bound : ℕ) (x : Reduced) → IsGraph g → q < g.size →
    ((v : ℕ) → v < g.size → unsigned_abs (D v) ≤ M) → (x.divisor.size ≡ g.size) × (x.script.size ≡ g.size) →
    IsReduced g q (at x.divisor) → FiresTo g (at x.script) D (at x.divisor) → at x.script q ≡ pos 0 →
    225 * (M + 62) ≤ bound → IsReduction g q D bound x
reduction_within g q D M bound x graph vertex range sizes reduced led at_q enough = record {
  sizes = sizes;
  reduced = reduced;
  led = led;
  at_q = at_q;
  limit = λ v inside.
      let near : unsigned_abs (at x.script v -ℤ at x.script q) ≤ 225 * (M + 62) =
      script_near g q D (at x.divisor) (at x.script) M graph vertex range reduced led v inside in
      let same : at x.script v -ℤ at x.script q ≡ at x.script v = omega (arith, ints) in
      let small : unsigned_abs (at x.script v) ≤ 225 * (M + 62) = rw same at near in
      omega arith;
  only = reduced_only g q D (at x.divisor) (at x.script) graph vertex reduced led at_q;
}
