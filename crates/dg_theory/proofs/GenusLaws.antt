-- The degree of a divisor that is reduced for q and in debt at q. All vertices but q form a set; as long as it has a
-- vertex, one that holds fewer dollars than edges lead from it out of the set leaves, until none is left.
--   IsPaid g q R S        q is not in S, and the sum of R + 1 outside S is at most R q + 1 and the number of edges
--                         there
--   paid_start            so it is where only q is outside S
--   paid_next             so it stays if a vertex leaves that holds fewer dollars than it has edges out of S
--   paid_to_end           if the divisor is reduced, so it is for a set without vertices
--   reduced-degree        then the degree and the number of vertices are at most R q + 1 and the number of edges
--   reduced_below_genus   the law: so the degree is below the genus if q is in debt
use Rattle.dg_theory.proofs.Common.{◌≡◌, ℕ, zero, suc, ◌+◌, ◌<◌, ◌≤◌, Bool, true, false, arith, refl, ⊎_elim, ◌≤ℤ◌, ◌<ℤ◌, ints, false_from_ne_true, both_ways, pos, ◌+ℤ◌, Multigraph, IsMultigraph, edges_between, edge_count, Amounts, degree, edges_out, IsReduced, ReducedBelowGenus, genus}
use Rattle.dg_theory.proofs.SumLaws.{sum_below-zero}
use Rattle.dg_theory.proofs.Counting.{count_of, count_of-some, count_of-more, member_or_none}
use Rattle.dg_theory.proofs.Leaving.{removed, removed-here, removed-of, burnt_edges, burnt_weight, burnt_edges-removed, burnt_weight-removed, burnt_edges-all, burnt_weight-all}

pub record IsPaid (g : Multigraph) (q : ℕ) (R : Amounts) (S : ℕ → Bool) : Type 0 where
  pub without : S q ≡ false
  pub paid : burnt_weight g.size R S ≤ℤ (pos (burnt_edges g.size (edges_between g) S) +ℤ (R q +ℤ pos 1))

paid_start : (g : Multigraph) (q : ℕ) (R : Amounts) → q < g.size → IsPaid g q R (removed (λ _. true) q)
paid_start g q R vertex = record {
  without = removed-here (λ _. true) q;
  paid =
      let none : burnt_weight g.size R (λ _. true) ≡ pos 0 = sum_below-zero g.size (λ _. pos 0) (λ w _. refl) in
      let first : burnt_weight g.size R (removed (λ _. true) q) ≡ burnt_weight g.size R (λ _. true) +ℤ (R q +ℤ pos 1) =
      burnt_weight-removed g.size R (λ _. true) q vertex refl in
      omega (arith, ints);
}

pub paid_next : (g : Multigraph) (q : ℕ) (R : Amounts) (S : ℕ → Bool) (v : ℕ) → IsMultigraph g → IsPaid g q R S →
    v < g.size → S v ≡ true → R v <ℤ pos (edges_out g S v) → IsPaid g q R (removed S v)
paid_next g q R S v graph before inside member less = record {
  without = false_from_ne_true (removed S v q) (λ in_q.
      both_ways _ before.without (removed-of S v q in_q));
  paid =
      let edges : burnt_edges g.size (edges_between g) (removed S v)
      ≡ burnt_edges g.size (edges_between g) S + edges_out g S v =
      burnt_edges-removed g.size (edges_between g) S v graph.symmetric inside member in
      let weight : burnt_weight g.size R (removed S v) ≡ burnt_weight g.size R S +ℤ (R v +ℤ pos 1) =
      burnt_weight-removed g.size R S v inside member in
      let paid = before.paid in
      omega (arith, ints);
}

pub paid_to_end : (g : Multigraph) (q : ℕ) (R : Amounts) → IsMultigraph g → IsReduced g q R → (k : ℕ) (S : ℕ → Bool) →
    count_of g.size S ≤ k → IsPaid g q R S →
    (T : ℕ → Bool) × IsPaid g q R T × ((w : ℕ) → w < g.size → T w ≡ false)
paid_to_end g q R graph reduced zero S few paid = (
  S,
  paid,
  λ w below. false_from_ne_true (S w)
      (λ member. absurd (omega (arith, count_of-some g.size S w below member))),
)
paid_to_end g q R graph reduced (suc k) S few paid =
    ⊎_elim
    (λ (some : (u : ℕ) × (u < g.size) × (S u ≡ true)).
    let (v, inside, member, less) = reduced.none_fires S paid.without some.0 some.1 some.2 in
    let fewer : count_of g.size (removed S v) < count_of g.size S =
    count_of-more g.size (removed S v) S (removed-of S v) v inside (removed-here S v) member in
    paid_to_end g q R graph reduced k (removed S v) (omega arith) (paid_next g q R S v graph paid inside member less))
    (λ (none : (w : ℕ) → w < g.size → S w ≡ false). (S, paid, none))
    (member_or_none g.size S)

pub reduced-degree : (g : Multigraph) (q : ℕ) (R : Amounts) → IsMultigraph g → q < g.size → IsReduced g q R →
    degree g.size R ≤ℤ (genus g +ℤ R q)
reduced-degree g q R graph vertex reduced =
    let S : ℕ → Bool = removed (λ _. true) q in
    let (T, end, none) =
    paid_to_end g q R graph reduced (count_of g.size S) S (omega arith) (paid_start g q R vertex) in
    let paid = end.paid in
    let weight : burnt_weight g.size R T ≡ degree g.size R +ℤ pos g.size = burnt_weight-all g.size R T none in
    let edges : burnt_edges g.size (edges_between g) T ≡ edge_count g =
    burnt_edges-all g.size (edges_between g) T none in
    omega (arith, ints)

pub reduced_below_genus : ReducedBelowGenus
reduced_below_genus g q R graph vertex reduced debt =
    omega (arith, ints, reduced-degree g q R graph vertex reduced)
