-- Where nobody off q is in debt, the divisor is reduced or some set fires freely. All vertices but q form a set; a
-- vertex that holds fewer dollars than edges lead from it out of the set leaves, one after another.
--   Falls g D T v         v is a vertex of T and holds fewer dollars than edges lead from it out of T
--   AreVertices g S       the set S holds vertices only
--   out-le-out            from a vertex, no more edges lead out of a set than out of a set within it
--   Holds g q D S         each set without q in which no vertex falls lies within S
--   holds_start           the set of all vertices but q holds each such set
--   holds_next            so does S without a vertex that falls in S, where S does
--   reduced_or_fires      the divisor is reduced, or some set with a vertex fires freely
use Rattle.dg_theory.proofs.Common.{if◌then◌else◌, ◌≡◌, ◌≢◌, ℕ, zero, suc, ◌<◌, ◌≤◌, ◌⊎◌, inl, inr, Bool, true, false, ◌&&◌, arith, refl, sym, ap, ◌∙◌, ⊎_elim, nat_lt, ◌≤ℤ◌, ◌<ℤ◌, le_z, ints, by_lt_z, cases_Bool, lt-ltb, ltb-true, and_parts, and_from, false_from_ne_true, both_ways, Multigraph, edges_between, Amounts, IsEffectiveOff, edges_out, IsReduced, IsLegalSetFiring}
use Rattle.std.specs.Prelude.{pos, ◌+ℤ◌}
use Rattle.dg_theory.proofs.TotalLaws.{nat_sum_below-le}
use Rattle.dg_theory.proofs.SetFiring.{inside-fired, outside-fired}
use Rattle.dg_theory.proofs.Counting.{count_of, count_of-some, count_of-more, member_or_none}
use Rattle.dg_theory.proofs.Leaving.{removed, removed-here, removed-other, removed-of}

abbrev pub Falls : Multigraph → Amounts → (ℕ → Bool) → ℕ → Type 0
Falls g D T v = (v < g.size) × (T v ≡ true) × (D v <ℤ pos (edges_out g T v))

abbrev pub IsPartOf : Multigraph → (ℕ → Bool) → (ℕ → Bool) → Type 0
IsPartOf g T S = (w : ℕ) → w < g.size → T w ≡ true → S w ≡ true

abbrev pub AreVertices : Multigraph → (ℕ → Bool) → Type 0
AreVertices g S = (v : ℕ) → S v ≡ true → v < g.size

-- all vertices but q
abbrev all_but : Multigraph → ℕ → ℕ → Bool
all_but g q = removed (λ v. nat_lt v g.size) q

abbrev pub Holds : Multigraph → ℕ → Amounts → (ℕ → Bool) → Type 0
Holds g q D S = (T : ℕ → Bool) → T q ≡ false → ((v : ℕ) × Falls g D T v) ⊎ IsPartOf g T S

-- edges that count where b fails, and where c fails
out-le-out-once : (b c : Bool) (e : ℕ) → (c ≡ true → b ≡ true) → (if b then 0 else e) ≤ (if c then 0 else e)
out-le-out-once true c e kept = omega arith
out-le-out-once false true e kept = absurd (both_ways _ refl (kept refl))
out-le-out-once false false e kept = omega arith

pub out-le-out : (g : Multigraph) (T S : ℕ → Bool) (v : ℕ) → IsPartOf g T S → edges_out g S v ≤ edges_out g T v
out-le-out g T S v within =
    nat_sum_below-le g.size _ _ (λ w below. out-le-out-once (S w) (T w) (edges_between g v w) (within w below))

holds_start : (g : Multigraph) (q : ℕ) (D : Amounts) → Holds g q D (all_but g q)
holds_start g q D T without = inr (λ w below member.
    let other : w ≢ q = λ same. both_ways _ without (ap T (sym same) ∙ member) in
    removed-other (λ v. nat_lt v g.size) q w other ∙ lt-ltb w g.size below)

holds_next : (g : Multigraph) (q : ℕ) (D : Amounts) (S : ℕ → Bool) (v : ℕ) → Holds g q D S → Falls g D S v →
    Holds g q D (removed S v)
holds_next g q D S v holds (inside, member, less) T without =
    ⊎_elim
    (λ (falls : (u : ℕ) × Falls g D T u). inl falls)
    (λ (within : IsPartOf g T S). ⊎_elim
    (λ (in_T : T v ≡ true). inl (v, (inside, in_T, omega (arith, ints, out-le-out g T S v within))))
    (λ (off_T : T v ≡ false). inr (λ w below in_w.
    let other : w ≢ v = λ same. both_ways _ off_T (ap T (sym same) ∙ in_w) in
    removed-other S v w other ∙ within w below in_w))
    (cases_Bool (T v)))
    (holds T without)

-- the test for a vertex that falls
abbrev falls_in : Multigraph → Amounts → (ℕ → Bool) → ℕ → Bool
falls_in g D S v = S v && le_z (D v +ℤ pos 1) (pos (edges_out g S v))

falls_if : (g : Multigraph) (D : Amounts) (S : ℕ → Bool) (v : ℕ) → v < g.size → falls_in g D S v ≡ true → Falls g D S v
falls_if g D S v inside test =
    let (member, less) = and_parts (S v) (le_z (D v +ℤ pos 1) (pos (edges_out g S v))) test in
    (inside, member, omega (arith, ints))

stands_if : (g : Multigraph) (D : Amounts) (S : ℕ → Bool) (v : ℕ) → falls_in g D S v ≡ false → S v ≡ true →
    pos (edges_out g S v) ≤ℤ D v
stands_if g D S v test member =
    by_lt_z (D v) (pos (edges_out g S v))
    (λ less. absurd (both_ways _ test (and_from (S v) _ member (sym (omega (arith, ints))))))
    (λ enough. omega (arith, ints, enough))

fires_if : (g : Multigraph) (q : ℕ) (D : Amounts) (S : ℕ → Bool) → IsEffectiveOff g q D → AreVertices g S → S q ≡ false →
    ((v : ℕ) → v < g.size → falls_in g D S v ≡ false) → IsLegalSetFiring g q D S
fires_if g q D S solvent vertices without none = record {
  vertices = vertices;
  without = without;
  no_debt = λ v below other. ⊎_elim
      (λ (inside : S v ≡ true). inside-fired g D S v inside (stands_if g D S v (none v below) inside))
      (λ (outside : S v ≡ false). outside-fired g D S v outside (solvent v below other))
      (cases_Bool (S v));
}

reduced_if : (g : Multigraph) (q : ℕ) (D : Amounts) (S : ℕ → Bool) → IsEffectiveOff g q D → Holds g q D S →
    ((v : ℕ) → v < g.size → S v ≡ false) → IsReduced g q D
reduced_if g q D S solvent holds empty = record {
  no_debt = solvent;
  none_fires = λ T without u below member. ⊎_elim
      (λ (falls : (v : ℕ) × Falls g D T v). (falls.0, falls.1.0, falls.1.1, falls.1.2))
      (λ (within : IsPartOf g T S). absurd (both_ways _ (empty u below) (within u below member)))
      (holds T without);
}

abbrev pub FiresSome : Multigraph → ℕ → Amounts → Type 0
FiresSome g q D = (S : ℕ → Bool) × IsLegalSetFiring g q D S × ((v : ℕ) × (v < g.size) × (S v ≡ true))

-- with at most k vertices in S
burnt_down : (g : Multigraph) (q : ℕ) (D : Amounts) → IsEffectiveOff g q D → (k : ℕ) (S : ℕ → Bool) →
    count_of g.size S ≤ k → AreVertices g S → S q ≡ false → Holds g q D S → IsReduced g q D ⊎ FiresSome g q D
burnt_down g q D solvent zero S few vertices without holds =
    inl (reduced_if g q D S solvent holds (λ w below. false_from_ne_true (S w) (λ member.
    absurd (omega (arith, count_of-some g.size S w below member)))))
burnt_down g q D solvent (suc k) S few vertices without holds =
    ⊎_elim
    (λ (some : (u : ℕ) × (u < g.size) × (falls_in g D S u ≡ true)).
    let v : ℕ = some.0 in
    let falls : Falls g D S v = falls_if g D S v some.1 some.2 in
    let fewer : count_of g.size (removed S v) < count_of g.size S =
    count_of-more g.size (removed S v) S (removed-of S v) v some.1 (removed-here S v) falls.1 in
    let keeps : removed S v q ≡ false = false_from_ne_true _ (λ in_q. both_ways _ without (removed-of S v q in_q)) in
    burnt_down g q D solvent k (removed S v) (omega arith)
    (λ w member. vertices w (removed-of S v w member)) keeps (holds_next g q D S v holds falls))
    (λ (none : (u : ℕ) → u < g.size → falls_in g D S u ≡ false). ⊎_elim
    (λ (some : (u : ℕ) × (u < g.size) × (S u ≡ true)). inr (S, fires_if g q D S solvent vertices without none, some))
    (λ (empty : (u : ℕ) → u < g.size → S u ≡ false). inl (reduced_if g q D S solvent holds empty))
    (member_or_none g.size S))
    (member_or_none g.size (falls_in g D S))

pub reduced_or_fires : (g : Multigraph) (q : ℕ) (D : Amounts) → IsEffectiveOff g q D → IsReduced g q D ⊎ FiresSome g q D
reduced_or_fires g q D solvent =
    let S : ℕ → Bool = all_but g q in
    burnt_down g q D solvent (count_of g.size S) S (omega arith)
    (λ v member. ltb-true v g.size (removed-of (λ w. nat_lt w g.size) q v member))
    (removed-here (λ w. nat_lt w g.size) q) (holds_start g q D)
