-- The order in which all vertices burn, where what burns is reduced for q and in debt at q: in each set with a vertex,
-- one holds fewer dollars than edges lead from it out of the set. In that order each vertex holds fewer dollars than
-- edges lead from it to earlier vertices.
--   AllFall g R            in each set with a vertex, some vertex falls
--   falls_if_owing         so it is where R is reduced for q and in debt at q
--   later S place v        the vertices of the set S that are not earlier than v
--   IsBurning g R S n place   the vertices of S are placed from n on, no two alike, and each holds fewer dollars than
--                             edges
--                          lead from it out of the set of those that are not earlier
--   later-within           what a vertex put before the others does to the sets of those that are not earlier
--   burning_next           a vertex that falls in S can be put before those of the set S without it
--   burning_exists         so all vertices can be placed, from one on that falls in the set of all
--   burns_below            then each vertex holds at most what the divisor of the order has there
use Rattle.dg_theory.proofs.Common.{if◌then◌else◌, ◌≡◌, ◌≢◌, ℕ, zero, suc, ◌<◌, ◌≤◌, ◌==◌, Bool, true, false, ◌&&◌, arith, refl, sym, ap, ◌∙◌, ⊎_elim, ◌≤ℤ◌, ◌<ℤ◌, ints, cases_eq, cases_Bool, and_parts, and_from, false_from_ne_true, both_ways, nat_tests, pos, Multigraph, Amounts, edges_out, IsReduced, AreApart, order_divisor}
use Rattle.dg_theory.proofs.Counting.{count_of, count_of-some, count_of-more, member_or_none}
use Rattle.dg_theory.proofs.Leaving.{removed, removed-here, removed-other, removed-of}
use Rattle.dg_theory.proofs.Levels.{level, in_level, level_in}
use Rattle.dg_theory.proofs.Unburnt.{Falls, IsPartOf, out-le-out}

abbrev pub AllFall : Multigraph → Amounts → Type 0
AllFall g R = (T : ℕ → Bool) (u : ℕ) → u < g.size → T u ≡ true → (v : ℕ) × Falls g R T v

pub falls_if_owing : (g : Multigraph) (q : ℕ) (R : Amounts) → q < g.size → IsReduced g q R → R q <ℤ pos 0 → AllFall g R
falls_if_owing g q R vertex reduced debt T u inside member =
    ⊎_elim
    (λ (with_q : T q ≡ true). (q, (vertex, with_q, omega (arith, ints))))
    (λ (without : T q ≡ false).
    let (v, below, in_T, less) = reduced.none_fires T without u inside member in (v, (below, in_T, less)))
    (cases_Bool (T q))

abbrev pub later : (ℕ → Bool) → Amounts → ℕ → ℕ → Bool
later S place v w = S w && level place (place v) w

pub record IsBurning (g : Multigraph) (R : Amounts) (S : ℕ → Bool) (n : ℕ) (place : Amounts) : Type 0 where
  pub from : (v : ℕ) → v < g.size → S v ≡ true → pos n ≤ℤ place v
  pub apart : (v w : ℕ) → v < g.size → w < g.size → S v ≡ true → S w ≡ true → place v ≡ place w → v ≡ w
  pub falls : (v : ℕ) → v < g.size → S v ≡ true → R v <ℤ pos (edges_out g (later S place v) v)

-- the places, with v at n
abbrev put : Amounts → ℕ → ℕ → Amounts
put place v n w = if w == v then pos n else place w

put-here : (place : Amounts) (v n : ℕ) → put place v n v ≡ pos n
put-here place v n = grind (arith, nat_tests)

put-other : (place : Amounts) (v n w : ℕ) → w ≢ v → put place v n w ≡ place w
put-other place v n w other = grind (arith, nat_tests)

later-within : (g : Multigraph) (R : Amounts) (S : ℕ → Bool) (v n : ℕ) (place : Amounts) →
    IsBurning g R (removed S v) (suc n) place → (u : ℕ) → u < g.size → u ≢ v → removed S v u ≡ true →
    IsPartOf g (later S (put place v n) u) (later (removed S v) place u)
later-within g R S v n place burning u inside other member w below not_earlier =
    let (in_S, level_w) = and_parts (S w) _ not_earlier in
    let at_u : put place v n u ≡ place u = put-other place v n u other in
    let low : put place v n u ≤ℤ put place v n w = level_in (put place v n) (put place v n u) w level_w in
    let past : pos (suc n) ≤ℤ place u = burning.from u inside member in
    let off_v : w ≢ v = λ same.
    let at_v : put place v n w ≡ pos n = ap (put place v n) same ∙ put-here place v n in
    omega (arith, ints) in
    let at_w : put place v n w ≡ place w = put-other place v n w off_v in
    and_from (removed S v w) _ (removed-other S v w off_v ∙ in_S) (in_level place (place u) w (omega (arith, ints)))

burning_next : (g : Multigraph) (R : Amounts) (S : ℕ → Bool) (v n : ℕ) (place : Amounts) → Falls g R S v →
    IsBurning g R (removed S v) (suc n) place → IsBurning g R S n (put place v n)
burning_next g R S v n place (vertex, member, less) burning =
    let here : (u : ℕ) → u ≡ v → put place v n u ≡ pos n = λ u same. ap (put place v n) same ∙ put-here place v n in
    let stays : (u : ℕ) → u ≢ v → S u ≡ true → removed S v u ≡ true =
    λ u other in_S. removed-other S v u other ∙ in_S in
    let past : (u : ℕ) → u < g.size → u ≢ v → S u ≡ true → pos (suc n) ≤ℤ put place v n u =
    λ u inside other in_S. omega
    (arith, ints, put-other place v n u other, burning.from u inside (stays u other in_S)) in
    record {
      from = λ u inside in_S. ⊎_elim
          (λ (same : u ≡ v). omega (arith, ints, here u same))
          (λ (other : u ≡ v → ⊥). omega (arith, ints, past u inside other in_S))
          (cases_eq u v);
      apart = λ u w inside within in_u in_w alike. ⊎_elim
          (λ (same : u ≡ v). ⊎_elim
          (λ (same' : w ≡ v). same ∙ sym same')
          (λ (other' : w ≡ v → ⊥). absurd (omega (arith, ints, here u same, past w within other' in_w, alike)))
          (cases_eq w v))
          (λ (other : u ≡ v → ⊥). ⊎_elim
          (λ (same' : w ≡ v). absurd (omega (arith, ints, here w same', past u inside other in_u, alike)))
          (λ (other' : w ≡ v → ⊥). burning.apart u w inside within (stays u other in_u) (stays w other' in_w)
          (omega (arith, ints, put-other place v n u other, put-other place v n w other', alike)))
          (cases_eq w v))
          (cases_eq u v);
      falls = λ u inside in_S. ⊎_elim
          (λ (same : u ≡ v).
          let within : IsPartOf g (later S (put place v n) u) S =
          λ w _ not_earlier. (and_parts (S w) _ not_earlier).0 in
          let out : edges_out g S u ≤ edges_out g (later S (put place v n) u) u =
          out-le-out g (later S (put place v n) u) S u within in
          let at : R u ≡ R v = ap R same in
          let edges : edges_out g S u ≡ edges_out g S v = ap (edges_out g S) same in
          omega (arith, ints))
          (λ (other : u ≡ v → ⊥).
          let known : R u <ℤ pos (edges_out g (later (removed S v) place u) u) =
          burning.falls u inside (stays u other in_S) in
          let out : edges_out g (later (removed S v) place u) u ≤ edges_out g (later S (put place v n) u) u =
          out-le-out g (later S (put place v n) u) (later (removed S v) place u) u
          (later-within g R S v n place burning u inside other (stays u other in_S)) in
          omega (arith, ints))
          (cases_eq u v);
    }

abbrev Placed : Multigraph → Amounts → (ℕ → Bool) → ℕ → Type 0
Placed g R S n = (place : Amounts) × IsBurning g R S n place

none_to_place : (g : Multigraph) (R : Amounts) (S : ℕ → Bool) (n : ℕ) → ((u : ℕ) → u < g.size → S u ≡ false) →
    Placed g R S n
none_to_place g R S n none = (
  λ _. pos 0,
  record {
    from = λ v inside member. absurd (both_ways _ (none v inside) member);
    apart = λ v w inside within member _ _. absurd (both_ways _ (none v inside) member);
    falls = λ v inside member. absurd (both_ways _ (none v inside) member);
  },
)

-- with at most k vertices in S
burning_from : (g : Multigraph) (R : Amounts) → AllFall g R → (k : ℕ) (S : ℕ → Bool) (n : ℕ) → count_of g.size S ≤ k →
    Placed g R S n
burning_from g R falls zero S n few =
    none_to_place g R S n (λ u inside. false_from_ne_true (S u) (λ member.
    absurd (omega (arith, count_of-some g.size S u inside member))))
burning_from g R falls (suc k) S n few =
    ⊎_elim
    (λ (some : (u : ℕ) × (u < g.size) × (S u ≡ true)).
    let (v, fall) = falls S some.0 some.1 some.2 in
    let fewer : count_of g.size (removed S v) < count_of g.size S =
    count_of-more g.size (removed S v) S (removed-of S v) v fall.0 (removed-here S v) fall.1 in
    let (place, burning) = burning_from g R falls k (removed S v) (suc n) (omega arith) in
    (put place v n, burning_next g R S v n place fall burning))
    (λ (none : (u : ℕ) → u < g.size → S u ≡ false). none_to_place g R S n none)
    (member_or_none g.size S)

pub burning_exists : (g : Multigraph) (R : Amounts) (q : ℕ) → AllFall g R → Falls g R (λ _. true) q →
    (place : Amounts) × IsBurning g R (λ _. true) 0 place ×
    ((v : ℕ) → v < g.size → v ≢ q → place q <ℤ place v)
burning_exists g R q falls first =
    let S : ℕ → Bool = removed (λ _. true) q in
    let (place, burning) = burning_from g R falls (count_of g.size S) S 1 (omega arith) in (
      put place q 0,
      burning_next g R (λ _. true) q 0 place first burning,
      λ v inside other.
          let past : pos 1 ≤ℤ place v = burning.from v inside (removed-other (λ _. true) q v other) in
          omega (arith, ints, put-here place q 0, put-other place q 0 v other),
    )

pub burns_below : (g : Multigraph) (R place : Amounts) → IsBurning g R (λ _. true) 0 place →
    AreApart g.size place × ((v : ℕ) → v < g.size → R v ≤ℤ order_divisor g place v)
burns_below g R place burning = (
  λ v w inside within. burning.apart v w inside within refl refl,
  λ v inside. let less : R v <ℤ pos (edges_out g (level place (place v)) v) =
      burning.falls v inside refl in omega (arith, ints),
)
