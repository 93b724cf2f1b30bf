-- How a fire spreads, and what it tells.
--   into-none      nobody has an edge to a burning vertex where none burns
--   into-more      one burning vertex more adds the edges to it
--   into-few       a vertex has at most 63 edges to burning ones
--   fire-unlit     a fire before any vertex burns is counted
--   fire-room      the edges of one vertex more fit into a byte
--   fire-more      a fire is counted after one vertex more burns
--   fire-counts    what a fire gained in heat are the edges to burning vertices
--   left-out       who is left does not burn
--   out-left       who does not burn is left
--   left-rest      who is left are all but those that burn
--   left-less      where one is left less, one burns more
--   burnt_out      in a fire, nobody may burn where each has burnt whose heat is above 127
--   least_burns    in a fire, the least vertex that has not and whose heat is burns next
use Rattle.dg_burn.proofs.Common.{if◌then◌else◌, ◌≡◌, ℕ, zero, suc, ◌+◌, ◌-◌, ◌<◌, ◌≤◌, Bool, true, false, not, ◌&&◌, List, arith, refl, sym, ap, ap₂, ◌∙◌, ⊎_elim, nat_lt, slice_index, ◌<ℤ◌, pos, cases_Bool, cases_eq, cases_lt, lt-ltb, both_ways, not-false, ints, nat_sum_below, Multigraph, IsMultigraph, edges_between, valence, edges_into, MayBurn, BurnsNext, nat_sum_below-cong, nat_sum_below-term, nat_sum_below-differ_at, into-le-valence, IsGraph, IsVertexSet, IsSetWith, valence-few, valence-outside, Fire, list_amounts, heat, burns, IsUnlit, IsBurntOut, IsNextBurnt, IsSetWithout, IsFire, in_set}

total-zero : (n : ℕ) → nat_sum_below n (λ _. 0) ≡ 0
total-zero zero = refl
total-zero (suc n) = let before : nat_sum_below n (λ _. 0) ≡ 0 = total-zero n in omega arith

abbrev counted : Bool → ℕ → ℕ
counted b e = if b then e else 0

pub into-none : (g : Multigraph) (B : ℕ → Bool) (v : ℕ) → ((w : ℕ) → B w ≡ false) → edges_into g B v ≡ 0
into-none g B v none =
    let all : edges_into g B v ≡ nat_sum_below g.size (λ _. 0) =
    nat_sum_below-cong g.size (λ w. counted (B w) (edges_between g v w)) (λ _. 0)
    (λ w below. ap (λ b. counted b (edges_between g v w)) (none w)) in
    omega (arith, total-zero g.size)

pub into-more : (g : Multigraph) (S T : ℕ → Bool) (v w : ℕ) → IsMultigraph g → v < g.size → S v ≡ false → IsSetWith S v T →
    edges_into g S w + edges_between g v w ≡ edges_into g T w
into-more g S T v w graph below new more =
    let differ : edges_into g T w + counted (S v) (edges_between g w v)
    ≡ edges_into g S w + counted (T v) (edges_between g w v) =
    nat_sum_below-differ_at g.size (λ u. counted (T u) (edges_between g w u))
    (λ u. counted (S u) (edges_between g w u)) v below
    (λ u _ other. ap (λ b. counted b (edges_between g w u)) (more.others u other)) in
    let before : counted (S v) (edges_between g w v) ≡ 0 = ap (λ b. counted b (edges_between g w v)) new in
    let after : counted (T v) (edges_between g w v) ≡ edges_between g w v =
    ap (λ b. counted b (edges_between g w v)) more.here in
    omega (arith, graph.symmetric v w)

pub into-few : (g : Multigraph) (B : ℕ → Bool) (v : ℕ) → IsGraph g → edges_into g B v ≤ 63
into-few g B v graph = omega (arith, into-le-valence g B v, valence-few g v graph)

edge-few : (g : Multigraph) (v w : ℕ) → IsGraph g → edges_between g v w ≤ 63
edge-few g v w graph = ⊎_elim
    (λ (inside : w < g.size).
    let term : edges_between g v w ≤ valence g v = nat_sum_below-term g.size (edges_between g v) w inside in
    omega (arith, valence-few g v graph))
    (λ (outside : g.size ≤ w). omega (arith, graph.multigraph.inside v w outside))
    (cases_lt w g.size)

pub fire-unlit : (g : Multigraph) (held : List ℕ) (x : Fire) → IsUnlit g.size held x → IsFire g held x
fire-unlit g held x unlit = record {
  inside = unlit.inside;
  heats = λ v below. omega (arith, unlit.cold v below, into-none g (burns g.size x) v unlit.none_burns);
}

pub fire-room : (g : Multigraph) (held : List ℕ) (x : Fire) (v w : ℕ) → IsGraph g → IsFire g held x → w < 16 →
    heat x w + edges_between g v w ≤ 255
fire-room g held x v w graph fire below =
    omega (arith, fire.heats w below, into-few g (burns g.size x) w graph, edge-few g v w graph)

-- who is left and of the graph does not burn, and the other way round
pub left-out : (n : ℕ) (x : Fire) (v : ℕ) → in_set x.left v ≡ true → burns n x v ≡ false
left-out n x v left = ap (λ b. nat_lt v n && not b) left ∙ and_none (nat_lt v n)
  where
    and_none : (b : Bool) → (b && false) ≡ false
    and_none true = refl
    and_none false = refl

pub out-left : (n : ℕ) (x : Fire) (v : ℕ) → v < n → burns n x v ≡ false → in_set x.left v ≡ true
out-left n x v below out = not-false (in_set x.left v)
    (sym (ap (λ b. b && not (in_set x.left v)) (lt-ltb v n below)) ∙ out)

-- where one is left less, one burns more
pub left-less : (n : ℕ) (x y : Fire) (v : ℕ) → v < n → IsSetWithout (in_set x.left) v (in_set y.left) →
    IsSetWith (burns n x) v (burns n y)
left-less n x y v below less = record {
  here = ap₂ (λ b c. b && not c) (lt-ltb v n below) less.here;
  others = λ w other. ap (λ b. nat_lt w n && not b) (sym (less.others w other));
}

pub left-rest : (n k : ℕ) (x : Fire) → k ≡ n → IsVertexSet n (in_set x.left) →
    (v : ℕ) → in_set x.left v ≡ (nat_lt v k && not (burns n x v))
left-rest n k x size inside v = ⊎_elim
    (λ (left : in_set x.left v ≡ true).
    left ∙ sym (ap₂ (λ b c. b && not c) (lt-ltb v k (omega (arith, inside v left))) (left-out n x v left)))
    (λ (out : in_set x.left v ≡ false).
    out ∙ sym (ap (λ m. nat_lt v m && not (burns n x v)) size
    ∙ ap (λ b. nat_lt v n && not (nat_lt v n && not b)) out ∙ neither (nat_lt v n)))
    (cases_Bool (in_set x.left v))
  where
    neither : (b : Bool) → (b && not (b && not false)) ≡ false
    neither true = refl
    neither false = refl

inside-less : (n : ℕ) (x y : Fire) (v : ℕ) → IsSetWithout (in_set x.left) v (in_set y.left) →
    IsVertexSet n (in_set x.left) → IsVertexSet n (in_set y.left)
inside-less n x y v less inside w member = ⊎_elim
    (λ (equal : w ≡ v). absurd (both_ways _ (ap (in_set y.left) equal ∙ less.here) member))
    (λ (other : w ≡ v → ⊥). inside w (less.others w other ∙ member))
    (cases_eq w v)

pub fire-more : (g : Multigraph) (held : List ℕ) (x y : Fire) (v : ℕ) → IsMultigraph g → v < g.size →
    burns g.size x v ≡ false → IsFire g held x → IsSetWithout (in_set x.left) v (in_set y.left) →
    ((w : ℕ) → w < 16 → heat y w ≡ heat x w + edges_between g v w) → IsFire g held y
fire-more g held x y v graph below new fire less heats = record {
  inside = inside-less g.size x y v less fire.inside;
  heats = λ w few. omega (
    arith,
    heats w few,
    fire.heats w few,
    into-more g (burns g.size x) (burns g.size y) v w graph below new (left-less g.size x y v below less),
  );
}

pub fire-counts : (g : Multigraph) (held : List ℕ) (x y : Fire) (counts : List ℕ) (v : ℕ) → IsGraph g →
    IsUnlit g.size held x → IsFire g held y → ((w : ℕ) → w < 16 → slice_index counts w ≡ heat y w - heat x w) →
    ((w : ℕ) → 16 ≤ w → slice_index counts w ≡ 0) → slice_index counts v ≡ edges_into g (burns g.size y) v
fire-counts g held x y counts v graph unlit fire gained past = ⊎_elim
    (λ (below : v < 16). omega (arith, gained v below, unlit.cold v below, fire.heats v below))
    (λ (outside : 16 ≤ v). omega (
      arith,
      past v outside,
      into-le-valence g (burns g.size y) v,
      valence-outside g v graph (omega (arith, graph.few)),
    ))
    (cases_lt v 16)

pub burnt_out : (g : Multigraph) (held : List ℕ) (x : Fire) → IsGraph g → IsFire g held x → IsBurntOut x →
    (v : ℕ) → ¬ MayBurn g (list_amounts held) (burns g.size x) v
burnt_out g held x graph fire none v may =
    let below : v < g.size = may.vertex in
    let less : pos (slice_index held v) <ℤ pos (edges_into g (burns g.size x) v) = may.reached in
    omega (
      arith,
      ints,
      none v (omega (arith, graph.few)) (out-left g.size x v below may.unburnt),
      fire.heats v (omega (arith, graph.few)),
      into-few g (burns g.size x) v graph,
    )

pub least_burns : (g : Multigraph) (held : List ℕ) (x : Fire) (v : ℕ) → IsGraph g → IsFire g held x →
    IsNextBurnt x v → BurnsNext g (list_amounts held) (burns g.size x) v
least_burns g held x v graph fire next = record {
  may = record {
    vertex = fire.inside v next.new;
    unburnt = left-out g.size x v next.new;
    reached = omega (arith, ints, next.burns, fire.heats v next.few, into-few g (burns g.size x) v graph);
  };
  least = λ u earlier may.
      let less : pos (slice_index held u) <ℤ pos (edges_into g (burns g.size x) u) = may.reached in
      omega (
        arith,
        ints,
        next.least u earlier (out-left g.size x u may.vertex may.unburnt),
        fire.heats u (omega (arith, next.few)),
        into-few g (burns g.size x) u graph,
      );
}
