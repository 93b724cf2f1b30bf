-- How far the entries of a script can lie above its entry at q.
--   Leaves n e S     an edge that leads from a vertex a of the set S to a vertex b outside it
--   IsConnectedTo-leaves  a chain from within a set to outside it has an edge that leaves the set
--   IsGentle g q m K s  g has m + 1 vertices, and by the script s nobody off q gets less than - K
--   gap_few          by a gentle script, an edge down from a set without q that lends at least as often as the rest
--                    joins entries that differ by at most m K
--   not_far_above    no entry of a gentle script lies more than m times m K above that at q: below each level above q
--                    the next vertex is at most m K lower, and there are m vertices off q
use Rattle.dg_theory.proofs.Common.{if◌then◌else◌, ◌≡◌, ◌≢◌, ℕ, zero, suc, ◌+◌, ◌*◌, ◌<◌, ◌≤◌, suc-mul, arith, refl, sym, ap, ◌∙◌, ◌⊎◌, inl, inr, ⊎_elim, Bool, true, false, ints, by_lt_z, ℤ, pos, ◌+ℤ◌, ◌-ℤ◌, ◌≤ℤ◌, ◌<ℤ◌, sum_below, Multigraph, IsMultigraph, edges_between, IsConnectedTo, here, along, Amounts, gain}
use Rattle.dg_theory.proofs.Chains.{IsConnectedTo-end}
use Rattle.dg_theory.proofs.SumBounds.{sum_below-but_one}
use Rattle.dg_theory.proofs.Levels.{level, in_level, off_level, level_in, level_off}
use Rattle.dg_theory.proofs.Cuts.{IsCut, cut_loses}
use Rattle.dg_theory.proofs.Counting.{count_of, count_of-some, count_of-more, count_of-missing}

pub record Leaves (n : ℕ) (e : ℕ → ℕ → ℕ) (S : ℕ → Bool) : Type 0 where
  pub a : ℕ
  pub b : ℕ
  pub from : a < n
  pub to : b < n
  pub within : S a ≡ true
  pub outside : S b ≡ false
  pub edge : 0 < e a b

leaves_before : {n : ℕ} {e : ℕ → ℕ → ℕ} (S : ℕ → Bool) (v w : ℕ) (b : Bool) → S v ≡ b → v < n → w < n →
    S w ≡ false → 0 < e v w → (S v ≡ false → Leaves n e S) → Leaves n e S
leaves_before S v w true in_v vertex below out edge before =
    record { a = v; b = w; from = vertex; to = below; within = in_v; outside = out; edge = edge }
leaves_before S v w false off_v vertex below out edge before = before off_v

pub IsConnectedTo-leaves : {n : ℕ} {e : ℕ → ℕ → ℕ} {u w : ℕ} (S : ℕ → Bool) → u < n → S u ≡ true →
    IsConnectedTo n e u w → S w ≡ false → Leaves n e S
IsConnectedTo-leaves S vertex start here out = let clash : true ≡ false = sym start ∙ out in absurd (cc)
IsConnectedTo-leaves {e = e} S vertex start (along v w chain below edge) out =
    leaves_before S v w (S v) refl (IsConnectedTo-end vertex chain) below out edge
    (λ off_v. IsConnectedTo-leaves S vertex start chain off_v)

pub record IsGentle (g : Multigraph) (q m K : ℕ) (s : Amounts) : Type 0 where
  pub graph : IsMultigraph g
  pub size_is : g.size ≡ suc m
  pub vertex : q < g.size
  pub gains : (v : ℕ) → v < g.size → v ≢ q → pos 0 ≤ℤ (gain g s v +ℤ pos K)

if-at_least : (b : Bool) (x : ℤ) (K : ℕ) → pos 0 ≤ℤ (x +ℤ pos K) → pos 0 ≤ℤ ((if b then x else pos 0) +ℤ pos K)
if-at_least true x K high = high
if-at_least false x K high = omega (arith, ints)

if-off : (b : Bool) (x : ℤ) → b ≡ false → pos 0 ≤ℤ (if b then x else pos 0)
if-off true x off = absurd (cc)
if-off false x off = omega (arith, ints)

pub gap_few : (g : Multigraph) (q m K : ℕ) (s : Amounts) (S : ℕ → Bool) (a b : ℕ) → IsGentle g q m K s →
    S q ≡ false → IsCut g S s a b → (s a -ℤ s b) ≤ℤ pos (m * K)
gap_few g q m K s S a b gentle off cut =
    let lost : (sum_below g.size (λ v. if S v then gain g s v else pos 0) +ℤ (s a -ℤ s b)) ≤ℤ pos 0 =
    cut_loses g S s a b gentle.graph cut in
    let kept : pos K ≤ℤ (sum_below g.size (λ v. if S v then gain g s v else pos 0) +ℤ pos (g.size * K)) =
    sum_below-but_one g.size K q (λ v. if S v then gain g s v else pos 0) gentle.vertex
    (if-off (S q) (gain g s q) off)
    (λ v inside off_q. if-at_least (S v) (gain g s v) K (gentle.gains v inside off_q)) in
    let whole : g.size * K ≡ m * K + K = ap (λ (n : ℕ). n * K) gentle.size_is ∙ suc-mul m K in
    omega (arith, ints)

lower_counts_more : (g : Multigraph) (q m K : ℕ) (s : Amounts) (x y : ℤ) (u : ℕ) → IsGentle g q m K s →
    u < g.size → x ≤ℤ s u → x ≡ y +ℤ pos (m * K) → s q <ℤ y →
    count_of g.size (level s x) < count_of g.size (level s y)
lower_counts_more g q m K s x y u gentle vertex high step low =
    let without : level s x q ≡ false = off_level s x q (omega (arith, ints)) in
    let out : Leaves g.size (edges_between g) (level s x) =
    IsConnectedTo-leaves (level s x) vertex (in_level s x u high)
    (gentle.graph.connected u q vertex gentle.vertex) without in
    let cut : IsCut g (level s x) s out.a out.b = record {
      from = out.from;
      to = out.to;
      within = out.within;
      outside = out.outside;
      edge = out.edge;
      down = λ v w in_v off_w.
          let above : x ≤ℤ s v = level_in s x v in_v in
          let below : s w <ℤ x = level_off s x w off_w in
          omega (arith, ints);
    } in
    let few : (s out.a -ℤ s out.b) ≤ℤ pos (m * K) = gap_few g q m K s (level s x) out.a out.b gentle without cut in
    let above : x ≤ℤ s out.a = level_in s x out.a out.within in
    count_of-more g.size (level s x) (level s y)
    (λ w member. let more : x ≤ℤ s w = level_in s x w member in in_level s y w (omega (arith, ints)))
    out.b out.to out.outside (in_level s y out.b (omega (arith, ints)))

climbs : (g : Multigraph) (q m K : ℕ) (s : Amounts) (u : ℕ) → IsGentle g q m K s → u < g.size → (j : ℕ) →
    (s u ≤ℤ (s q +ℤ pos (j * (m * K)))) ⊎ (j < count_of g.size (level s (s u -ℤ pos (j * (m * K)))))
climbs g q m K s u gentle vertex zero =
    let member : level s (s u -ℤ pos (0 * (m * K))) u ≡ true =
    in_level s (s u -ℤ pos (0 * (m * K))) u (omega (arith, ints)) in
    let some : 1 ≤ count_of g.size (level s (s u -ℤ pos (0 * (m * K)))) =
    count_of-some g.size (level s (s u -ℤ pos (0 * (m * K)))) u vertex member in
    inr (omega arith)
climbs g q m K s u gentle vertex (suc j) =
    let more : suc j * (m * K) ≡ j * (m * K) + m * K = suc-mul j (m * K) in
    let x : ℤ = s u -ℤ pos (j * (m * K)) in
    let y : ℤ = s u -ℤ pos (suc j * (m * K)) in
    ⊎_elim
    (λ (near : s u ≤ℤ (s q +ℤ pos (j * (m * K)))). inl (omega (arith, ints)))
    (λ (many : j < count_of g.size (level s x)).
    by_lt_z (s q) y
    (λ (low : s q <ℤ y).
    let next : count_of g.size (level s x) < count_of g.size (level s y) =
    lower_counts_more g q m K s x y u gentle vertex (omega (arith, ints)) (omega (arith, ints)) low in
    inr (omega arith))
    (λ (near : y ≤ℤ s q). inl (omega (arith, ints))))
    (climbs g q m K s u gentle vertex j)

pub not_far_above : (g : Multigraph) (q m K : ℕ) (s : Amounts) → IsGentle g q m K s →
    (v : ℕ) → v < g.size → s v ≤ℤ (s q +ℤ pos (m * (m * K)))
not_far_above g q m K s gentle v vertex =
    let x : ℤ = s v -ℤ pos (m * (m * K)) in
    ⊎_elim
    (λ (near : s v ≤ℤ (s q +ℤ pos (m * (m * K)))). near)
    (λ (many : m < count_of g.size (level s x)).
    by_lt_z (s q) x
    (λ (low : s q <ℤ x).
    let fewer : count_of g.size (level s x) < g.size =
    count_of-missing g.size (level s x) q gentle.vertex (off_level s x q low) in
    let all : g.size ≡ suc m = gentle.size_is in
    absurd (omega arith))
    (λ (near : x ≤ℤ s q). omega (arith, ints)))
    (climbs g q m K s v gentle vertex m)
