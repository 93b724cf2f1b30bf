-- Leaves that are folded.
--   gain-one         where a script differs from its entry at v, along v's edges, at one vertex alone, v gains along these alone
--   still_folded     all vertices are still folded into one that is left once a leaf is folded
--   rows_fold        if the rows win once a leaf is folded, they did before: all that is folded into the leaf fires
--   none_folded      at first each vertex is folded into itself
--   box_by_rows      if each row says what is left of the amount there, and they win, all of the box can be lost
--   is_rounded, told_rounds      whole rounds
--   vertices_without             vertices without one are vertices
use Rattle.dg_rank.proofs.Common.{if◌then◌else◌, ◌≡◌, ◌≢◌, ℕ, ◌+◌, ◌-◌, ◌<◌, ◌≤◌, inl, inr, refl, sym, ap, ◌∙◌, ⊎_elim, Bool, true, false, List, arith, cases_eq, both_ways, ints, length, set, get_or-set_same, get_or-set_other, slice_index, ℤ, pos, ◌-ℤ◌, ◌+ℤ◌, ◌≤ℤ◌, unsigned_abs, slice_index_or, Multigraph, IsMultigraph, edges_between, Amounts, only_at, minus, negsuc, Option, Some, None, degree-only_at, only_at-here, only_at-other, sum_below-two, sum_below-cong, sum_below-add, BoxWins}
use Rattle.std.proofs.Common.{min, [], ◌==◌, ◌/◌, mul-suc}
use Rattle.std.proofs.Math.IntN.{◌*ℤ◌, *ℤ-zero, zero-*ℤ, pos-*ℤ-pos, pos-*ℤ-negsuc}
use Rattle.std.specs.Int.{int_div_euclid}
use Rattle.std.specs.Prelude.{IfSome}
use Rattle.std.specs.Option.{SomeIff}
use Rattle.std.proofs.lemmas.Bool.Decides.{nat_tests}
use Rattle.dg_rank.specs.Folding.{worth, IsLeaf, AreFolded, IsRounded, IsJoined, RowsWin}
use Rattle.dg_rank.proofs.Elsewhere.{only_at-more}
use Rattle.dg_rank.proofs.LossBoxes.{in_few}
use Rattle.dg_theory.specs.Firing.{gain, fired}
use Rattle.dg_theory.specs.Sets.{IsVertexSet, IsSetWithout}
use Rattle.dg_theory.proofs.Equivalence.{equivalent-fired}
use Rattle.dg_theory.proofs.Products.{mulz-sub}
use Rattle.dg_theory.proofs.SumSwap.{sum_below-sub}
use Rattle.dg_theory.proofs.Winning.{equivalent-winnable}

pub term-none : (e : ℕ) (x y : ℤ) → (0 < e → x ≡ y) → pos e *ℤ (x -ℤ y) ≡ pos 0
term-none e x y same = ⊎_elim
    (λ (none : e ≡ 0). rw none (zero-*ℤ (x -ℤ y)))
    (λ (some : e ≡ 0 → ⊥).
    let here : x ≡ y = same (omega arith) in
    let flat : x -ℤ y ≡ pos 0 = omega (arith, ints) in rw flat (*ℤ-zero (pos e)))
    (cases_eq e 0)

gain-one : (g : Multigraph) (s : Amounts) (v x : ℕ) → x < g.size →
    ((w : ℕ) → w < g.size → w ≢ x → 0 < edges_between g v w → s w ≡ s v) →
    gain g s v ≡ pos (edges_between g v x) *ℤ (s x -ℤ s v)
gain-one g s v x below same =
    let term : ℕ → ℤ = λ w. pos (edges_between g v w) *ℤ (s w -ℤ s v) in
    sum_below-cong g.size term (only_at x (term x)) (λ w inside. ⊎_elim
    (λ (here : w ≡ x). ap term here ∙ sym (ap (only_at x (term x)) here ∙ only_at-here x (term x)))
    (λ (other : w ≡ x → ⊥).
    term-none (edges_between g v w) (s w) (s v) (same w inside other) ∙ sym (only_at-other x (term x) w other))
    (cases_eq w x))
    ∙ degree-only_at g.size x (term x) below

apart : (g : Multigraph) (L : ℕ → Bool) (u r : ℕ) → IsMultigraph g → IsLeaf g L u r → r ≢ u
apart g L u r graph leaf same =
    let some : 0 < edges_between g u u = rw same at leaf.joined in
    omega (arith, graph.loopless u)

abbrev top_after : (ℕ → ℕ) → ℕ → ℕ → ℕ → ℕ
top_after top u r w = if top w == u then r else top w

pub still_folded : (g : Multigraph) (L L' : ℕ → Bool) (u r : ℕ) → IsMultigraph g → AreFolded g L → IsLeaf g L u r →
    IsSetWithout L u L' → AreFolded g L'
still_folded g L L' u r graph (top, by) leaf without = (
  top_after top u r,
  record {
    own = λ v left. let other : v ≢ u = λ same. both_ways _ without.here (rw same at left) in
        stays v (without.others v other ∙ left) other;
    across = λ v w v_in w_in edge. ⊎_elim
        (λ (within : top v ≡ top w). inl (ap (λ x. if x == u then r else x) within))
        (λ (across : (L v ≡ true) × (L w ≡ true)). ⊎_elim
        (λ (same : v ≡ u). inl (rw same (gone ∙ sym (ap (top_after top u r) (leaf.alone w across.1 (rw same at edge)) ∙ at_r))))
        (λ (off_v : v ≡ u → ⊥). ⊎_elim
        (λ (same : w ≡ u). inl (rw same (ap (top_after top u r) (leaf.alone v across.0
        (rw (graph.symmetric u v) (rw same at edge))) ∙ at_r ∙ sym gone)))
        (λ (off_w : w ≡ u → ⊥). inr (sym (without.others v off_v) ∙ across.0, sym (without.others w off_w) ∙ across.1))
        (cases_eq w u))
        (cases_eq v u))
        (by.across v w v_in w_in edge);
  },
) where
  stays : (v : ℕ) → L v ≡ true → v ≢ u → top_after top u r v ≡ v
  stays v left other = let own : top v ≡ v = by.own v left in rw own (grind (arith, nat_tests))

  gone : top_after top u r u ≡ r
  gone = let own : top u ≡ u = by.own u leaf.leaf in rw own (grind (arith, nat_tests))

  at_r : top_after top u r r ≡ r
  at_r = stays r leaf.parent (apart g L u r graph leaf)

pub rows_fold : (g : Multigraph) (L L' : ℕ → Bool) (W : List (List ℤ)) (J : List ℤ) (k u r : ℕ) →
    IsMultigraph g → IsVertexSet g.size L → AreFolded g L → IsLeaf g L u r → IsSetWithout L u L' → r < length W →
    IsJoined (edges_between g u r) k (slice_index_or W r []) (slice_index_or W u []) J →
    RowsWin g L' (set W r J) k → RowsWin g L W k
rows_fold g L L' W J k u r graph vertices (top, by) leaf without placed joined wins D borne =
    (equivalent-winnable g D (fired g D s) (equivalent-fired g D s)).1 (wins (fired g D s) (record {
      lost = λ w. (lost w +ℤ only_at r (pos b) w) -ℤ only_at u (pos b) w;
      effective = λ w below. ⊎_elim
          (λ (same : w ≡ u). rw same
          (omega (arith, ints, only_at-here u (pos b), only_at-other r (pos b) u (λ e. off (sym e)), b_is)))
          (λ (other : w ≡ u → ⊥).
          omega (arith, ints, only_at-other u (pos b) w other, only_at-more r b w, borne.effective w below))
          (cases_eq w u);
      few = omega (
        arith,
        ints,
        sum_below-sub g.size (λ w. lost w +ℤ only_at r (pos b) w) (only_at u (pos b)),
        sum_below-add g.size lost (only_at r (pos b)),
        degree-only_at g.size r (pos b) r_in,
        degree-only_at g.size u (pos b) u_in,
        borne.few,
      );
      folded = λ v below out. ⊎_elim
          (λ (same : v ≡ u). rw same (omega (arith, ints, gain-leaf, got.1.is, got.1.most, borne.unfolded u u_in leaf.leaf)))
          (λ (off_u : v ≡ u → ⊥).
          let before : L v ≡ false = without.others v off_u ∙ out in
          omega (
            arith,
            ints,
            gain-off v below off_u (λ same. both_ways _ before (rw same leaf.parent)),
            borne.folded v below before,
          ))
          (cases_eq v u);
      unfolded = λ v below left.
          let off_u : v ≢ u = λ same. both_ways _ without.here (rw same at left) in
          let before : L v ≡ true = without.others v off_u ∙ left in ⊎_elim
          (λ (same : v ≡ r). rw same at_parent)
          (λ (off_r : v ≡ r → ⊥).
          let now : (lost v +ℤ only_at r (pos b) v) -ℤ only_at u (pos b) v ≡ lost v =
          omega (arith, ints, only_at-other r (pos b) v off_r, only_at-other u (pos b) v off_u) in
          rw (get_or-set_other W r v J [] off_r, now)
          (omega (arith, ints, gain-off v below off_u off_r, borne.unfolded v below before)))
          (cases_eq v r);
    })) where
      lost : Amounts
      lost = borne.lost

      u_in : u < g.size
      u_in = vertices u leaf.leaf

      r_in : r < g.size
      r_in = vertices r leaf.parent

      off : r ≢ u
      off = apart g L u r graph leaf

      a : ℕ
      a = unsigned_abs (lost r)

      b : ℕ
      b = unsigned_abs (lost u)

      a_is : pos a ≡ lost r
      a_is = let some = borne.effective r r_in in omega (arith, ints)

      b_is : pos b ≡ lost u
      b_is = let some = borne.effective u u_in in omega (arith, ints)

      got : (y : ℤ) × IsRounded (edges_between g u r) (worth W u b) y
          × (slice_index_or J (a + b) (pos 0) ≤ℤ (worth W r (a + b - b) +ℤ y))
      got = joined (a + b) b (omega (
        arith,
        ints,
        sum_below-two g.size r u lost r_in u_in (λ e. off (sym e)) (λ w inside _. borne.effective w inside),
        a_is,
        b_is,
        borne.few,
      )) (omega arith)

      s : Amounts
      s w = only_at u got.1.rounds (top w)

      at_u : s u ≡ got.1.rounds
      at_u = rw (by.own u leaf.leaf) (only_at-here u got.1.rounds)

      at_left : (w : ℕ) → L w ≡ true → w ≢ u → s w ≡ pos 0
      at_left w left other = rw (by.own w left) (only_at-other u got.1.rounds w other)

      flat : (v w : ℕ) → v < g.size → w < g.size → 0 < edges_between g v w → (v ≡ u → w ≢ r) → (v ≡ r → w ≢ u) → s w ≡ s v
      flat v w v_in w_in edge leaves enters = ⊎_elim
          (λ (within : top v ≡ top w). ap (only_at u got.1.rounds) (sym within))
          (λ (across : (L v ≡ true) × (L w ≡ true)).
          let off_v : v ≢ u = λ same. leaves same (leaf.alone w across.1 (rw same at edge)) in
          let off_w : w ≢ u =
          λ same. enters (leaf.alone v across.0 (rw (graph.symmetric u v) (rw same at edge))) same in
          at_left w across.1 off_w ∙ sym (at_left v across.0 off_v))
          (by.across v w v_in w_in edge)

      gain-off : (v : ℕ) → v < g.size → v ≢ u → v ≢ r → gain g s v ≡ pos 0
      gain-off v v_in off_u off_r =
          gain-one g s v v v_in (λ w w_in _ edge. flat v w v_in w_in edge (λ e. absurd (off_u e)) (λ e. absurd (off_r e)))
          ∙ term-none (edges_between g v v) (s v) (s v) (λ _. refl)

      gain-leaf : gain g s u +ℤ pos (edges_between g u r) *ℤ got.1.rounds ≡ pos 0
      gain-leaf =
          let m = edges_between g u r in
          let flow : gain g s u ≡ pos m *ℤ (pos 0 -ℤ got.1.rounds) =
          gain-one g s u r r_in (λ w w_in other edge. flat u w u_in w_in edge (λ _. other) (λ e. absurd (off (sym e))))
          ∙ ap (λ (x : ℤ). pos m *ℤ (x -ℤ s u)) (at_left r leaf.parent off)
          ∙ ap (λ (x : ℤ). pos m *ℤ (pos 0 -ℤ x)) at_u in
          omega (arith, ints, flow, mulz-sub (pos m) (pos 0) got.1.rounds, *ℤ-zero (pos m))

      gain-parent : gain g s r ≡ pos (edges_between g u r) *ℤ got.1.rounds
      gain-parent =
          let m = edges_between g u r in
          let flow : gain g s r ≡ pos m *ℤ (got.1.rounds -ℤ pos 0) =
          gain-one g s r u u_in (λ w w_in other edge. flat r w r_in w_in edge (λ e. absurd (off e)) (λ _. other))
          ∙ ap (λ (e : ℕ). pos e *ℤ (s u -ℤ s r)) (graph.symmetric r u)
          ∙ ap (λ (x : ℤ). pos m *ℤ (s u -ℤ x)) (at_left r leaf.parent off) ∙ ap (λ (x : ℤ). pos m *ℤ (x -ℤ pos 0)) at_u in
          omega (arith, ints, flow, mulz-sub (pos m) got.1.rounds (pos 0), *ℤ-zero (pos m))

      at_parent : worth (set W r J) r (unsigned_abs ((lost r +ℤ only_at r (pos b) r) -ℤ only_at u (pos b) r)) ≤ℤ fired g D s r
      at_parent =
          let now : unsigned_abs ((lost r +ℤ only_at r (pos b) r) -ℤ only_at u (pos b) r) ≡ a + b =
          omega (arith, ints, only_at-here r (pos b), only_at-other u (pos b) r off, a_is) in
          let back : a + b - b ≡ a = omega arith in
          rw (get_or-set_same W r J [] placed, now)
          (omega (arith, ints, rw back at got.2, gain-parent, got.1.is, borne.unfolded r r_in leaf.parent))

pub none_folded : (g : Multigraph) (L : ℕ → Bool) → ((v : ℕ) → v < g.size → L v ≡ true) → AreFolded g L
none_folded g L all =
    (λ v. v, record { own = λ v _. refl; across = λ v w v_in w_in _. inr (all v v_in, all w w_in) })

pub box_by_rows : (g : Multigraph) (A : Amounts) (L : ℕ → Bool) (W : List (List ℤ)) (room : List ℕ) (k : ℕ) →
    ((v : ℕ) → v < g.size → L v ≡ true) →
    ((v t : ℕ) → v < g.size → t ≤ k → worth W v t ≡ A v -ℤ pos (min t (slice_index room v))) →
    RowsWin g L W k → BoxWins g A room k
box_by_rows g A L W room k all rows wins E inside = wins (minus A E) (record {
  lost = E;
  effective = inside.effective;
  few = inside.few;
  folded = λ v below out. absurd (both_ways _ out (all v below));
  unfolded = λ v below _.
      let some : pos 0 ≤ℤ E v = inside.effective v below in
      let few : E v ≤ℤ pos k = in_few g.size k v room E inside below in
      omega (arith, ints, rows v (unsigned_abs (E v)) below (omega (arith, ints)), inside.within v below);
})

pub is_rounded : (m : ℕ) (x : ℤ) → 0 < m → IsRounded m x (pos m *ℤ int_div_euclid x (pos m))
is_rounded m (pos a) some = record {
  rounds = pos (a / m);
  is = refl;
  most = omega (arith, ints, pos-*ℤ-pos m (a / m));
}
is_rounded m (negsuc a) some = record {
  rounds = negsuc (a / m);
  is = refl;
  most = omega (arith, ints, pos-*ℤ-negsuc m (a / m), mul-suc m (a / m));
}

pub told_rounds : (o : Option ℤ) (m : ℕ) (x y z : ℤ) (P : Type 0) → 0 < m → y ≡ pos m → z ≡ int_div_euclid x (pos m) →
    SomeIff o P (y *ℤ z) → IfSome o (IsRounded m x)
told_rounds None m x y z P some once times told = tt
told_rounds (Some r) m x y z P some once times (_, is) =
    let all : r ≡ pos m *ℤ int_div_euclid x (pos m) = is ∙ ap (λ (a : ℤ). a *ℤ z) once ∙ ap (λ (a : ℤ). pos m *ℤ a) times in
    rw all (is_rounded m x some)

pub vertices_without : (n u : ℕ) (L L' : ℕ → Bool) → IsVertexSet n L → IsSetWithout L u L' → IsVertexSet n L'
vertices_without n u L L' vertices without v left = ⊎_elim
    (λ (same : v ≡ u). absurd (both_ways _ without.here (rw same at left)))
    (λ (other : v ≡ u → ⊥). vertices v (without.others v other ∙ left))
    (cases_eq v u)
