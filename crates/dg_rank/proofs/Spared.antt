-- What folded leaves spare of the genus: a leaf on m edges adds m - 1 to the genus, but a dollar less than m on it draws nothing.
--   spared_at_first  before anything is folded, nothing is spared
--   spared_fold      a leaf that is folded spares a dollar less than its edges
--   rich_left        where each dollar lost costs a dollar at most, and what is left of the degree is at least what is not spared
--                    of the genus, all losses are paid for
--   rich_rows        and so the rows win
use Rattle.dg_rank.proofs.Common.{if◌then◌else◌, ◌≡◌, ◌≢◌, ℕ, ◌+◌, ◌-◌, ◌<◌, ◌≤◌, refl, sym, ap, ◌∙◌, ⊎_elim, Bool, true, false, List, arith, cases_eq, cases_Bool, both_ways, ints, ℤ, pos, negsuc, ◌-ℤ◌, ◌+ℤ◌, ◌≤ℤ◌, unsigned_abs, Multigraph, IsMultigraph, edges_between, genus, Amounts, degree, only_at, minus, IsEffective, replicate, get_or-replicate, slice_index, Some, Vector, at, degree-less, degree-only_at, only_at-here, only_at-other, sum_below-add, sum_below-cong, sum_below-zero}
use Rattle.std.proofs.Common.{mul-suc}
use Rattle.std.proofs.Math.IntN.{◌*ℤ◌, *ℤ-zero, pos-*ℤ-negsuc}
use Rattle.dg_rank.proofs.Leaves.{term-none}
use Rattle.dg_rank.proofs.LossBoxes.{in_few}
use Rattle.dg_rank.proofs.RowPrices.{rows_pay}
use Rattle.dg_rank.specs.declared.prices.Prices.{Prices}
use Rattle.dg_rank.specs.Folding.{IsLeaf, AreFolded, folded_gain, IsSpared, RowsWin, IsHeldByRows, ArePaidByRows}
use Rattle.dg_rank.specs.Prices.{price, paid, left_after, BoxPays}
use Rattle.dg_theory.specs.Firing.{gain, fired}
use Rattle.dg_theory.specs.Sets.{IsSetWithout}
use Rattle.dg_theory.proofs.ExistenceLaws.{rich_is_winnable}
use Rattle.dg_theory.proofs.SumLaws.{sum_below-le}
use Rattle.dg_theory.proofs.Winning.{script_of_win, win_of_script}

pub spared_at_first : (g : Multigraph) (L : ℕ → Bool) (d : ℕ) → ((v : ℕ) → v < g.size → L v ≡ true) → genus g ≤ℤ pos d →
    IsSpared g L d
spared_at_first g L d all few = record {
  caps = λ v. pos 0;
  none = λ v left. refl;
  total = omega (arith, ints, few, sum_below-zero g.size (λ v. pos 0) (λ v below. refl));
  draws = λ s rich x below left. omega (
    arith,
    ints,
    sum_below-zero g.size (λ w. if L w then pos 0 else pos (edges_between g x w) *ℤ (s w -ℤ s x))
        (λ w inside. rw (all w inside) refl),
  );
}

falls_short : (m : ℕ) (z : ℤ) → 0 < m → pos 0 ≤ℤ ((pos m -ℤ pos 1) +ℤ (pos m *ℤ z)) → pos 0 ≤ℤ z
falls_short m (pos a) some rich = omega (arith, ints)
falls_short m (negsuc a) some rich = absurd (omega (arith, ints, rich, pos-*ℤ-negsuc m a, mul-suc m a))

no_more : (m : ℕ) (z : ℤ) → z ≤ℤ pos 0 → (pos m *ℤ z) ≤ℤ pos 0
no_more m (pos a) few =
    let none : a ≡ 0 = omega (arith, ints) in
    rw none (omega (arith, ints, *ℤ-zero (pos m)))
no_more m (negsuc a) few = omega (arith, ints, pos-*ℤ-negsuc m a)

pub spared_fold : (g : Multigraph) (L L' : ℕ → Bool) (u r d e : ℕ) → IsMultigraph g → u < g.size → r < g.size → IsLeaf g L u r →
    IsSetWithout L u L' → d ≤ e + (edges_between g u r - 1) → IsSpared g L d → IsSpared g L' e
spared_fold g L L' u r d e graph u_in r_in leaf without few spared = record {
  caps = caps;
  none = λ v left. omega (
    arith,
    ints,
    spared.none v (before v left),
    only_at-other u (pos (m - 1)) v (off v left),
  );
  total = omega (
    arith,
    ints,
    spared.total,
    few,
    sum_below-add g.size spared.caps (only_at u (pos (m - 1))),
    degree-only_at g.size u (pos (m - 1)) u_in,
  );
  draws = λ s rich x below left.
      let drawn : (y : ℕ) → y < g.size → L y ≡ true → folded_gain g L s y ≤ℤ pos 0 =
      spared.draws s (λ v inside out.
      let apart : v ≢ u = λ same. both_ways _ out (rw same leaf.leaf) in
      omega (arith, ints, rich v inside (sym (without.others v apart) ∙ out), only_at-other u (pos (m - 1)) v apart)) in
      let higher : pos 0 ≤ℤ (s r -ℤ s u) = falls_short m (s r -ℤ s u) leaf.joined (omega (
        arith,
        ints,
        rich u u_in without.here,
        spared.none u leaf.leaf,
        only_at-here u (pos (m - 1)),
        leaf.joined,
        drawn u u_in leaf.leaf,
        leaf_gain s,
      )) in
      omega (arith, ints, drawn x below (before x left), more s x, along s x below (before x left) higher);
} where
  m : ℕ
  m = edges_between g u r

  caps : Amounts
  caps v = spared.caps v +ℤ only_at u (pos (m - 1)) v

  off : (v : ℕ) → L' v ≡ true → v ≢ u
  off v left same = both_ways _ without.here (rw same at left)

  before : (v : ℕ) → L' v ≡ true → L v ≡ true
  before v left = without.others v (off v left) ∙ left

  more : (s : Amounts) (x : ℕ) →
      folded_gain g L' s x ≡ folded_gain g L s x +ℤ (pos (edges_between g x u) *ℤ (s u -ℤ s x))
  more s x =
      let term : Amounts = λ w. if L w then pos 0 else pos (edges_between g x w) *ℤ (s w -ℤ s x) in
      let one : ℤ = pos (edges_between g x u) *ℤ (s u -ℤ s x) in
      sum_below-cong g.size (λ w. if L' w then pos 0 else pos (edges_between g x w) *ℤ (s w -ℤ s x))
      (λ w. term w +ℤ only_at u one w) (λ w inside. ⊎_elim
      (λ (same : w ≡ u). rw same (rw (without.here, leaf.leaf) (omega (arith, ints, only_at-here u one))))
      (λ (other : w ≡ u → ⊥). rw (sym (without.others w other)) (omega (arith, ints, only_at-other u one w other)))
      (cases_eq w u))
      ∙ sum_below-add g.size term (only_at u one) ∙ ap (λ (z : ℤ). folded_gain g L s x +ℤ z) (degree-only_at g.size u one u_in)

  leaf_gain : (s : Amounts) → gain g s u ≡ folded_gain g L s u +ℤ (pos m *ℤ (s r -ℤ s u))
  leaf_gain s =
      let term : Amounts = λ w. if L w then pos 0 else pos (edges_between g u w) *ℤ (s w -ℤ s u) in
      let one : ℤ = pos m *ℤ (s r -ℤ s u) in
      sum_below-cong g.size (λ w. pos (edges_between g u w) *ℤ (s w -ℤ s u)) (λ w. term w +ℤ only_at r one w)
      (λ w inside. ⊎_elim
      (λ (same : w ≡ r). rw same (rw leaf.parent (omega (arith, ints, only_at-here r one))))
      (λ (other : w ≡ r → ⊥). ⊎_elim
      (λ (left : L w ≡ true). rw left (omega (
        arith,
        ints,
        only_at-other r one w other,
        term-none (edges_between g u w) (s w) (s u) (λ edge. absurd (other (leaf.alone w left edge))),
      )))
      (λ (out : L w ≡ false). rw out (omega (arith, ints, only_at-other r one w other)))
      (cases_Bool (L w)))
      (cases_eq w r))
      ∙ sum_below-add g.size term (only_at r one) ∙ ap (λ (z : ℤ). folded_gain g L s u +ℤ z) (degree-only_at g.size r one r_in)

  along : (s : Amounts) (x : ℕ) → x < g.size → L x ≡ true → pos 0 ≤ℤ (s r -ℤ s u) →
      (pos (edges_between g x u) *ℤ (s u -ℤ s x)) ≤ℤ pos 0
  along s x below left higher = ⊎_elim
      (λ (same : x ≡ r). rw same (no_more (edges_between g r u) (s u -ℤ s r) (omega (arith, ints, higher))))
      (λ (other : x ≡ r → ⊥). omega (
        arith,
        ints,
        term-none (edges_between g x u) (s u) (s x)
            (λ edge. absurd (other (leaf.alone x left (rw (graph.symmetric u x) edge)))),
      ))
      (cases_eq x r)

pub rich_left : (g : Multigraph) (L : ℕ → Bool) (A : Amounts) (p : ℕ → ℕ → ℕ) (r : List ℕ) (j d : ℕ) → IsMultigraph g →
    0 < g.size → AreFolded g L → IsSpared g L d → ((v : ℕ) → v < g.size → L v ≡ false → A v ≡ pos 0) →
    ((v t : ℕ) → v < g.size → L v ≡ false → t ≤ j → p v t ≡ 0) → ((v t : ℕ) → v < g.size → t ≤ j → p v t ≤ t) →
    (pos d +ℤ pos j) ≤ℤ degree g.size A → BoxPays g A p r j
rich_left g L A p r j d graph some (top, by) spared held free cheap rich E inside =
    win_of_script g D s (λ v below. ⊎_elim
    (λ (left : L v ≡ true). omega (
      arith,
      ints,
      spared.none v left,
      won.1 v below,
      spared.draws won.0 drawn v below left,
      gain_left v below left,
    ))
    (λ (out : L v ≡ false). omega (
      arith,
      ints,
      nothing v below out,
      sum_below-zero g.size (λ w. pos (edges_between g v w) *ℤ (s w -ℤ s v)) (λ w low. still v w below low out),
    ))
    (cases_Bool (L v))) where
      D : Amounts
      D = left_after A p E

      lost : (v : ℕ) → v < g.size → unsigned_abs (E v) ≤ j
      lost v below = omega (arith, ints, inside.effective v below, in_few g.size j v r E inside below)

      nothing : (v : ℕ) → v < g.size → L v ≡ false → D v ≡ pos 0
      nothing v below out = omega (arith, ints, held v below out, free v (unsigned_abs (E v)) below out (lost v below))

      won : (s' : Amounts) × IsEffective g.size (fired g (λ v. D v +ℤ spared.caps v) s')
      won = script_of_win g (λ v. D v +ℤ spared.caps v) (rich_is_winnable g (λ v. D v +ℤ spared.caps v) graph some (omega (
        arith,
        ints,
        sum_below-add g.size D spared.caps,
        sum_below-le g.size (minus A E) D (λ v below. omega (
          arith,
          ints,
          inside.effective v below,
          cheap v (unsigned_abs (E v)) below (lost v below),
        )),
        degree-less g.size A E,
        inside.few,
        spared.total,
        rich,
      )))

      drawn : (v : ℕ) → v < g.size → L v ≡ false → pos 0 ≤ℤ (spared.caps v +ℤ gain g won.0 v)
      drawn v below out = omega (arith, ints, won.1 v below, nothing v below out)

      s : Amounts
      s v = won.0 (top v)

      still : (v w : ℕ) → v < g.size → w < g.size → L v ≡ false → pos (edges_between g v w) *ℤ (s w -ℤ s v) ≡ pos 0
      still v w v_in w_in out = term-none (edges_between g v w) (s w) (s v) (λ edge. ⊎_elim
          (λ (within : top v ≡ top w). ap won.0 (sym within))
          (λ (across : (L v ≡ true) × (L w ≡ true)). absurd (both_ways _ out across.0))
          (by.across v w v_in w_in edge))

      gain_left : (v : ℕ) → v < g.size → L v ≡ true → gain g won.0 v ≡ gain g s v +ℤ folded_gain g L won.0 v
      gain_left v below left =
          let here : s v ≡ won.0 v = ap won.0 (by.own v left) in
          sum_below-cong g.size (λ w. pos (edges_between g v w) *ℤ (won.0 w -ℤ won.0 v))
          (λ w. pos (edges_between g v w) *ℤ (s w -ℤ s v)
          +ℤ (if L w then pos 0 else pos (edges_between g v w) *ℤ (won.0 w -ℤ won.0 v)))
          (λ w low. ⊎_elim
          (λ (in_L : L w ≡ true).
          let there : s w ≡ won.0 w = ap won.0 (by.own w in_L) in
          rw (in_L, here, there) (omega (arith, ints)))
          (λ (out : L w ≡ false).
          let flat : pos (edges_between g v w) *ℤ (s w -ℤ s v) ≡ pos 0 =
          term-none (edges_between g v w) (s w) (s v) (λ edge. ⊎_elim
          (λ (within : top v ≡ top w). ap won.0 (sym within))
          (λ (across : (L v ≡ true) × (L w ≡ true)). absurd (both_ways _ out across.1))
          (by.across v w below low edge)) in
          rw out (omega (arith, ints, flat)))
          (cases_Bool (L w)))
          ∙ sum_below-add g.size (λ w. pos (edges_between g v w) *ℤ (s w -ℤ s v))
          (λ w. if L w then pos 0 else pos (edges_between g v w) *ℤ (won.0 w -ℤ won.0 v))

pub rich_rows : (g : Multigraph) (L : ℕ → Bool) (W : List (List ℤ)) (P : Prices) (x : Vector) (k d : ℕ) → IsMultigraph g →
    0 < g.size → g.size ≤ 16 → AreFolded g L → IsSpared g L d → IsHeldByRows g L W x → ArePaidByRows L W k P →
    ((v t : ℕ) → v < 16 → t ≤ k → price P v t ≤ t) → (pos d +ℤ pos k) ≤ℤ degree g.size (at x) → RowsWin g L W k
rich_rows g L W P x k d graph some few folded spared held rows cheap rich =
    rows_pay g L W P x k few held rows (rich_left g L (at x) (paid (Some P) (replicate 16 0)) (replicate 16 k) k d graph some
    folded spared held.folded
    (λ v t below out lost. rw (none v below) (omega (arith, rows.folded v (0 + t) (omega arith) out (omega arith))))
    (λ v t below lost. rw (none v below) (omega (arith, cheap v (0 + t) (omega arith) (omega arith)))) rich) where
      none : (v : ℕ) → v < g.size → slice_index (replicate 16 0) v ≡ 0
      none v below = get_or-replicate {A = ℕ} 16 v 0 0 (omega arith)
