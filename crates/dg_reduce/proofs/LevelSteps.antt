-- How the debts of a level are cleared.
--   chips_small      while levels are cleared, amounts are within the limit of a firing
--   script_small     and so is the script
--   debt_more        it is the debt of the next vertex of the level, if that owes more
--   debt_same        otherwise it stays the same
--   debt_within      the largest debt is within the bound of the amounts
--   debt_small       so as many firings are within their limit
--   cleared_free     if nobody of the next level is in debt, it is cleared
--   cleared_paid     and it is cleared once the nearer vertices have lent as often as its largest debt
use Rattle.dg_reduce.proofs.Common.{if◌then◌else◌, ◌≡◌, ℕ, ◌+◌, ◌-◌, ◌*◌, ◌^◌, ◌<◌, ◌≤◌, Bool, arith, ap, sym, ◌∙◌, inl, inr, ⊎_elim, cases_eq, ints, ℤ, pos, negsuc, ◌+ℤ◌, ◌*ℤ◌, ◌≤ℤ◌, ◌<ℤ◌, unsigned_abs, Multigraph, Amounts, indicator, multiple, IsDistance, within_abs, abs_within, abs-add, fired-cong, multiple-within, nearer, fired_nearer, level_limit, level_paid, clear_step, clear_stays, IsGraph, at, FiringTrace, IsTraceAfter, IsCleared, IsLargestDebt}
use Rattle.dg_reduce.specs.States.{level_limit_at}
use Rattle.dg_reduce.proofs.LevelLimits.{level_limit_at-next, level_limit_at-small}

pub chips_small : (g : Multigraph) (level : ℕ → ℕ) (j : ℕ) (x : FiringTrace) → IsCleared g level j x →
    (v : ℕ) → v < g.size → unsigned_abs (at x.chips v) ≤ 2 ^ 120
chips_small g level j x cleared v inside =
    let most : unsigned_abs (at x.chips v) ≤ level_limit_at (j - 1) = cleared.chips v inside in
    let small : level_limit_at (j - 1) < 2 ^ 111 = level_limit_at-small (j - 1) in
    omega arith

pub script_small : (g : Multigraph) (level : ℕ → ℕ) (j : ℕ) (x : FiringTrace) → IsCleared g level j x →
    (v : ℕ) → v < g.size → unsigned_abs (at x.script v) ≤ 2 ^ 126
script_small g level j x cleared v inside =
    let most : unsigned_abs (at x.script v) ≤ level_limit_at (j - 1) = cleared.script v inside in
    let small : level_limit_at (j - 1) < 2 ^ 111 = level_limit_at-small (j - 1) in
    omega arith

pub debt_more : (n : ℕ) (level : ℕ → ℕ) (j : ℕ) (D : Amounts) (m t : ℤ) → IsLargestDebt n level j D m → level n ≡ j →
    (D n +ℤ m) <ℤ pos 0 → D n +ℤ t ≡ pos 0 → IsLargestDebt (n + 1) level j D t
debt_more n level j D m t before on less just = record {
  some = omega (arith, ints, before.some);
  enough = λ v below same. ⊎_elim
      (λ (last : v ≡ n). let at : D v ≡ D n = ap D last in omega (arith, ints))
      (λ (other : v ≡ n → ⊥). omega (arith, ints, before.enough v (omega arith) same))
      (cases_eq v n);
  owed = inr (n, omega arith, on, just);
}

pub debt_same : (n : ℕ) (level : ℕ → ℕ) (j : ℕ) (D : Amounts) (m : ℤ) → IsLargestDebt n level j D m →
    (level n ≡ j → pos 0 ≤ℤ (D n +ℤ m)) → IsLargestDebt (n + 1) level j D m
debt_same n level j D m before paid = record {
  some = before.some;
  enough = λ v below same. ⊎_elim
      (λ (last : v ≡ n). rw last (paid (ap level (sym last) ∙ same)))
      (λ (other : v ≡ n → ⊥). before.enough v (omega arith) same)
      (cases_eq v n);
  owed = ⊎_elim
      (λ (none : m ≡ pos 0). inl none)
      (λ (owed : (v : ℕ) × (v < n) × (level v ≡ j) × (D v +ℤ m ≡ pos 0)). let (v, below, on, just) = owed in
      inr (v, omega arith, on, just))
      before.owed;
}

pub debt_within : (n : ℕ) (level : ℕ → ℕ) (j : ℕ) (D : Amounts) (m : ℤ) (M : ℕ) → IsLargestDebt n level j D m →
    ((v : ℕ) → v < n → unsigned_abs (D v) ≤ M) → unsigned_abs m ≤ M
debt_within n level j D m M debt small =
    let some : pos 0 ≤ℤ m = debt.some in
    ⊎_elim
    (λ (none : m ≡ pos 0). rw none (omega arith))
    (λ (owed : (v : ℕ) × (v < n) × (level v ≡ j) × (D v +ℤ m ≡ pos 0)).
    let (v, inside, on, just) = owed in
    let (low, high) = within_abs (D v) M (small v inside) in
    abs_within m M (omega (arith, ints)) (omega (arith, ints)))
    debt.owed

pub debt_small : (g : Multigraph) (level : ℕ → ℕ) (j : ℕ) (x : FiringTrace) (m : ℤ) → IsCleared g level (j + 1) x →
    IsLargestDebt g.size level j (at x.chips) m → unsigned_abs m ≤ 2 ^ 120
debt_small g level j x m cleared debt =
    debt_within g.size level j (at x.chips) m (2 ^ 120) debt (chips_small g level (j + 1) x cleared)

pub cleared_free : (g : Multigraph) (level : ℕ → ℕ) (j : ℕ) (x : FiringTrace) → 0 < j → j ≤ 15 → IsCleared g level (j + 1) x →
    IsLargestDebt g.size level j (at x.chips) (pos 0) → IsCleared g level j x
cleared_free g level j x some few cleared debt =
    let place : level_limit_at ((j + 1) - 1) ≡ level_limit_at j = ap level_limit_at (omega arith) in
    let next : level_limit_at (j - 1) ≡ 64 * level_limit_at j = level_limit_at-next j some few in
    record {
      tied = cleared.tied;
      clear = clear_step g level j (at x.chips) cleared.clear (λ v inside on.
          let enough : pos 0 ≤ℤ (at x.chips v +ℤ pos 0) = debt.enough v inside on in omega (arith, ints));
      chips = λ v inside.
          let small : unsigned_abs (at x.chips v) ≤ level_limit_at ((j + 1) - 1) = cleared.chips v inside in omega arith;
      script = λ v inside.
          let small : unsigned_abs (at x.script v) ≤ level_limit_at ((j + 1) - 1) = cleared.script v inside in omega arith;
    }

nearer_fired : (g : Multigraph) (level : ℕ → ℕ) (j k : ℕ) (S : ℕ → Bool) (x y : FiringTrace) → IsTraceAfter g S (pos k) x y →
    ((w : ℕ) → w < g.size → S w ≡ nearer level j w) →
    (v : ℕ) → v < g.size → at y.chips v ≡ fired_nearer g level j k (at x.chips) v
nearer_fired g level j k S x y fires same v inside =
    fires.chips v inside
    ∙ fired-cong g (at x.chips) (multiple (pos k) (indicator S))
    (multiple (pos k) (indicator (nearer level j))) v inside
    (λ w below. ap (λ (b : Bool). pos k *ℤ (if b then pos 1 else pos 0)) (same w below))

pub cleared_paid : (g : Multigraph) (q : ℕ) (level : ℕ → ℕ) (j : ℕ) (S : ℕ → Bool) (m : ℤ) (x y : FiringTrace) → IsGraph g →
    IsDistance g q level → 0 < j → j ≤ 15 → IsCleared g level (j + 1) x → IsLargestDebt g.size level j (at x.chips) m →
    IsTraceAfter g S m x y → ((w : ℕ) → w < g.size → S w ≡ nearer level j w) → IsCleared g level j y
cleared_paid g q level j S (negsuc k) x y graph distance some few cleared debt fires same =
    absurd (omega (arith, ints, debt.some))
cleared_paid g q level j S (pos k) x y graph distance some few cleared debt fires same =
    let place : level_limit_at ((j + 1) - 1) ≡ level_limit_at j = ap level_limit_at (omega arith) in
    let next : level_limit_at (j - 1) ≡ 64 * level_limit_at j = level_limit_at-next j some few in
    let now : (v : ℕ) → v < g.size → at y.chips v ≡ fired_nearer g level j k (at x.chips) v =
    nearer_fired g level j k S x y fires same in
    let before : (v : ℕ) → v < g.size → unsigned_abs (at x.chips v) ≤ level_limit_at j = λ v inside.
    let small : unsigned_abs (at x.chips v) ≤ level_limit_at ((j + 1) - 1) = cleared.chips v inside in omega arith in
    let often : k ≤ level_limit_at j = debt_within g.size level j (at x.chips) (pos k) (level_limit_at j) debt before in
    record {
      tied = fires.tied;
      clear = clear_step g level j (at y.chips)
          (λ v inside far. rw (now v inside)
          (clear_stays g q level j k (at x.chips) distance cleared.clear v inside far))
          (λ v inside on. rw (now v inside)
          (level_paid g q level j k (at x.chips) v distance inside (graph.valences v inside) some on
          (debt.enough v inside on)));
      chips = λ v inside.
          let most : unsigned_abs (fired_nearer g level j k (at x.chips) v) ≤ 64 * level_limit_at j =
          level_limit g level j k (level_limit_at j) (at x.chips) v (graph.valences v inside) often (before v inside) in
          rw (now v inside, next) most;
      script = λ v inside.
          let small : unsigned_abs (at x.script v) ≤ level_limit_at ((j + 1) - 1) = cleared.script v inside in
          let sum : unsigned_abs (at y.script v) ≤ level_limit_at j + level_limit_at j = rw (fires.script v inside)
          (abs-add (at x.script v) (multiple (pos k) (indicator S) v) (level_limit_at j) (level_limit_at j) (omega arith)
          (multiple-within (pos k) S v (level_limit_at j) often)) in
          omega arith;
    }
