-- The state of burning, from step to step.
--   one_unless        1 where the test fails
--   unreached-fewer   a vertex that is reached leaves one less that is not
--   unreached-some    where a vertex burns next, some vertex is not reached
--   same-more         a set with one vertex more agrees with a list that has it at its end
--   burning-lit       the state where q alone burns, from one where none does
--   burning-fewer     a vertex that burns leaves one less that is not reached
--   burning-more      the state after one vertex more
--   burning-done      the order is whole where no vertex may burn
use Rattle.dg_burn.proofs.Common.{if◌then◌else◌, ◌≡◌, ◌≢◌, ℕ, zero, suc, ◌+◌, ◌<◌, ◌≤◌, Bool, true, false, List, [], ◌∷◌, ◌++◌, arith, refl, sym, ap, subst, ◌∙◌, ⊎_elim, length-append, ◌==◌, ◌||◌, cases_eq, eq-eqb, ne_eqb, or_right, list_any-append, nat_sum_below, Multigraph, Amounts, list_contains, MayBurn, BurnsNext, IsLeastBurningOrder, nat_sum_below-cong, nat_sum_below-term, IsSetWith, count_unburnt, IsPartialBurning}
use Rattle.dg_burn.proofs.Orders.{so_far-first, so_far-more, so_far-done}

abbrev pub one_unless : Bool → ℕ
one_unless b = if b then 0 else 1

one_less : (n : ℕ) (f h : ℕ → ℕ) (v : ℕ) → v < n → ((w : ℕ) → w ≢ v → f w ≡ h w) → f v ≡ h v + 1 →
    nat_sum_below n f ≡ nat_sum_below n h + 1
one_less zero f h v below same more = absurd (omega arith)
one_less (suc n) f h v below same more = ⊎_elim
    (λ (last : v ≡ n).
    let front : nat_sum_below n f ≡ nat_sum_below n h = nat_sum_below-cong n f h (λ w w_below. same w (omega arith)) in
    let at : f n ≡ h n + 1 = rw last at more in
    omega arith)
    (λ (before : v ≡ n → ⊥).
    let front : nat_sum_below n f ≡ nat_sum_below n h + 1 = one_less n f h v (omega arith) same more in
    let at : f n ≡ h n = same n (omega arith) in
    omega arith)
    (cases_eq v n)

pub count_unburnt-fewer : (n : ℕ) (S T : ℕ → Bool) (v : ℕ) → v < n → S v ≡ false → IsSetWith S v T →
    count_unburnt n S ≡ count_unburnt n T + 1
count_unburnt-fewer n S T v below new more = one_less n _ _ v below
    (λ w other. ap one_unless (sym (more.others w other)))
    (rw (new, more.here) refl)

all_unreached : (n : ℕ) (S : ℕ → Bool) → ((v : ℕ) → S v ≡ false) → count_unburnt n S ≡ n
all_unreached zero S none = refl
all_unreached (suc n) S none =
    rw (none n) (let front : count_unburnt n S ≡ n = all_unreached n S none in omega arith)

pub same-more : (l : List ℕ) (S T : ℕ → Bool) (v : ℕ) → IsSetWith S v T → ((w : ℕ) → S w ≡ list_contains l w) →
    (w : ℕ) → T w ≡ list_contains (l ++ v ∷ []) w
same-more l S T v more same w = ⊎_elim
    (λ (equal : w ≡ v). rw (equal, list_any-append (λ u. u == v) l (v ∷ []))
    (more.here ∙ sym (or_right (list_contains l v) _ (rw (eq-eqb v v refl) refl))))
    (λ (other : w ≡ v → ⊥). rw (list_any-append (λ u. u == w) l (v ∷ []), ne_eqb v w (λ e. other (sym e)))
    (more.others w other ∙ same w ∙ sym (or-false (list_contains l w))))
    (cases_eq w v)
  where
    or-false : (b : Bool) → (b || false) ≡ b
    or-false true = refl
    or-false false = refl

pub count_unburnt-some : (g : Multigraph) (D : Amounts) (S : ℕ → Bool) (v : ℕ) → BurnsNext g D S v → 1 ≤ count_unburnt g.size S
count_unburnt-some g D S v burns =
    let one : one_unless (S v) ≡ 1 = ap one_unless burns.may.unburnt in
    let term : one_unless (S v) ≤ count_unburnt g.size S =
    nat_sum_below-term g.size (λ w. one_unless (S w)) v burns.may.vertex in
    omega arith

pub burning-lit : (g : Multigraph) (q : ℕ) (D : Amounts) (S T : ℕ → Bool) → q < g.size → ((v : ℕ) → S v ≡ false) →
    IsSetWith S q T → IsPartialBurning g q D (q ∷ []) 1 T
burning-lit g q D S T vertex none lit = record {
  so_far = so_far-first g q D;
  same = same-more [] S T q lit none;
  count = refl;
  left = omega (arith, count_unburnt-fewer g.size S T q vertex (none q) lit, all_unreached g.size S none);
}

pub burning-fewer : (g : Multigraph) (D : Amounts) (S T : ℕ → Bool) (v : ℕ) → BurnsNext g D S v → IsSetWith S v T →
    count_unburnt g.size S ≡ count_unburnt g.size T + 1
burning-fewer g D S T v burns more = count_unburnt-fewer g.size S T v burns.may.vertex burns.may.unburnt more

pub burning-more : (g : Multigraph) (q : ℕ) (D : Amounts) (l : List ℕ) (n : ℕ) (S T : ℕ → Bool) (v : ℕ) →
    IsPartialBurning g q D l n S → BurnsNext g D S v → IsSetWith S v T → IsPartialBurning g q D (l ++ v ∷ []) (n + 1) T
burning-more g q D l n S T v state burns more = record {
  so_far = so_far-more g q D l v state.so_far (subst (λ B. BurnsNext g D B v) (λ i w. state.same w i) burns);
  same = same-more l S T v more state.same;
  count = length-append l (v ∷ []) ∙ ap (λ k. k + 1) state.count;
  left = omega (arith, state.left, burning-fewer g D S T v burns more);
}

pub burning-done : (g : Multigraph) (q : ℕ) (D : Amounts) (l : List ℕ) (n : ℕ) (S : ℕ → Bool) →
    IsPartialBurning g q D l n S → ((v : ℕ) → ¬ MayBurn g D S v) → IsLeastBurningOrder g q D l
burning-done g q D l n S state none = so_far-done g q D l state.so_far
    (subst (λ B. (v : ℕ) → ¬ MayBurn g D B v) (λ i w. state.same w i) none)
