-- Lists of plays and scripts.
--   total_script l       the sum of the scripts of the plays of l
--   repeated k p l       the play p k times, and then the plays of l
--   plays_at v x l       x lendings by v, or borrowings where x is negative, and then the plays of l
--   plays_for n s        for each vertex below n as many plays as the script s says
--   played-total         to play a list is to fire by its total script
--   only_at-here         a script that is x at v only is x at v
--   only_at-other        and 0 elsewhere
--   lendings-total       k lendings by v add k to the total script at v
--   borrowings-total     and k + 1 borrowings take k + 1 from it
--   repeated-other       repeated plays change the total script only where their own script is not 0
--   plays_at-here        so x plays at v add x to the total script at v
--   plays_at-other       and change it nowhere else
--   plays_for-past       the plays for the vertices below n have a total script that is 0 from n on
--   plays_for-total      and below n it is the script that they are for
--   played-plays_for     to play the plays for a script is to fire by it
use Rattle.dg_theory.proofs.Common.{◌≡◌, ◌≢◌, ℕ, zero, suc, ◌<◌, ◌≤◌, List, [], ◌∷◌, arith, refl, sym, ◌∙◌, ⊎_elim, ints, cases_eq, nat_tests, ℤ, pos, negsuc, ◌+ℤ◌, Multigraph, Amounts, fired, only_at, Play, lend, script_of_play, played}
use Rattle.dg_theory.specs.Play.{borrow}
use Rattle.dg_theory.proofs.FiringLaws.{fired-fired, fired-cong, fired-constant}

abbrev pub total_script : List Play → Amounts
total_script [] w = pos 0
total_script (p ∷ l) w = script_of_play p w +ℤ total_script l w

pub played-total : (g : Multigraph) (D : Amounts) (l : List Play) (v : ℕ) →
    played g D l v ≡ fired g D (total_script l) v
played-total g D [] v = sym (fired-constant g D (pos 0) v)
played-total g D (p ∷ l) v =
    played-total g (fired g D (script_of_play p)) l v ∙ fired-fired g D (script_of_play p) (total_script l) v

abbrev pub repeated : ℕ → Play → List Play → List Play
repeated zero p l = l
repeated (suc k) p l = p ∷ repeated k p l

abbrev pub plays_at : ℕ → ℤ → List Play → List Play
plays_at v (pos k) l = repeated k (lend v) l
plays_at v (negsuc k) l = repeated (suc k) (borrow v) l

abbrev pub plays_for : ℕ → Amounts → List Play
plays_for zero s = []
plays_for (suc n) s = plays_at n (s n) (plays_for n s)

pub only_at-here : (v : ℕ) (x : ℤ) → only_at v x v ≡ x
only_at-here v x = grind (arith, nat_tests)

pub only_at-other : (v : ℕ) (x : ℤ) (w : ℕ) → w ≢ v → only_at v x w ≡ pos 0
only_at-other v x w other = grind (arith, nat_tests)

pub lendings-total : (k v : ℕ) (l : List Play) → total_script (repeated k (lend v) l) v ≡ pos k +ℤ total_script l v
lendings-total zero v l = omega (arith, ints)
lendings-total (suc k) v l = omega (arith, ints, only_at-here v (pos 1), lendings-total k v l)

pub borrowings-total : (k v : ℕ) (l : List Play) →
    total_script (repeated (suc k) (borrow v) l) v ≡ negsuc k +ℤ total_script l v
borrowings-total zero v l = omega (arith, ints, only_at-here v (negsuc 0))
borrowings-total (suc k) v l = omega (arith, ints, only_at-here v (negsuc 0), borrowings-total k v l)

pub repeated-other : (k : ℕ) (p : Play) (l : List Play) (w : ℕ) → script_of_play p w ≡ pos 0 →
    total_script (repeated k p l) w ≡ total_script l w
repeated-other zero p l w none = refl
repeated-other (suc k) p l w none = omega (arith, ints, repeated-other k p l w none)

pub plays_at-here : (v : ℕ) (x : ℤ) (l : List Play) → total_script (plays_at v x l) v ≡ x +ℤ total_script l v
plays_at-here v (pos k) l = lendings-total k v l
plays_at-here v (negsuc k) l = borrowings-total k v l

pub plays_at-other : (v : ℕ) (x : ℤ) (l : List Play) (w : ℕ) → w ≢ v →
    total_script (plays_at v x l) w ≡ total_script l w
plays_at-other v (pos k) l w other = repeated-other k (lend v) l w (only_at-other v (pos 1) w other)
plays_at-other v (negsuc k) l w other = repeated-other (suc k) (borrow v) l w (only_at-other v (negsuc 0) w other)

pub plays_for-past : (n : ℕ) (s : Amounts) (w : ℕ) → n ≤ w → total_script (plays_for n s) w ≡ pos 0
plays_for-past zero s w past = refl
plays_for-past (suc n) s w past =
    let other : w ≢ n = omega arith in
    plays_at-other n (s n) (plays_for n s) w other ∙ plays_for-past n s w (omega arith)

pub plays_for-total : (n : ℕ) (s : Amounts) (w : ℕ) → w < n → total_script (plays_for n s) w ≡ s w
plays_for-total zero s w below = absurd (omega arith)
plays_for-total (suc n) s w below =
    let last : total_script (plays_for (suc n) s) n ≡ s n =
    omega (arith, ints, plays_at-here n (s n) (plays_for n s), plays_for-past n s n (omega arith)) in
    ⊎_elim
    (λ (same : w ≡ n). rw same last)
    (λ (other : w ≢ n). plays_at-other n (s n) (plays_for n s) w other ∙ plays_for-total n s w (omega arith))
    (cases_eq w n)

pub played-plays_for : (g : Multigraph) (D s : Amounts) (v : ℕ) → v < g.size →
    fired g D s v ≡ played g D (plays_for g.size s) v
played-plays_for g D s v below =
    let l = plays_for g.size s in
    fired-cong g D s (total_script l) v below (λ w inside. sym (plays_for-total g.size s w inside))
    ∙ sym (played-total g D l v)
