-- What burning tells, by the set of the vertices that do not burn.
--   set_is_rest     the set is what burning leaves
--   rest_counts     the edges of a vertex that lead out of it are those to burnt vertices
--   rest_is_free    it is the greatest that fires freely
--   none_reduced    if it is empty, the divisor is reduced
--   reduced_none    if the divisor is reduced, it is empty
--   unburnt_member  if it is not empty, some vertex is in it
--   none_unreached  if no vertex is unreached, each is reached
--   none_whole      it is empty exactly where as many vertices burn as there are
use Rattle.dg_burn.proofs.Common.{◌≡◌, ◌≢◌, ℕ, zero, suc, ◌<◌, ◌≤◌, Bool, true, false, not, ◌&&◌, List, arith, refl, sym, ap, subst, ◌∙◌, ⊎_elim, nat_lt, ◌↔◌, cases_lt, lt-ltb, le-ltb, and_left, and_right, not-false, not_from_true, true_from_ne_false, Multigraph, IsMultigraph, Amounts, IsEffectiveOff, edges_out, IsReduced, list_contains, edges_into, IsLeastBurningOrder, IsGreatestLegal, unburnt_by, unburnt_by-below, rest-out, rest_fires, unburnt_fires, burnt_reduced, reduced_burnt, member_or_none, nat_sum_below-term, in_set-none, no_set, count_unburnt, IsPartialBurning, in_set}
use Rattle.dg_burn.proofs.Steps.{one_unless}

pub set_is_rest : (g : Multigraph) (l : List ℕ) (S : ℕ → Bool) (k m : ℕ) → k ≡ g.size →
    ((v : ℕ) → S v ≡ list_contains l v) → ((v : ℕ) → in_set m v ≡ (nat_lt v k && not (S v))) →
    (v : ℕ) → in_set m v ≡ unburnt_by g l v
set_is_rest g l S k m size same rest v =
    rest v ∙ ap (λ n. nat_lt v n && not (S v)) size ∙ ap (λ b. nat_lt v g.size && not b) (same v)

pub rest_counts : (g : Multigraph) (l : List ℕ) (S : ℕ → Bool) (m v : ℕ) → ((w : ℕ) → S w ≡ list_contains l w) →
    ((w : ℕ) → in_set m w ≡ unburnt_by g l w) → edges_into g S v ≡ edges_out g (in_set m) v
rest_counts g l S m v same rest =
    ap (λ (B : ℕ → Bool). edges_into g B v) (λ i w. same w i)
    ∙ sym (rest-out g l v)
    ∙ ap (λ (B : ℕ → Bool). edges_out g B v) (λ i w. sym (rest w) i)

pub rest_is_free : (g : Multigraph) (q : ℕ) (D : Amounts) (l : List ℕ) (m : ℕ) → IsMultigraph g → q < g.size →
    IsEffectiveOff g q D → IsLeastBurningOrder g q D l → ((v : ℕ) → in_set m v ≡ unburnt_by g l v) →
    IsGreatestLegal g q D (in_set m)
rest_is_free g q D l m graph vertex solvent order rest =
    subst (IsGreatestLegal g q D) (λ i v. sym (rest v) i) (unburnt_fires g q D l graph vertex solvent order)

pub none_reduced : (g : Multigraph) (q : ℕ) (D : Amounts) (l : List ℕ) (m : ℕ) → IsEffectiveOff g q D →
    IsLeastBurningOrder g q D l → ((v : ℕ) → in_set m v ≡ unburnt_by g l v) → m ≡ 0 → IsReduced g q D
none_reduced g q D l m solvent order rest none = burnt_reduced g q D l solvent order (λ v below.
    not-false (list_contains l v)
    (sym (unburnt_by-below g l v below) ∙ sym (rest v) ∙ ap (λ n. in_set n v) none ∙ in_set-none v))

pub reduced_none : (g : Multigraph) (q : ℕ) (D : Amounts) (l : List ℕ) (m : ℕ) → IsLeastBurningOrder g q D l →
    ((v : ℕ) → in_set m v ≡ unburnt_by g l v) → IsReduced g q D → m ≡ 0
reduced_none g q D l m order rest reduced = no_set m (λ v. rest v ∙ ⊎_elim
    (λ (below : v < g.size). and_right _ _ (not_from_true _ (reduced_burnt g q D l order reduced v below)))
    (λ (above : g.size ≤ v). and_left _ _ (le-ltb v g.size above))
    (cases_lt v g.size))

pub unburnt_member : (g : Multigraph) (q : ℕ) (D : Amounts) (l : List ℕ) (m : ℕ) → IsEffectiveOff g q D →
    IsLeastBurningOrder g q D l →
    IsGreatestLegal g q D (in_set m) → ((m ≡ 0) ↔ IsReduced g q D) → m ≢ 0 → (v : ℕ) × (in_set m v ≡ true)
unburnt_member g q D l m solvent order rest reduced some = ⊎_elim
    (λ (found : (v : ℕ) × (v < g.size) × (unburnt_by g l v ≡ true)).
    (found.0, rest.greatest (unburnt_by g l) (rest_fires g q D l solvent order) found.0 found.2))
    (λ (none : (v : ℕ) → v < g.size → unburnt_by g l v ≡ false).
    absurd (some (reduced.1 (burnt_reduced g q D l solvent order
    (λ v below. not-false _ (sym (unburnt_by-below g l v below) ∙ none v below))))))
    (member_or_none g.size (unburnt_by g l))

-- if each of n vertices is reached, none is unreached
all_reached : (n : ℕ) (S : ℕ → Bool) → ((v : ℕ) → v < n → S v ≡ true) → count_unburnt n S ≡ 0
all_reached zero S all = refl
all_reached (suc n) S all =
    let before : count_unburnt n S ≡ 0 = all_reached n S (λ v below. all v (omega arith)) in
    let last : one_unless (S n) ≡ 0 = ap one_unless (all n (omega arith)) in
    omega arith

pub none_unreached : (n : ℕ) (S : ℕ → Bool) (v : ℕ) → v < n → count_unburnt n S ≡ 0 → S v ≡ true
none_unreached n S v below none = true_from_ne_false (S v) (λ missed.
    let one : one_unless (S v) ≡ 1 = ap one_unless missed in
    let term : one_unless (S v) ≤ count_unburnt n S =
    nat_sum_below-term n (λ w. one_unless (S w)) v below in
    absurd (omega arith))

pub none_whole : (g : Multigraph) (q : ℕ) (D : Amounts) (l : List ℕ) (n : ℕ) (S : ℕ → Bool) (k m : ℕ) →
    IsPartialBurning g q D l n S → k ≡ g.size → ((v : ℕ) → in_set m v ≡ (nat_lt v k && not (S v))) →
    (m ≡ 0) ↔ (n ≡ g.size)
none_whole g q D l n S k m state size rest = (
  λ none.
      let all : count_unburnt g.size S ≡ 0 = all_reached g.size S (λ v below.
      not-false (S v)
      (sym (ap (λ b. b && not (S v)) (lt-ltb v k (omega arith))) ∙ sym (rest v) ∙ ap (λ j. in_set j v) none
      ∙ in_set-none v)) in
      omega (arith, state.left),
  λ whole.
      let none : count_unburnt g.size S ≡ 0 = omega (arith, state.left) in
      no_set m (λ v. rest v ∙ ⊎_elim
      (λ (below : v < k). and_right _ _ (not_from_true _ (none_unreached g.size S v (omega arith) none)))
      (λ (above : k ≤ v). and_left _ _ (le-ltb v k above))
      (cases_lt v k)),
)
