-- The search from vertex 0: at the start only vertex 0 is reached (first), and it stays so (start); a vertex with an
-- edge to a reached one is joined to vertex 0 (more); each step leaves one vertex less unreached (fewer); and once no
-- edge leads out of the reached vertices, no chain joins the others to vertex 0 (tells).
use Rattle.dg_graph.proofs.Common.{◌≡◌, ℕ, zero, suc, ◌<◌, ◌≤◌, Bool, true, false, not, cond, List, ◌∷◌, length, set, replicate, count_by, MatchBool, arith, refl, sym, subst, ◌∙◌, ⊎_elim, cases_Bool, cases_eq, false≢true, get_or-set_other, sum_by-set, IsConnectedTo, here, along, IsConnectedTo-append, IsConnectedTo-reverse, IsConnectedTo-stays, is_in, IsAdjacentTo, IsInOrNotAdjacent, IsPairwiseConnected, HasUnreachable}

none_in : (k v : ℕ) → is_in (replicate k false) v ≡ false
none_in zero v = refl
none_in (suc k) zero = refl
none_in (suc k) (suc v) = none_in k v

pub reached-first : (n : ℕ) (e : ℕ → ℕ → ℕ) (k v : ℕ) → is_in (true ∷ replicate k false) v ≡ true → IsConnectedTo n e 0 v
reached-first n e k zero reached = here
reached-first n e k (suc v) reached = absurd (false≢true (sym (none_in k v) ∙ reached))

pub reached-start : (reached : List Bool) (v : ℕ) → is_in reached v ≡ false → is_in reached 0 ≡ true →
    is_in (set reached v true) 0 ≡ true
reached-start reached zero new start = absurd (false≢true (sym new ∙ start))
reached-start reached (suc v) new start = get_or-set_other reached (suc v) 0 true false (omega arith) ∙ start

pub reached-more : (n : ℕ) (e : ℕ → ℕ → ℕ) (reached : List Bool) (v : ℕ) → ((a b : ℕ) → e a b ≡ e b a) →
    ((w : ℕ) → is_in reached w ≡ true → IsConnectedTo n e 0 w) → v < n → IsAdjacentTo n (e v) reached →
    (w : ℕ) → is_in (set reached v true) w ≡ true → IsConnectedTo n e 0 w
reached-more n e reached v symmetric joined vertex (a, below, edge, from) w new =
    ⊎_elim
    (λ (same : w ≡ v). subst (IsConnectedTo n e 0) (sym same)
    (along a v (joined a from) vertex (let there : 0 < e a v = omega (arith, symmetric a v) in there)))
    (λ (other : w ≡ v → ⊥). joined w (sym (get_or-set_other reached v w true false other) ∙ new))
    (cases_eq w v)

pub reached-fewer : (reached : List Bool) (v : ℕ) → v < length reached → is_in reached v ≡ false →
    count_by not (set reached v true) < count_by not reached
reached-fewer reached v within new =
    let one : cond {A = ℕ} (not (is_in reached v)) 1 0 ≡ 1 = rw new refl in
    omega (arith, sum_by-set (λ b. cond {A = ℕ} (not b) 1 0) reached v true false within)

pub reached-tells : (n : ℕ) (e : ℕ → ℕ → ℕ) (reached : List Bool) (all : Bool) → 1 ≤ n →
    ((a b : ℕ) → e a b ≡ e b a) → is_in reached 0 ≡ true →
    ((w : ℕ) → is_in reached w ≡ true → IsConnectedTo n e 0 w) → ((u : ℕ) → u < n → IsInOrNotAdjacent n e reached u) →
    MatchBool all ((v : ℕ) → v < n → is_in reached v ≡ true) ((v : ℕ) × (v < n) × (is_in reached v ≡ false)) →
    MatchBool all (IsPairwiseConnected n e) (HasUnreachable n e)
reached-tells n e reached true some symmetric start joined settled all =
    λ u v u_below v_below.
    IsConnectedTo-append (IsConnectedTo-reverse symmetric some (joined u (all u u_below))) (joined v (all v v_below))
reached-tells n e reached false some symmetric start joined settled (v, below, out) = (
  v,
  below,
  λ chain.
      let IsIn : ℕ → Type 0 = λ a. (is_in reached a ≡ true) × (a < n) in
      let closed : (a b : ℕ) → IsIn a → b < n → 0 < e a b → IsIn b = λ a b in_a b_below edge.
      ⊎_elim
      (λ (in_b : is_in reached b ≡ true). (in_b, b_below))
      (λ (out_b : is_in reached b ≡ false). absurd (settled b b_below out_b
      (a, in_a.1, (let back : 0 < e b a = omega (arith, symmetric a b) in back), in_a.0)))
      (cases_Bool (is_in reached b)) in
      false≢true (sym out ∙ (IsConnectedTo-stays IsIn closed (start, some) chain).0),
)
