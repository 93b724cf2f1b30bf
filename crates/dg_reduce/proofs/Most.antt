-- How often a set can fire at once.
--   off_q           a set that fires freely does not hold q
--   member_holds    its members hold a dollar for each edge that leaves the set
--   IsLeast ..      m is the least of the numbers of firings for which the first n vertices have dollars
--   least_lower     if the next vertex has dollars for fewer, it holds of that number
--   least_kept      otherwise it holds of the same
--   some_leaves     a set without q that has a member has an edge that leaves it
--   least_is_most   over all vertices, the least is how often the set can fire
--   most_within     and it is at most what a vertex holds
use Rattle.dg_reduce.proofs.Common.{if◌then◌else◌, ◌≡◌, ◌≢◌, ℕ, ◌+◌, ◌<◌, ◌≤◌, Bool, true, false, arith, ap, sym, ◌∙◌, ◌⊎◌, inl, inr, ⊎_elim, cases_eq, cases_Bool, ints, ℤ, pos, ◌+ℤ◌, ◌*ℤ◌, *ℤ_comm, ◌≤ℤ◌, ◌<ℤ◌, unsigned_abs, Multigraph, IsMultigraph, edges_between, Amounts, gain, fired, indicator, multiple, edges_out, edges_into, IsLegalSetFiring, within_abs, abs_within, mulz-add, one-mul, mul-mono, mul-grows, nat_sum_below-term, gain-outside, fired-inside, gain-all_inside, gain-all_outside, Leaves, IsConnectedTo-leaves, IsMaxFirings, LastsForFirings, LacksForFirings, SendsNothing, largest}

pub off_q : (S : ℕ → Bool) (q v : ℕ) → S q ≡ false → S v ≡ true → v ≢ q
off_q S q v without member same = let clash : true ≡ false = sym member ∙ ap S same ∙ without in absurd (cc)

pub member_holds : (g : Multigraph) (q : ℕ) (D : Amounts) (S : ℕ → Bool) (v : ℕ) → IsLegalSetFiring g q D S → v < g.size →
    S v ≡ true → pos (edges_out g S v) ≤ℤ D v
member_holds g q D S v free inside member =
    fired-inside g D S v member (free.no_debt v inside (off_q S q v free.without member))

pub record IsLeast (g : Multigraph) (D : Amounts) (S : ℕ → Bool) (n : ℕ) (m : ℤ) : Type 0 where
  pub some : pos 1 ≤ℤ m
  pub few : m ≤ℤ largest
  pub enough : (u : ℕ) → u < n → S u ≡ true → (pos (edges_out g S u) *ℤ m) ≤ℤ D u
  pub last : ((u : ℕ) × (u < g.size) × LacksForFirings g D S u (m +ℤ pos 1)) ⊎
      ((m ≡ largest) × ((u : ℕ) → u < n → SendsNothing g S u))

pub least_lower : (g : Multigraph) (D : Amounts) (S : ℕ → Bool) (n : ℕ) (m t : ℤ) → n < g.size → IsLeast g D S n m →
    LastsForFirings g D S n t → t <ℤ m → IsLeast g D S (n + 1) t
least_lower g D S n m t inside before at less = record {
  some = at.some;
  few = at.few;
  enough = λ u below member. ⊎_elim
      (λ (same : u ≡ n). rw same (at.enough (sym (ap S same) ∙ member)))
      (λ (other : u ≡ n → ⊥).
      let enough : (pos (edges_out g S u) *ℤ m) ≤ℤ D u = before.enough u (omega arith) member in
      let fewer : (pos (edges_out g S u) *ℤ t) ≤ℤ (pos (edges_out g S u) *ℤ m) =
      mul-mono (edges_out g S u) t m (omega (arith, ints)) in
      omega (arith, ints))
      (cases_eq u n);
  last = ⊎_elim
      (λ (lacks : LacksForFirings g D S n (t +ℤ pos 1)). inl (n, inside, lacks))
      (λ (top : (t ≡ largest) × SendsNothing g S n).
      let is : t ≡ largest = top.0 in let most : m ≤ℤ largest = before.few in absurd (omega (arith, ints)))
      at.last;
}

pub least_kept : (g : Multigraph) (D : Amounts) (S : ℕ → Bool) (n : ℕ) (m t : ℤ) → n < g.size → IsLeast g D S n m →
    LastsForFirings g D S n t → m ≤ℤ t → IsLeast g D S (n + 1) m
least_kept g D S n m t inside before at more = record {
  some = before.some;
  few = before.few;
  enough = λ u below member. ⊎_elim
      (λ (same : u ≡ n). rw same (
      let enough : (pos (edges_out g S n) *ℤ t) ≤ℤ D n = at.enough (sym (ap S same) ∙ member) in
      let fewer : (pos (edges_out g S n) *ℤ m) ≤ℤ (pos (edges_out g S n) *ℤ t) = mul-mono (edges_out g S n) m t more in
      let both : (pos (edges_out g S n) *ℤ m) ≤ℤ D n = omega (arith, ints) in
      both))
      (λ (other : u ≡ n → ⊥). before.enough u (omega arith) member)
      (cases_eq u n);
  last = ⊎_elim
      (λ (found : (u : ℕ) × (u < g.size) × LacksForFirings g D S u (m +ℤ pos 1)). inl found)
      (λ (top : (m ≡ largest) × ((u : ℕ) → u < n → SendsNothing g S u)).
      let is : m ≡ largest = top.0 in let most : t ≤ℤ largest = at.few in let same : t ≡ m = omega (arith, ints) in
      ⊎_elim
      (λ (lacks : LacksForFirings g D S n (t +ℤ pos 1)). inl (n, inside, rw same at lacks))
      (λ (also : (t ≡ largest) × SendsNothing g S n). inr (
        is,
        λ u below. ⊎_elim
            (λ (last : u ≡ n). rw last (also.1))
            (λ (other : u ≡ n → ⊥). top.1 u (omega arith))
            (cases_eq u n),
      ))
      at.last)
      before.last;
}

pub some_leaves : (g : Multigraph) (q : ℕ) (S : ℕ → Bool) (v : ℕ) → IsMultigraph g → q < g.size → S q ≡ false →
    v < g.size → S v ≡ true → (u : ℕ) × (u < g.size) × (S u ≡ true) × (0 < edges_out g S u)
some_leaves g q S v graph vertex without inside member =
    let out : Leaves g.size (edges_between g) S =
    IsConnectedTo-leaves S inside member (graph.connected v q inside vertex) without in
    let term : (if S out.b then 0 else edges_between g out.a out.b) ≤ edges_out g S out.a =
    nat_sum_below-term g.size (λ w. if S w then 0 else edges_between g out.a w) out.b out.to in
    let counts : (if S out.b then 0 else edges_between g out.a out.b) ≡ edges_between g out.a out.b =
    ap (λ (b : Bool). if b then 0 else edges_between g out.a out.b) out.outside in
    let edge : 0 < edges_between g out.a out.b = out.edge in
    (out.a, out.from, out.within, omega arith)

pub least_is_most : (g : Multigraph) (q : ℕ) (D : Amounts) (S : ℕ → Bool) (m : ℤ) → IsMultigraph g → q < g.size →
    IsLegalSetFiring g q D S → (v : ℕ) × (v < g.size) × (S v ≡ true) → IsLeast g D S g.size m → IsMaxFirings g q D S m
least_is_most g q D S m graph vertex free (v, inside, member) least = record {
  some = least.some;
  no_debt = λ u below other. ⊎_elim
      (λ (on : S u ≡ true).
      let enough : (pos (edges_out g S u) *ℤ m) ≤ℤ D u = least.enough u below on in
      let lost : gain g (multiple m (indicator S)) u +ℤ pos (edges_out g S u) *ℤ m ≡ pos 0 =
      gain-all_inside g m S u on in
      omega (arith, ints))
      (λ (off : S u ≡ false).
      let once : pos 0 ≤ℤ fired g D (indicator S) u = free.no_debt u below other in
      let got_once : gain g (indicator S) u ≡ pos (edges_into g S u) = gain-outside g S u off in
      let got : gain g (multiple m (indicator S)) u ≡ pos (edges_into g S u) *ℤ m = gain-all_outside g m S u off in
      let more : (pos (edges_into g S u) *ℤ pos 1) ≤ℤ (pos (edges_into g S u) *ℤ m) =
      mul-mono (edges_into g S u) (pos 1) m least.some in
      let one : pos (edges_into g S u) *ℤ pos 1 ≡ pos (edges_into g S u) =
      *ℤ_comm (pos (edges_into g S u)) (pos 1) ∙ one-mul (pos (edges_into g S u)) in
      omega (arith, ints))
      (cases_Bool (S u));
  last = ⊎_elim
      (λ (found : (u : ℕ) × (u < g.size) × LacksForFirings g D S u (m +ℤ pos 1)).
      let (u, below, (on, less)) = found in
      let lost : gain g (multiple (m +ℤ pos 1) (indicator S)) u +ℤ pos (edges_out g S u) *ℤ (m +ℤ pos 1) ≡ pos 0 =
      gain-all_inside g (m +ℤ pos 1) S u on in
      (u, below, on, omega (arith, ints)))
      (λ (top : (m ≡ largest) × ((u : ℕ) → u < g.size → SendsNothing g S u)).
      let (u, below, on, some) = some_leaves g q S v graph vertex free.without inside member in
      let none : edges_out g S u ≡ 0 = top.1 u below on in
      absurd (omega arith))
      least.last;
}

pub most_within : (g : Multigraph) (q : ℕ) (D : Amounts) (S : ℕ → Bool) (m : ℤ) (M : ℕ) → S q ≡ false →
    IsMaxFirings g q D S m →
    ((v : ℕ) → v < g.size → unsigned_abs (D v) ≤ M) → unsigned_abs m ≤ M
most_within g q D S m M without most small =
    let (u, below, on, less) = most.last in
    let (low, high) = within_abs (D u) M (small u below) in
    let rich : pos 0 ≤ℤ fired g D (multiple m (indicator S)) u = most.no_debt u below (off_q S q u without on) in
    let lost : gain g (multiple m (indicator S)) u +ℤ pos (edges_out g S u) *ℤ m ≡ pos 0 = gain-all_inside g m S u on in
    let lost_more : gain g (multiple (m +ℤ pos 1) (indicator S)) u +ℤ pos (edges_out g S u) *ℤ (m +ℤ pos 1) ≡ pos 0 =
    gain-all_inside g (m +ℤ pos 1) S u on in
    let parts : pos (edges_out g S u) *ℤ (m +ℤ pos 1) ≡ pos (edges_out g S u) *ℤ m +ℤ pos (edges_out g S u) *ℤ pos 1 =
    mulz-add (pos (edges_out g S u)) m (pos 1) in
    let one : pos (edges_out g S u) *ℤ pos 1 ≡ pos (edges_out g S u) =
    *ℤ_comm (pos (edges_out g S u)) (pos 1) ∙ one-mul (pos (edges_out g S u)) in
    let some : pos 1 ≤ℤ m = most.some in
    let edges : 0 < edges_out g S u = omega (arith, ints) in
    let grows : m ≤ℤ (pos (edges_out g S u) *ℤ m) = mul-grows (edges_out g S u) m edges (omega (arith, ints)) in
    abs_within m M (omega (arith, ints)) (omega (arith, ints))
