-- Firing a script, or a set of vertices, k times at once.
--   gain-multiple      what one gets by a multiple of a script is the multiple of what one gets by the script
--   multiple-once      a script taken once is the script
--   multiple-on        a vertex of a set that is taken k times lends k times
--   multiple-off       and one outside it does not lend
--   multiple-within    what it lends is within every bound of k
--   gain-all_inside    a vertex of the set loses k dollars along each edge that leaves the set
--   gain-all_outside   a vertex outside the set gets k dollars along each edge that comes from the set
use Rattle.dg_theory.proofs.Common.{if◌then◌else◌, ◌≡◌, ℕ, ◌≤◌, Bool, true, false, arith, ap, sym, ◌∙◌, ⊎_elim, cases_Bool, ints, ℤ, pos, ◌+ℤ◌, ◌-ℤ◌, ◌*ℤ◌, *ℤ-zero, *ℤ_comm, unsigned_abs, Multigraph, edges_between, Amounts, gain, indicator, multiple, edges_out, edges_into}
use Rattle.dg_theory.proofs.Products.{mulz-add, mulz-sub, mul-swap, one-mul}
use Rattle.dg_theory.proofs.SumLaws.{sum_below-cong}
use Rattle.dg_theory.proofs.SumSwap.{sum_below-scale}
use Rattle.dg_theory.proofs.SetFiring.{gain-inside, gain-outside}

multiple_flow : (e : ℕ) (k a b : ℤ) → pos e *ℤ (k *ℤ a -ℤ k *ℤ b) ≡ k *ℤ (pos e *ℤ (a -ℤ b))
multiple_flow e k a b = sym (mul-swap k e (a -ℤ b) ∙ ap (λ (z : ℤ). pos e *ℤ z) (mulz-sub k a b))

pub gain-multiple : (g : Multigraph) (k : ℤ) (s : Amounts) (v : ℕ) → gain g (multiple k s) v ≡ k *ℤ gain g s v
gain-multiple g k s v =
    sum_below-cong g.size _ _ (λ w _. multiple_flow (edges_between g v w) k (s w) (s v))
    ∙ sym (sum_below-scale g.size k (λ w. pos (edges_between g v w) *ℤ (s w -ℤ s v)))

pub multiple-once : (s : Amounts) (v : ℕ) → multiple (pos 1) s v ≡ s v
multiple-once s v = one-mul (s v)

pub multiple-on : (k : ℤ) (S : ℕ → Bool) (v : ℕ) → S v ≡ true → multiple k (indicator S) v ≡ k
multiple-on k S v member =
    ap (λ (b : Bool). k *ℤ (if b then pos 1 else pos 0)) member ∙ *ℤ_comm k (pos 1) ∙ one-mul k

pub multiple-off : (k : ℤ) (S : ℕ → Bool) (v : ℕ) → S v ≡ false → multiple k (indicator S) v ≡ pos 0
multiple-off k S v missing = ap (λ (b : Bool). k *ℤ (if b then pos 1 else pos 0)) missing ∙ *ℤ-zero k

pub multiple-within : (k : ℤ) (S : ℕ → Bool) (v M : ℕ) → unsigned_abs k ≤ M →
    unsigned_abs (multiple k (indicator S) v) ≤ M
multiple-within k S v M small = ⊎_elim
    (λ (member : S v ≡ true). rw (multiple-on k S v member) small)
    (λ (missing : S v ≡ false). rw (multiple-off k S v missing) (omega arith))
    (cases_Bool (S v))

pub gain-all_inside : (g : Multigraph) (k : ℤ) (S : ℕ → Bool) (v : ℕ) → S v ≡ true →
    gain g (multiple k (indicator S)) v +ℤ pos (edges_out g S v) *ℤ k ≡ pos 0
gain-all_inside g k S v inside =
    let none : k *ℤ (gain g (indicator S) v +ℤ pos (edges_out g S v)) ≡ pos 0 =
    ap (λ (z : ℤ). k *ℤ z) (gain-inside g S v inside) ∙ *ℤ-zero k in
    omega (
      arith,
      ints,
      gain-multiple g k (indicator S) v,
      mulz-add k (gain g (indicator S) v) (pos (edges_out g S v)),
      *ℤ_comm k (pos (edges_out g S v)),
    )

pub gain-all_outside : (g : Multigraph) (k : ℤ) (S : ℕ → Bool) (v : ℕ) → S v ≡ false →
    gain g (multiple k (indicator S)) v ≡ pos (edges_into g S v) *ℤ k
gain-all_outside g k S v outside =
    gain-multiple g k (indicator S) v
    ∙ ap (λ (z : ℤ). k *ℤ z) (gain-outside g S v outside)
    ∙ *ℤ_comm k (pos (edges_into g S v))
