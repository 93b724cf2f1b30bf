-- A reduction that begins with a script that was guessed.
--   reduced-off      whether amounts are reduced for q does not depend on what q has
--   IsContinued      the script s leads from C to N but for q's amount, and t leads from N to a reduced divisor
--   continued        then firing C by the sum of both gives a reduced divisor
--   continued_near   and if both are 0 at q, the sum is within the limit of a script that leads to one
use Rattle.dg_reduce.proofs.Common.{◌≡◌, ◌≢◌, ℕ, ◌+◌, ◌*◌, ◌<◌, ◌≤◌, true, false, arith, ap, sym, ◌∙◌, refl, ints, ℤ, pos, ◌+ℤ◌, ◌-ℤ◌, unsigned_abs, Multigraph, Amounts, gain, fired, IsReduced, fired-fired, IsGraph}
use Rattle.dg_reduce.proofs.Outcome.{script_near}

pub reduced-off : (g : Multigraph) (q : ℕ) (D E : Amounts) → ((v : ℕ) → v < g.size → v ≢ q → D v ≡ E v) →
    IsReduced g q D → IsReduced g q E
reduced-off g q D E same reduced = record {
  no_debt = λ v below other. omega (arith, ints, same v below other, reduced.no_debt v below other);
  none_fires = λ S without u below member.
      let (v, inside, in_v, less) = reduced.none_fires S without u below member in
      let other : v ≢ q = λ e. let both : true ≡ false = sym in_v ∙ ap S e ∙ without in cc in
      (v, inside, in_v, omega (arith, ints, same v inside other));
}

pub record IsContinued (g : Multigraph) (q : ℕ) (C N s t : Amounts) : Type 0 where
  pub left : (v : ℕ) → v < g.size → v ≢ q → N v ≡ fired g C s v
  pub reduced : IsReduced g q (fired g N t)

pub continued : (g : Multigraph) (q : ℕ) (C N s t : Amounts) → IsContinued g q C N s t →
    IsReduced g q (fired g C (λ w. s w +ℤ t w))
continued g q C N s t way =
    reduced-off g q (fired g N t) (fired g C (λ w. s w +ℤ t w))
    (λ v inside other. ap (λ (z : ℤ). z +ℤ gain g t v) (way.left v inside other) ∙ fired-fired g C s t v)
    way.reduced

pub continued_near : (g : Multigraph) (q : ℕ) (C N s t : Amounts) (M : ℕ) → IsGraph g → q < g.size →
    ((v : ℕ) → v < g.size → unsigned_abs (C v) ≤ M) → IsContinued g q C N s t → s q ≡ pos 0 → t q ≡ pos 0 →
    (v : ℕ) → v < g.size → unsigned_abs (s v +ℤ t v) ≤ 225 * (M + 62)
continued_near g q C N s t M graph vertex range way s_none t_none v inside =
    let near : unsigned_abs ((s v +ℤ t v) -ℤ (s q +ℤ t q)) ≤ 225 * (M + 62) =
    script_near g q C (fired g C (λ w. s w +ℤ t w)) (λ w. s w +ℤ t w) M graph vertex range
    (continued g q C N s t way) (λ _ _. refl) v inside in
    let same : (s v +ℤ t v) -ℤ (s q +ℤ t q) ≡ s v +ℤ t v = omega (arith, ints) in
    rw same at near
