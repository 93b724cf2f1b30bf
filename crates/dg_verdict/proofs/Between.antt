-- Two right verdicts on equivalent divisors.
--   between_leads   what the script of the first lends more than that of the second leads from divisor to divisor
use Rattle.dg_verdict.proofs.Common.{◌≡◌, ℕ, ◌<◌, arith, ints, ◌+ℤ◌, ◌-ℤ◌, Multigraph, Amounts, DivisorsAgreeOn, fired, FiresTo, AreEquivalent, equivalent-sym, equivalent-trans, gain-add, fired-cong, reduced_once, at, IsRightVerdict, Verdict}

pub between_leads : (g : Multigraph) (q : ℕ) (D E d : Amounts) (x y : Verdict) → q < g.size → AreEquivalent g D E →
    IsRightVerdict g q D x → IsRightVerdict g q E y → DivisorsAgreeOn g.size d (λ v. at x.script v -ℤ at y.script v) →
    FiresTo g d D E
between_leads g q D E d x y vertex same first second apart v inside =
    let class : AreEquivalent g (at x.reduced) (at y.reduced) =
    equivalent-trans g (at x.reduced) D (at y.reduced) (equivalent-sym g D (at x.reduced) (at x.script, first.led))
    (equivalent-trans g D E (at y.reduced) same (at y.script, second.led)) in
    let once : at x.reduced v ≡ at y.reduced v =
    reduced_once g q (at x.reduced) (at y.reduced) vertex class first.reduced second.reduced v inside in
    let back : Amounts = λ w. d w +ℤ at y.script w in
    let sum : fired g D back v ≡ fired g D (at x.script) v = fired-cong g D back (at x.script) v inside
    (λ w below. let here : d w ≡ at x.script w -ℤ at y.script w = apart w below in omega (arith, ints)) in
    omega (arith, ints, once, sum, first.led v inside, second.led v inside, gain-add g d (at y.script) v)
