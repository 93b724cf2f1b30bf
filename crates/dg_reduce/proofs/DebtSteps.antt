-- How a vertex v, which alone is in debt, is paid back by sets without v that lend.
--   IsRepaying g v x y   such sets led from the amounts x to y
--   repaying-start       no set has lent at first
--   repaying-done        once v is out of debt, nobody is in debt
--   repaying-lost        if the amounts are reduced for v while v is in debt, they can't be won
use Rattle.dg_reduce.proofs.Common.{◌≡◌, ℕ, ◌<◌, arith, refl, ap, ⊎_elim, ints, cases_eq, pos, ◌≤ℤ◌, ◌<ℤ◌, Multigraph, IsEffectiveOff, AreEquivalent, IsWinnable, IsReduced, equivalent-refl, IsLed, led_start, reduced_decides, Vector, at, IsInLinearSystem}

pub record IsRepaying (g : Multigraph) (v : ℕ) (x y : Vector) : Type 0 where
  pub size : y.size ≡ g.size
  pub led : IsLed g v (at x) (at y)
  pub equivalent : AreEquivalent g (at x) (at y)

pub repaying-start : (g : Multigraph) (v : ℕ) (x : Vector) → x.size ≡ g.size → IsEffectiveOff g v (at x) →
    IsRepaying g v x x
repaying-start g v x size no_debt = record {
  size = size;
  led = led_start g v (at x) no_debt;
  equivalent = equivalent-refl g (at x) (at x) (λ w _. refl);
}

pub repaying-done : (g : Multigraph) (v : ℕ) (x y : Vector) → IsRepaying g v x y → pos 0 ≤ℤ at y v →
    IsInLinearSystem g (at x) y
repaying-done g v x y state paid = record {
  size = state.size;
  effective = λ w below. ⊎_elim
      (λ (same : w ≡ v). let at_v : at y w ≡ at y v = ap (at y) same in omega (arith, ints))
      (λ (other : w ≡ v → ⊥). state.led.no_debt w below other)
      (cases_eq w v);
  led = state.equivalent;
}

pub repaying-lost : (g : Multigraph) (v : ℕ) (x y : Vector) → v < g.size → IsRepaying g v x y → IsReduced g v (at y) →
    at y v <ℤ pos 0 → ¬ IsWinnable g (at x)
repaying-lost g v x y vertex state reduced debt win =
    let paid : pos 0 ≤ℤ at y v = (reduced_decides g v (at x) (at y) vertex state.equivalent reduced).0 win in
    absurd (omega (arith, ints))
