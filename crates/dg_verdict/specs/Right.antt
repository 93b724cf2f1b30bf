-- Right verdicts. A verdict tells whether a divisor is winnable, with what shows it: a script, the
-- reduced divisor to which the script leads, and an order in which all vertices burn.
--   IsRightVerdict g q D x == the script is 0 at q and leads from D to a divisor that is reduced for
--                             q; the first vertices of the order show that it is; and the verdict
--                             says winnable exactly if D is
--   IsVerdictOn g q D x    == x is the verdict that is computed on D: it is right, and its order is
--                             that in which the least vertex burns first
use Rattle.std.specs.Prelude.{◌≡◌, ℕ, ◌↔◌, true, take, pos}
use Rattle.dg_chips.specs.Vector.{at}
use Rattle.dg_reduce.specs.Certificates.{IsFullOrder}
use Rattle.dg_theory.specs.Burning.{IsBurningOrder}
use Rattle.dg_theory.specs.Firing.{Amounts, FiresTo}
use Rattle.dg_theory.specs.Multigraph.{Multigraph}
use Rattle.dg_theory.specs.Play.{IsWinnable}
use Rattle.dg_theory.specs.Reduced.{IsReduced}
use Rattle.dg_verdict.specs.declared.verdict.Verdict.{Verdict}

pub record IsRightVerdict (g : Multigraph) (q : ℕ) (D : Amounts) (x : Verdict) : Type 0 where
  pub script_size : x.script.size ≡ g.size
  pub reduced_size : x.reduced.size ≡ g.size
  pub at_q : at x.script q ≡ pos 0
  pub led : FiresTo g (at x.script) D (at x.reduced)
  pub reduced : IsReduced g q (at x.reduced)
  pub order : IsBurningOrder g q (at x.reduced) (take g.size x.order)
  pub winnable : (x.winnable ≡ true) ↔ IsWinnable g D

pub record IsVerdictOn (g : Multigraph) (q : ℕ) (D : Amounts) (x : Verdict) : Type 0 where
  pub right : IsRightVerdict g q D x
  pub order : IsFullOrder g q (at x.reduced) x.order
