-- A burning that is kept for amounts which may be those that burnt.
--   CertifiesBurning g q x == all vertices burn from q, in the order of x, if they hold what x tells
--   CoversOff n q D l      == each of n vertices but q has as many dollars in D as l tells
use Rattle.std.specs.Prelude.{◌≡◌, ◌≢◌, ℕ, ◌<◌, List}
use Rattle.dg_burn.specs.Fires.{list_amounts}
use Rattle.dg_theory.specs.Firing.{Amounts}
use Rattle.dg_theory.specs.Multigraph.{Multigraph}
use Rattle.dg_theory.specs.Reduced.{IsReduced}
use Rattle.dg_reduce.specs.declared.certificate.Burning.{Burning}
use Rattle.dg_reduce.specs.Certificates.{IsFullOrder}

pub record CertifiesBurning (g : Multigraph) (q : ℕ) (x : Burning) : Type 0 where
  pub reduced : IsReduced g q (list_amounts x.held)
  pub order : IsFullOrder g q (list_amounts x.held) x.order

abbrev pub CoversOff : ℕ → ℕ → Amounts → List ℕ → Type 0
CoversOff n q D l = (v : ℕ) → v < n → v ≢ q → D v ≡ list_amounts l v
