-- The theorem of Riemann and Roch for multigraphs (Baker and Norine 2007, theorem 1.12; Corry and
-- Perkinson, chapter 5), and what follows from it. The residual of a divisor D is the canonical divisor
-- less D. A function of src/laws.rt promises them.
--   RiemannRoch           == the rank of a divisor D less that of its residual is the degree of D, plus 1, less
--                            the genus
--   RankOfDual            == so the rank of D tells that of the residual, and -1 is no exception
--   DualTests             == the same of rank tests: if k less l is the degree of D, plus 1, less the
--                            genus, D has a rank of at least k exactly if the residual has one of at least l
--   LossOfDual            == and where the residual can't bear the loss of some effective divisor of degree l, D
--                            can't bear that of some effective divisor of degree k
--   RankAboveGenus        == if k is at least the genus, a divisor with a rank of at least k has a degree
--                            of at least the genus and k more
--   RankExists            == every divisor has a rank
--   RankIsUnique          == a divisor has at most one rank
--   RankOfSum             == the rank of a sum is at least the sum of the ranks, if neither is -1 (lemma
--                            2.1)
--   Clifford              == if the ranks of D and of its residual are at least 0, that of D is at most half of
--                            its degree (Clifford's theorem, corollary 3.5)
--   CliffordOrRiemannRoch == a divisor with a rank of at least k has a degree of at least 2 k, or one of at
--                            least the genus and k more
use Rattle.std.specs.Prelude.{◌≡◌, ℕ, ◌+◌, ◌<◌, ◌↔◌, ◌⊎◌, ℤ, pos, ◌+ℤ◌, ◌-ℤ◌, ◌≤ℤ◌}
use Rattle.dg_theory.specs.Multigraph.{Multigraph, IsMultigraph, genus}
use Rattle.dg_theory.specs.Firing.{Amounts, degree, IsEffective}
use Rattle.dg_theory.specs.Play.{IsWinnable}
use Rattle.dg_theory.specs.Rank.{minus, canonical, HasRankAtLeast, IsRank}

abbrev pub RiemannRoch : Type 0
RiemannRoch = (g : Multigraph) (D : Amounts) (r s : ℤ) → IsMultigraph g → 0 < g.size →
    IsRank g D r → IsRank g (minus (canonical g) D) s →
    r -ℤ s ≡ (degree g.size D +ℤ pos 1) -ℤ genus g

abbrev pub RankOfDual : Type 0
RankOfDual = (g : Multigraph) (D : Amounts) (r s : ℤ) → IsMultigraph g → 0 < g.size →
    r -ℤ s ≡ (degree g.size D +ℤ pos 1) -ℤ genus g → IsRank g D r →
    IsRank g (minus (canonical g) D) s

abbrev pub DualTests : Type 0
DualTests = (g : Multigraph) (D : Amounts) (k l : ℕ) → IsMultigraph g → 0 < g.size →
    pos k -ℤ pos l ≡ (degree g.size D +ℤ pos 1) -ℤ genus g →
    (HasRankAtLeast g D k ↔ HasRankAtLeast g (minus (canonical g) D) l)

abbrev pub LossOfDual : Type 0
LossOfDual = (g : Multigraph) (D F : Amounts) (k l : ℕ) → IsMultigraph g → 0 < g.size →
    pos k -ℤ pos l ≡ (degree g.size D +ℤ pos 1) -ℤ genus g →
    IsEffective g.size F → degree g.size F ≡ pos l →
    ¬ IsWinnable g (minus (minus (canonical g) D) F) →
    (E : Amounts) × IsEffective g.size E × (degree g.size E ≡ pos k) × (¬ IsWinnable g (minus D E))

abbrev pub RankAboveGenus : Type 0
RankAboveGenus = (g : Multigraph) (D : Amounts) (k : ℕ) → IsMultigraph g → 0 < g.size → genus g ≤ℤ pos k →
    HasRankAtLeast g D k → (genus g +ℤ pos k) ≤ℤ degree g.size D

abbrev pub RankExists : Type 0
RankExists = (g : Multigraph) (D : Amounts) → IsMultigraph g → 0 < g.size → (r : ℤ) × IsRank g D r

abbrev pub RankIsUnique : Type 0
RankIsUnique = (g : Multigraph) (D : Amounts) (r s : ℤ) → IsRank g D r → IsRank g D s → r ≡ s

abbrev pub RankOfSum : Type 0
RankOfSum = (g : Multigraph) (D E : Amounts) (j k : ℕ) → HasRankAtLeast g D j →
    HasRankAtLeast g E k → HasRankAtLeast g (λ v. D v +ℤ E v) (j + k)

abbrev pub Clifford : Type 0
Clifford = (g : Multigraph) (D : Amounts) (k : ℕ) → IsMultigraph g → 0 < g.size →
    HasRankAtLeast g D k →
    HasRankAtLeast g (minus (canonical g) D) 0 → (pos k +ℤ pos k) ≤ℤ degree g.size D

abbrev pub CliffordOrRiemannRoch : Type 0
CliffordOrRiemannRoch = (g : Multigraph) (D : Amounts) (k : ℕ) → IsMultigraph g → 0 < g.size →
    HasRankAtLeast g D k →
    ((pos k +ℤ pos k) ≤ℤ degree g.size D) ⊎ ((genus g +ℤ pos k) ≤ℤ degree g.size D)
