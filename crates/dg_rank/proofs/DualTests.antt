-- Rank tests of a divisor by those of its residual.
--   decided          a test that tells one of two facts which hold together tells the other
--   dual_passes      what agrees with the residual passes its test exactly where the divisor passes its own
--   fails_past_half  where it is not rich, a divisor fails a test of more than half of its degree
use Rattle.dg_rank.proofs.Common.{ℕ, ◌<◌, Bool, true, false, arith, ◌↔◌, ◌≤ℤ◌, ◌<ℤ◌, ◌+ℤ◌, MatchBool, ints, pos, Multigraph, IsMultigraph, genus, Amounts, degree, DivisorsAgreeOn, minus, canonical, HasRankAtLeast, equivalent-refl, equivalent-rank, IsDual, dual_tests, ⊎_elim, half_of_degree}

pub decided : {P Q : Type 0} (b : Bool) → P ↔ Q → MatchBool b P (¬ P) → MatchBool b Q (¬ Q)
decided true same holds = same.0 holds
decided false same fails = λ q. fails (same.1 q)

pub dual_passes : (g : Multigraph) (D E : Amounts) (k l : ℕ) → IsMultigraph g → 0 < g.size → IsDual g D k l →
    DivisorsAgreeOn g.size E (minus (canonical g) D) → HasRankAtLeast g E l ↔ HasRankAtLeast g D k
dual_passes g D E k l graph some dual same =
    let alike : HasRankAtLeast g E l ↔ HasRankAtLeast g (minus (canonical g) D) l =
    equivalent-rank g E (minus (canonical g) D) l (equivalent-refl g E (minus (canonical g) D) same) in
    let tests : HasRankAtLeast g D k ↔ HasRankAtLeast g (minus (canonical g) D) l = dual_tests g D k l graph some dual in
    (λ rank. tests.1 (alike.0 rank), λ rank. alike.1 (tests.0 rank))

pub fails_past_half : (g : Multigraph) (D : Amounts) (k : ℕ) → IsMultigraph g → 0 < g.size →
    degree g.size D <ℤ (genus g +ℤ pos k) → degree g.size D <ℤ (pos k +ℤ pos k) → ¬ HasRankAtLeast g D k
fails_past_half g D k graph some poor past rank = ⊎_elim
    (λ (half : (pos k +ℤ pos k) ≤ℤ degree g.size D). omega (arith, ints))
    (λ (rich : (genus g +ℤ pos k) ≤ℤ degree g.size D). omega (arith, ints))
    (half_of_degree g D k graph some rank)
