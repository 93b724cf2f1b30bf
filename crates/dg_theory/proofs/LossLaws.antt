-- The laws of the first loss.
--   loss_carried    a first loss of a divisor is one of each that is equivalent to it
--   equivalent-loss equivalent divisors have the same first loss
--   OneIsBefore     of two divisors E and F one is before the other
--   SameOrBefore    they are the same at n vertices, or one is before the other
--   before_in_more  who is before another at n vertices is so at n + 1
--   differ_last     who is the same at n vertices and holds less at the next is before the other
--   same_last       two divisors that are the same at n vertices and at the next are so at n + 1
--   compare_last    divisors that agree at n vertices agree at n + 1, or one is before the other
--   same_or_before  any two divisors are the same at n vertices, or one is before the other
--   loss_once       there is at most one first loss
--   loss_bounds_rank    where there is a first loss of degree k, the rank is not at least k
use Rattle.dg_theory.proofs.Common.{◌≡◌, ℕ, zero, suc, ◌⊎◌, arith, sym, ap, inl, inr, ⊎_elim, cases_eq, ints, by_lt_z, ◌≤ℤ◌, ◌<ℤ◌, Multigraph, Amounts, DivisorsAgreeOn, AreEquivalent, IsLexBefore, IsFirstLoss, EquivalentLoss, FirstLossIsUnique, LossBoundsRank}
use Rattle.dg_theory.proofs.RankLaws.{less_winnable}
use Rattle.dg_theory.proofs.Equivalence.{equivalent-sym}

loss_carried : (g : Multigraph) (D E : Amounts) (k : ℕ) (F : Amounts) → AreEquivalent g D E → IsFirstLoss g D k F →
    IsFirstLoss g E k F
loss_carried g D E k F same loss = record {
  effective = loss.effective;
  of_degree = loss.of_degree;
  loses = λ win. loss.loses ((less_winnable g D E F same).1 win);
  first = λ G effective of_degree before. (less_winnable g D E G same).0 (loss.first G effective of_degree before);
}

pub equivalent-loss : EquivalentLoss
equivalent-loss g D E k F same = (loss_carried g D E k F same, loss_carried g E D k F (equivalent-sym g D E same))

before_in_more : (n : ℕ) (E F : Amounts) → IsLexBefore n E F → IsLexBefore (suc n) E F
before_in_more n E F before = record {
  place = before.place;
  inside = omega (arith, before.inside);
  same = before.same;
  smaller = before.smaller;
}

abbrev OneIsBefore : ℕ → Amounts → Amounts → Type 0
OneIsBefore n E F = IsLexBefore n E F ⊎ IsLexBefore n F E

differ_last : (n : ℕ) (E F : Amounts) → DivisorsAgreeOn n E F → E n <ℤ F n → IsLexBefore (suc n) E F
differ_last n E F same smaller = record {
  place = n;
  inside = omega arith;
  same = same;
  smaller = smaller;
}

same_last : (n : ℕ) (E F : Amounts) → DivisorsAgreeOn n E F → E n ≡ F n → DivisorsAgreeOn (suc n) E F
same_last n E F same last v below =
    ⊎_elim
    (λ (at : v ≡ n). let E_at : E v ≡ E n = ap E at in let F_at : F v ≡ F n = ap F at in omega (arith, ints))
    (λ (other : v ≡ n → ⊥). same v (omega arith))
    (cases_eq v n)

abbrev SameOrBefore : ℕ → Amounts → Amounts → Type 0
SameOrBefore n E F = DivisorsAgreeOn n E F ⊎ OneIsBefore n E F

compare_last : (n : ℕ) (E F : Amounts) → DivisorsAgreeOn n E F → SameOrBefore (suc n) E F
compare_last n E F same =
    by_lt_z (E n) (F n)
    (λ (smaller : E n <ℤ F n). inr (inl (differ_last n E F same smaller)))
    (λ (more : F n ≤ℤ E n).
    by_lt_z (F n) (E n)
    (λ (larger : F n <ℤ E n). inr (inr (differ_last n F E (λ v below. sym (same v below)) larger)))
    (λ (less : E n ≤ℤ F n). inl (same_last n E F same (omega (arith, ints)))))

same_or_before : (n : ℕ) (E F : Amounts) → SameOrBefore n E F
same_or_before zero E F = inl (λ v below. absurd (omega arith))
same_or_before (suc n) E F =
    ⊎_elim
    (λ (same : DivisorsAgreeOn n E F). compare_last n E F same)
    (λ (one : OneIsBefore n E F).
    ⊎_elim
    (λ (before : IsLexBefore n E F). inr (inl (before_in_more n E F before)))
    (λ (after : IsLexBefore n F E). inr (inr (before_in_more n F E after)))
    one)
    (same_or_before n E F)

pub loss_once : FirstLossIsUnique
loss_once g D k E F one other v inside =
    ⊎_elim
    (λ (same : DivisorsAgreeOn g.size E F). same v inside)
    (λ (either : OneIsBefore g.size E F). absurd (⊎_elim
    (λ (before : IsLexBefore g.size E F). one.loses (other.first E one.effective one.of_degree before))
    (λ (after : IsLexBefore g.size F E). other.loses (one.first F other.effective other.of_degree after))
    either))
    (same_or_before g.size E F)

pub loss_bounds_rank : LossBoundsRank
loss_bounds_rank g D k E loss rank = loss.loses (rank E loss.effective loss.of_degree)
