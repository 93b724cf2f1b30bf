-- What a rank test answers of a divisor it answers of each that is equivalent to it.
--   rank_test_carried  what is right for a divisor is right for one that is equivalent to it
--   rank_test-cong     what is right for a divisor is right for one that agrees with it on the vertices
--   rank_test_led      what is right for a divisor is right for one to which a script leads
use Rattle.dg_rules.proofs.Common.{ℕ, Multigraph, Amounts, DivisorsAgreeOn, FiresTo, AreEquivalent, equivalent-refl, equivalent-rank, equivalent-loss, at, IsRightRank, RankVerdict, AtLeast, Below}

rank_test_carried : (g : Multigraph) (D E : Amounts) (k : ℕ) (x : RankVerdict) → AreEquivalent g D E →
    IsRightRank g D k x → IsRightRank g E k x
rank_test_carried g D E k (AtLeast j) same (of_degree, rank) = (of_degree, (equivalent-rank g D E k same).0 rank)
rank_test_carried g D E k (Below j d) same (of_degree, size, loss) =
    (of_degree, size, (equivalent-loss g D E k (at d) same).0 loss)

pub rank_test-cong : (g : Multigraph) (D E : Amounts) (k : ℕ) (x : RankVerdict) → DivisorsAgreeOn g.size D E →
    IsRightRank g D k x → IsRightRank g E k x
rank_test-cong g D E k x same right = rank_test_carried g D E k x (equivalent-refl g D E same) right

pub rank_test_led : (g : Multigraph) (D E s : Amounts) (k : ℕ) (x : RankVerdict) → FiresTo g s D E →
    IsRightRank g D k x → IsRightRank g E k x
rank_test_led g D E s k x led right = rank_test_carried g D E k x (s, led) right
