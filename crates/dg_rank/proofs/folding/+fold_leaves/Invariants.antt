use Rattle.dg_rank.proofs.folding.+fold_leaves.Given as goal

abbrev pub decreases-fold_leaves : goal.decreases-fold_leaves
decreases-fold_leaves l = l.leaves
