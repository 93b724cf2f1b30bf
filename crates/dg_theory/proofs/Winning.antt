-- Winnability in terms of scripts and of equivalence.
--   script_of_win        from plays that clear all debts, a script that does
--   win_of_script        from a script that clears all debts, plays that do
--   winnable_by_script   the law that says both
--   winnable_by_class    a divisor is winnable exactly where it is equivalent to an effective one
--   win_carried          what is equivalent to a winnable divisor is winnable
--   equivalent-winnable  of equivalent divisors either both are winnable or neither is
use Rattle.dg_theory.proofs.Common.{Multigraph, Amounts, IsEffective, fired, AreEquivalent, played, IsWinnable, WinnableByScript, WinnableByClass, EquivalentWinnable}
use Rattle.dg_theory.proofs.Agreement.{effective-cong}
use Rattle.dg_theory.proofs.Equivalence.{equivalent-fired, equivalent-sym, equivalent-trans}
use Rattle.dg_theory.proofs.Plays.{total_script, plays_for, played-total, played-plays_for}

pub script_of_win : (g : Multigraph) (D : Amounts) → IsWinnable g D → (s : Amounts) × IsEffective g.size (fired g D s)
script_of_win g D (l, effective) =
    let s = total_script l in
    (s, effective-cong g.size (played g D l) (fired g D s) (λ v _. played-total g D l v) effective)

pub win_of_script : (g : Multigraph) (D s : Amounts) → IsEffective g.size (fired g D s) → IsWinnable g D
win_of_script g D s effective =
    let l = plays_for g.size s in
    (l, effective-cong g.size (fired g D s) (played g D l) (played-plays_for g D s) effective)

pub winnable_by_script : WinnableByScript
winnable_by_script g D = (script_of_win g D, λ (s, effective). win_of_script g D s effective)

pub winnable_by_class : WinnableByClass
winnable_by_class g D = (
  λ win. let (s, effective) = script_of_win g D win in (fired g D s, equivalent-fired g D s, effective),
  λ (E, (s, leads), effective). win_of_script g D s (effective-cong g.size E (fired g D s) leads effective),
)

pub win_carried : (g : Multigraph) (D E : Amounts) → AreEquivalent g D E → IsWinnable g D → IsWinnable g E
win_carried g D E same win =
    let (F, to, effective) = (winnable_by_class g D).0 win in
    (winnable_by_class g E).1 (F, equivalent-trans g E D F (equivalent-sym g D E same) to, effective)

pub equivalent-winnable : EquivalentWinnable
equivalent-winnable g D E same = (win_carried g D E same, win_carried g E D (equivalent-sym g D E same))
