use Rattle.dg_graph.proofs.Common.{◌∙◌, arith, false≢true, sym}
use Rattle.dg_graph.proofs.SetLaws.{in_set-none}
use Rattle.dg_graph.proofs.graph.Graph.twins_of.Goals as goal

pub loop-u-init : goal.loop-u-init
loop-u-init c = record {
  part = λ w member. absurd (false≢true (sym (in_set-none w) ∙ member));
  all = λ w below _ _. absurd (omega arith);
}
