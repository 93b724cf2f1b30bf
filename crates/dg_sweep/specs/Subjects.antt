-- What a question is about, as the code holds it.
--   subject_start x == the start with the graph, the divisor and the vertex q of x
use Rattle.dg_sweep.specs.Common.{StartData}
use Rattle.dg_sweep.specs.declared.answering.Subject.{Subject}

abbrev pub subject_start : Subject → StartData
subject_start x = record { graph = x.graph.now; divisor = x.divisor.now; q = x.q }
