-- Kinds of lines.
--   answers_of kind == how lines of this kind are answered
use Rattle.dg_sweep.specs.Answers.{Rule, of_tables}
use Rattle.dg_sweep.specs.Divisors.{of_amounts}
use Rattle.dg_sweep.specs.declared.kinds.LineKind.{LineKind}
use Rattle.dg_sweep.specs.declared.kinds.LineKind.TheVariants.{Tables, Divisors}

abbrev pub answers_of : LineKind → Rule
answers_of (Tables question) = of_tables question
answers_of (Divisors question table inverse) = of_amounts question table.now.start table.now.names
