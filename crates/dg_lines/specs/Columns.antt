-- Answers in columns of bare numbers, with one space between two.
--   columns x v n         == the numbers of x at n vertices, from v on, each after a space
--   vector_columns x      == those of all its vertices
--   marks n               == n times the mark for a number that there is not, each after a space
--   bool_text holds       == 1 for yes, 0 for no
--   verdict_row x         == whether the table is winnable, the script, the reduced divisor, and a newline
--   loss_columns n loss   == what a loss takes at each vertex; n marks, if none is named
--   rank_row n holds loss == whether the rank is at least the degree, the first loss, and a newline
use Rattle.std.specs.Prelude.{ℕ, zero, suc, ◌+◌, Bool, true, false, List, [], ◌++◌, Option, None, Some, codes}
use Rattle.std.specs.Fmt.{signed_decimal}
use Rattle.dg_chips.specs.Vector.{Vector, at}
use Rattle.dg_theory.specs.Firing.{Amounts}
use Rattle.dg_verdict.specs.declared.verdict.Verdict.{Verdict}

unfoldable pub columns : Amounts → ℕ → ℕ → List ℕ
columns x v zero = []
columns x v (suc n) = codes " " ++ signed_decimal (x v) ++ columns x (v + 1) n

abbrev pub vector_columns : Vector → List ℕ
vector_columns x = columns (at x) 0 x.size

unfoldable pub marks : ℕ → List ℕ
marks zero = []
marks (suc n) = marks n ++ codes " NA"

abbrev pub bool_text : Bool → List ℕ
bool_text true = codes "1"
bool_text false = codes "0"

abbrev pub verdict_row : Verdict → List ℕ
verdict_row x =
    bool_text x.winnable ++ vector_columns x.script ++ vector_columns x.reduced ++ codes "\n"

abbrev pub loss_columns : ℕ → Option Vector → List ℕ
loss_columns n None = marks n
loss_columns n (Some loss) = vector_columns loss

abbrev pub rank_row : ℕ → Bool → Option Vector → List ℕ
rank_row n holds loss = bool_text holds ++ loss_columns n loss ++ codes "\n"
