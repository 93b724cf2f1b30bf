-- The laws of the greedy game: to settle out by the greedy settler, alone at a new table, makes it,
-- and there is only one.
--   IsGreedyChoice A     == each choice that A has is greedy: the least vertex in debt borrows, and
--                           there is a claim if nobody is in debt
--   IsAloneAt table x == the table has one seat, and the seat x has made no call
--   HasGreedyGame table n y ended == the calls of the seat y are the history of a greedy game of n
--                           turns, numbered from 0 on, which ended so
--   SettlerIsGreedy N A table == if A is a greedy choice, so it is after every play of a settler
--                           with A that is not refused, by a seat that is alone at the new table N
--   GreedyIsUnique      == from one start, and with one number of turns, greedy games have the same
--                           history, and end in the same way
use Rattle.std.specs.Prelude.{◌≡◌, ℕ, Bool, List, [], Option, Ok}
use Rattle.std.specs.List.{enumerate_from}
use Rattle.dg_strategy.specs.Common.{Multigraph, StartData, Vector, Move, Entry, TableData, SeatView}
use Rattle.dg_strategy.specs.Choices.{Choosing, IsGreedyMove}
use Rattle.dg_strategy.specs.Greedy.{IsGreedyGame}
use Rattle.dg_strategy.specs.Plays.{IsSettlerTurn, Plays, is_settled}
use Rattle.dg_strategy.specs.declared.playing.Ended.{Ended}

abbrev pub IsGreedyChoice : Choosing → Type 0
IsGreedyChoice A = (g : Multigraph) (d : Vector) (m : Option Move) → d.size ≡ g.size → A g d m → IsGreedyMove d m

abbrev pub IsAloneAt : TableData → SeatView → Type 0
IsAloneAt table x = (table.seats ≡ 1) × (x.mine ≡ [])

abbrev pub HasGreedyGame : {N : Type 0} → TableData → ℕ → SeatView → Ended N → Type 0
HasGreedyGame table n y ended = (H : List Entry) × (y.mine ≡ enumerate_from 0 H) ×
    IsGreedyGame table.start n H (is_settled ended)

abbrev pub SettlerIsGreedy : Type 0 → Choosing → TableData → Type 0
SettlerIsGreedy N A table = (n : ℕ) (x y : SeatView) (ended : Ended N) → IsGreedyChoice A →
    IsAloneAt table x → Plays (IsSettlerTurn A table) table n x y (Ok ended) → HasGreedyGame table n y ended

abbrev pub GreedyIsUnique : Type 0
GreedyIsUnique = (o : StartData) (n : ℕ) (H K : List Entry) (settled ended : Bool) →
    IsGreedyGame o n H settled → IsGreedyGame o n K ended → (H ≡ K) × (settled ≡ ended)
