-- Turns: calls that are chosen at the position which they find. A choice is a closure that is
-- handed a graph and amounts; c has the members of its kind.
--   MayBeAsked c f               == f may be asked at every graph and amounts of as many vertices
--   Asking                       == a choice before and after
--   asking f f'                  == that of these
--   IsAskedOnce c a g d m        == asked once, at the graph g and the amounts d, the choice answers m
--   IsAskedAfter c table H a m   == the choice is so asked at the table's position after the history H
--   IsTurnAfter c table a e      == the choice is so asked, once, and its answer is the call that is so
--                                   entered
--   IsTurn c table a r x y       == this holds after some history
--   IsAskedToEnter c table H x a == the choice was asked, once, after H if H has room and the seat x is
--                                   admissible; otherwise it was not asked
--   RefusesTurn c table x a f    == if the turn of the seat x was refused with f, this is known, as of a
--                                   call; and the choice was not asked, or, if the cell refused the entry,
--                                   after the history that the seat has met then
use Rattle.std.specs.Prelude.{◌≡◌, ℕ, List, Option, ◌⊎◌}
use Rattle.std.specs.Borrow.{Bor}
use Rattle.std.specs.Fn.{Mut, Called, Takes}
use Rattle.dg_table.specs.Common.{Multigraph, TableData, Vector, Move, ShowsPosition, position_after, Entry, choice_request}
use Rattle.dg_table.specs.Answered.{Entering, entering, IsAnsweredAfter}
use Rattle.dg_table.specs.Faults.{MayEnter, RefusesCall}
use Rattle.dg_table.specs.Seats.{SeatView}
use Rattle.dg_table.specs.declared.fault.Fault.{Fault}
use Rattle.dg_table.specs.declared.fault.Fault.TheVariants.{OutOfMemory, Full, Log}

pub record Asking (F : Type 0) : Type 0 where
  pub before : F
  pub after : F

abbrev pub asking : {F : Type 0} → F → F → Asking F
asking f f' = record { before = f; after = f' }

module _ {F : Type 0} (c : Mut F (Bor Multigraph × (Bor Vector × Unit {0})) (Option Move)) where
  abbrev pub MayBeAsked : F → Type 0
  MayBeAsked f = (p : Bor Multigraph) (q : Bor Vector) → q.now.size ≡ p.now.size →
      Takes c f (p, (q, tt))

  pub record IsAskedOnce (a : Asking F) (g : Multigraph) (d : Vector) (m : Option Move) : Type 0 where
    pub graph : Bor Multigraph
    pub amounts : Bor Vector
    pub shows : (graph.now ≡ g) × (amounts.now ≡ d)
    pub called : Called c a.before (graph, (amounts, tt)) m a.after

module _ {F : Type 0} (c : Mut F (Bor Multigraph × (Bor Vector × Unit {0})) (Option Move))
    (table : TableData) where
  pub record IsAskedAfter (H : List Entry) (a : Asking F) (m : Option Move) : Type 0 where
    pub amounts : Vector
    pub shown : ShowsPosition (position_after table.start H) amounts
    pub answers : IsAskedOnce c a (position_after table.start H).graph amounts m

  pub record IsTurnAfter (a : Asking F) (e : Entering) : Type 0 where
    pub answer : Option Move
    pub asked : IsAskedAfter e.history a answer
    pub answered : IsAnsweredAfter table (choice_request answer) e

  abbrev pub IsTurn : Asking F → ℕ × Entry → SeatView → SeatView → Type 0
  IsTurn a r x y = (H : List Entry) × IsTurnAfter a (entering H r x y)

  abbrev pub IsAskedToEnter : List Entry → SeatView → Asking F → Type 0
  IsAskedToEnter H x a =
      (MayEnter table H x × ((m : Option Move) × IsAskedAfter H a m))
      ⊎ ((¬ MayEnter table H x) × (a.after ≡ a.before))

  abbrev pub RefusesTurn : SeatView → Asking F → Fault → Type 0
  RefusesTurn x a OutOfMemory = a.after ≡ a.before
  RefusesTurn x a Full = (a.after ≡ a.before) × RefusesCall table x Full
  RefusesTurn x a Log = RefusesCall table x Log
      × ((a.after ≡ a.before) ⊎ ((m : Option Move) × IsAskedAfter x.met a m))
