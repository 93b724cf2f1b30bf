-- Calls that are no entry.
--   IsFull table H x                == H is a history of the table, and fills it; it begins with the
--                                      history that the seat x found, and the entries that the seat
--                                      keeps stand in it
--   MayEnter table H x              == H has room for an entry, and the seat x is admissible after it
--   RefusesStep table p q x f       == the step of a seat x that has the space for it is refused with
--                                      f; p and q are what the pen has written before and after it
--   RefusesSettling table p q i x f == so is the step by which the seat x enters a finding on the look
--                                      of number i
--   RefusesCall table x f           == if the call of the seat x was refused with f, this is known:
--                                      after `Full`, the history that it has met then fills the table;
--                                      after `Log`, that has room; and after either the seat has space
--                                      for one more call, since memory is asked for first
--   KeepsAfterRefusal f x y         == after the refusal f the seat x, which is y then, knows what it
--                                      knew; after `OutOfMemory` it has met nothing new
use Rattle.std.specs.Prelude.{◌≡◌, ℕ, ◌<◌, ◌≤◌, List, true, length, ⊤, ◌⊎◌}
use Rattle.dg_table.specs.Common.{Entry, StandIn, IsPrefixOf, TableData, Written}
use Rattle.dg_table.specs.Histories.{IsHistoryOf}
use Rattle.dg_table.specs.Seats.{SeatView, IsAdmissible, Keeps}
use Rattle.dg_table.specs.declared.fault.Fault.{Fault}
use Rattle.dg_table.specs.declared.fault.Fault.TheVariants.{OutOfMemory, Full, Log}

pub record IsFull (table : TableData) (H : List Entry) (x : SeatView) : Type 0 where
  pub full : length H ≡ table.capacity
  pub history : IsHistoryOf table H
  pub prefix : IsPrefixOf x.prefix H
  pub mine : StandIn H x.mine
  pub told : StandIn H x.told

abbrev pub MayEnter : TableData → List Entry → SeatView → Type 0
MayEnter table H x = (length H < table.capacity) × IsAdmissible H x

abbrev pub RefusesStep : TableData → Written → Written → SeatView → Fault → Type 0
RefusesStep table p q x OutOfMemory = ⊥
RefusesStep table p q x Full = IsFull table p.entries x × (q.stuck ≡ p.stuck)
RefusesStep table p q x Log = (length p.entries < table.capacity) ×
    (((¬ IsAdmissible p.entries x) × (q.stuck ≡ p.stuck))
    ⊎ (IsAdmissible p.entries x × (q.stuck ≡ true)))

abbrev pub RefusesSettling : TableData → Written → Written → ℕ → SeatView → Fault → Type 0
RefusesSettling table p q i x OutOfMemory = ⊥
RefusesSettling table p q i x Full = IsFull table p.entries x × (q.stuck ≡ p.stuck)
RefusesSettling table p q i x Log = (length p.entries < table.capacity) ×
    (((¬ IsAdmissible p.entries x) × (q.stuck ≡ p.stuck))
    ⊎ (IsAdmissible p.entries x × (length p.entries ≤ i) × (q.stuck ≡ p.stuck))
    ⊎ (IsAdmissible p.entries x × (i < length p.entries) × (q.stuck ≡ true)))

abbrev pub RefusesCall : TableData → SeatView → Fault → Type 0
RefusesCall table x OutOfMemory = ⊤
RefusesCall table x Full = IsFull table x.met x × (x.space ≡ true)
RefusesCall table x Log = (length x.met < table.capacity) × (x.space ≡ true)

abbrev pub KeepsAfterRefusal : Fault → SeatView → SeatView → Type 0
KeepsAfterRefusal f x y = Keeps x y × (f ≡ OutOfMemory → y.met ≡ x.met)
