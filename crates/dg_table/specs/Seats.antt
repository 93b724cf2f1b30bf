-- What a seat knows of the history.
--   entries_of s H   == the entries of the seat s in the history H, each with its number, in order
--   AreOfSeats n H   == each entry of the history H is one of the seats 1 to n
--   SeatView         == a seat's number, the entries of its own calls, the entries that it was told of,
--                       the history as it found it at its last call, the longest history that it has
--                       met, whether it has space for one more call, and whether it has space to be
--                       told of one more entry
--   HoldsKnown H x   == the history H holds what the seat x knows: H begins with the histories that it
--                       found and has met; its entries in H are just those of its own calls, each once
--                       and in order; and every entry that it was told of stands in H at its number
--   IsAdmissible H x == H has as many entries as the history that the seat x has met, or more, an entry
--                       of each number that it was told of, and as many of the seat's entries as it
--                       keeps
--   Attests H x      == the history H attests the seat x: H begins with the one that the seat found at its last
--                       call, and its entries in H are just those of its own calls
--   Keeps x y        == the seat y is the seat x and knows the same, but that it may have met a longer
--                       history
--   HasMet H x y     == the seat y is the seat x as it was, but that it has met the history H: of H and
--                       what it had met it keeps the longer
use Rattle.std.specs.Prelude.{◌≡◌, ℕ, ◌==◌, ◌≤◌, List, Bool, Some, length, slice_get}
use Rattle.std.specs.List.{filter, enumerate_from}
use Rattle.dg_table.specs.Common.{Entry, AreBelow, StandIn, IsPrefixOf, IsLongerPrefix}

abbrev pub entries_of : ℕ → List Entry → List (ℕ × Entry)
entries_of s H = filter (λ p. p.1.seat == s) (enumerate_from 0 H)

abbrev pub AreOfSeats : ℕ → List Entry → Type 0
AreOfSeats n H = (k : ℕ) (e : Entry) → slice_get H k ≡ Some e → (1 ≤ e.seat) × (e.seat ≤ n)

pub record SeatView : Type 0 where
  pub number : ℕ
  pub mine : List (ℕ × Entry)
  pub told : List (ℕ × Entry)
  pub prefix : List Entry
  pub met : List Entry
  pub space : Bool
  pub hears : Bool

pub record HoldsKnown (H : List Entry) (x : SeatView) : Type 0 where
  pub prefix : IsPrefixOf x.prefix H
  pub met : IsPrefixOf x.met H
  pub mine : entries_of x.number H ≡ x.mine
  pub told : StandIn H x.told

pub record IsAdmissible (H : List Entry) (x : SeatView) : Type 0 where
  pub met : length x.met ≤ length H
  pub told : AreBelow (length H) x.told
  pub count : length x.mine ≡ length (entries_of x.number H)

pub record Attests (H : List Entry) (x : SeatView) : Type 0 where
  pub prefix : IsPrefixOf x.prefix H
  pub mine : entries_of x.number H ≡ x.mine

pub record Keeps (x y : SeatView) : Type 0 where
  pub number : y.number ≡ x.number
  pub mine : y.mine ≡ x.mine
  pub told : y.told ≡ x.told
  pub prefix : y.prefix ≡ x.prefix
  pub met : IsPrefixOf x.met y.met

pub record HasMet (H : List Entry) (x y : SeatView) : Type 0 where
  pub number : y.number ≡ x.number
  pub mine : y.mine ≡ x.mine
  pub told : y.told ≡ x.told
  pub prefix : y.prefix ≡ x.prefix
  pub met : IsLongerPrefix x.met H y.met
  pub space : y.space ≡ x.space
  pub hears : y.hears ≡ x.hears
