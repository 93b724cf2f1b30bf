-- Opening a table.
--   IsSeatCount n          == a table may have n seats
--   AreFresh n xs          == xs are the seats 1 to n, in order, which know of no entry
--   RefusesOpening n fault == a table with n seats is refused with the fault
use Rattle.std.specs.Prelude.{◌≡◌, ℕ, ◌+◌, ◌≤◌, List, [], length, slice_get, Some}
use Rattle.dg_table.specs.Common.{MAX_SEATS}
use Rattle.dg_table.specs.Seats.{SeatView}
use Rattle.dg_table.specs.declared.fault.TableFault.{TableFault}
use Rattle.dg_table.specs.declared.fault.TableFault.TheVariants.{Seats, OutOfMemory}

abbrev pub IsSeatCount : ℕ → Type 0
IsSeatCount n = (1 ≤ n) × (n ≤ MAX_SEATS)

pub record AreFresh (n : ℕ) (xs : List SeatView) : Type 0 where
  pub seats : IsSeatCount n
  pub count : length xs ≡ n
  pub number : (i : ℕ) (x : SeatView) → slice_get xs i ≡ Some x → x.number ≡ i + 1
  pub mine : (i : ℕ) (x : SeatView) → slice_get xs i ≡ Some x → x.mine ≡ []
  pub told : (i : ℕ) (x : SeatView) → slice_get xs i ≡ Some x → x.told ≡ []
  pub prefix : (i : ℕ) (x : SeatView) → slice_get xs i ≡ Some x → x.prefix ≡ []
  pub met : (i : ℕ) (x : SeatView) → slice_get xs i ≡ Some x → x.met ≡ []

abbrev pub RefusesOpening : ℕ → TableFault → Type 0
RefusesOpening n Seats = ¬ IsSeatCount n
RefusesOpening n OutOfMemory = IsSeatCount n
