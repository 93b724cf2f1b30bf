-- Legal histories.
--   IsSeatNumber s      == a seat's number is 1 to 64
--   HasLook H i         == entry i of H is a look
--   LooksBack H request == a request for a verdict or for a rank test names an entry of H that is a look
--   IsLegal o H         == each entry is a seat's, looks back to an earlier look if it asks for a verdict or
--                          for a rank test, and is answered rightly after the entries before it
use Rattle.std.specs.Prelude.{◌≡◌, ℕ, ◌≤◌, List, take, slice_get, Some, ⊤}
use Rattle.dg_rules.specs.Common.{StartData}
use Rattle.dg_rules.specs.Replies.{Replies}
use Rattle.dg_rules.specs.declared.entry.Entry.{Entry}
use Rattle.dg_rules.specs.declared.entry.Request.{Request}
use Rattle.dg_rules.specs.declared.entry.Request.TheVariants.{Look, Judge, Rank}
use Rattle.dg_rules.specs.declared.entry.TheConstants.{MAX_SEATS}

abbrev pub IsSeatNumber : ℕ → Type 0
IsSeatNumber s = (1 ≤ s) × (s ≤ MAX_SEATS)

abbrev pub HasLook : List Entry → ℕ → Type 0
HasLook H i = (e : Entry) × (slice_get H i ≡ Some e) × (e.request ≡ Look)

abbrev pub LooksBack : List Entry → Request → Type 0
LooksBack H (Judge i) = HasLook H i
LooksBack H (Rank i k) = HasLook H i
LooksBack H request = ⊤

abbrev pub IsLegal : StartData → List Entry → Type 0
IsLegal o H = (k : ℕ) (e : Entry) → slice_get H k ≡ Some e →
    IsSeatNumber e.seat × LooksBack (take k H) e.request × Replies o (take k H) e.request e.reply
