-- A whole number for each vertex, as divisors and scripts hold it, and when numbers are past a limit.
--   Vector                    == a size, and a list of whole numbers
--   at x v                    == the number at v, and 0 past the list
--   IsVector limit x          == a list of 16 numbers, each within the limit, and 0 past the size; so two vectors of
--                                one size are one if they have the same numbers
--   IsDivisorVector x         == the numbers are within the limit of an amount
--   IsScriptVector x          == they are within the limit of an entry of a script
--   IsDrift x                 == they are within the limit of a sum of scripts
--   IsWide x                  == a list of 16 numbers of any size, and 0 past the size of the vector
--   HoldsNumbers xs x         == the vector holds just the numbers of the list xs
--   IsInRange n D             == all n amounts are within the limit of a divisor
--   IsOutOfRange n D          == some of the n amounts is past the limit of a divisor
--   IsFirstBeyond limit n D v == v is the first of n vertices at which D is past the limit
--   IsFirstPast limit xs v    == v is the first place of the list xs with a number past the limit
--   IsPastDrift n s t         == the difference of s and t is past the limit of a drift at one of n vertices
--   GainsFitI32 g s           == the edges of any vertex, each with as many dollars as any vertex lends or borrows,
--                                carry less than 2^30
use Rattle.std.specs.Prelude.{◌≡◌, ℕ, ◌<◌, ◌≤◌, ℤ, pos, List, length, ◌-ℤ◌, ◌*◌, ◌^◌}
use Rattle.std.specs.Int.RustNames.{unsigned_abs}
use Rattle.std.specs.List.{slice_index_or}
use Rattle.dg_graph.specs.declared.graph.TheConstants.{MAX_VERTICES}
use Rattle.dg_theory.specs.Firing.{Amounts}
use Rattle.dg_chips.specs.declared.divisor.TheConstants.{MAX_AMOUNT}
use Rattle.dg_chips.specs.declared.script.TheConstants.{MAX_ENTRY}
use Rattle.dg_chips.specs.declared.drift.TheConstants.{MAX_DRIFT}
use Rattle.dg_theory.specs.Multigraph.{Multigraph, valence}

pub record Vector : Type 0 where
  pub size : ℕ
  pub numbers : List ℤ

abbrev pub at : Vector → Amounts
at x v = slice_index_or x.numbers v (pos 0)

pub record IsVector (limit : ℕ) (x : Vector) : Type 0 where
  pub few : x.size ≤ MAX_VERTICES
  pub places : length x.numbers ≡ MAX_VERTICES
  pub within : (v : ℕ) → v < x.size → unsigned_abs (at x v) ≤ limit
  pub inside : (v : ℕ) → x.size ≤ v → at x v ≡ pos 0

abbrev pub IsDivisorVector : Vector → Type 0
IsDivisorVector x = IsVector MAX_AMOUNT x

abbrev pub IsScriptVector : Vector → Type 0
IsScriptVector x = IsVector MAX_ENTRY x

abbrev pub IsDrift : Vector → Type 0
IsDrift x = IsVector MAX_DRIFT x

pub record IsWide (x : Vector) : Type 0 where
  pub few : x.size ≤ MAX_VERTICES
  pub places : length x.numbers ≡ MAX_VERTICES
  pub inside : (v : ℕ) → x.size ≤ v → at x v ≡ pos 0

pub record HoldsNumbers (xs : List ℤ) (x : Vector) : Type 0 where
  pub size : x.size ≡ length xs
  pub numbers : (v : ℕ) → v < length xs → at x v ≡ slice_index_or xs v (pos 0)

abbrev pub IsInRange : ℕ → Amounts → Type 0
IsInRange n D = (v : ℕ) → v < n → unsigned_abs (D v) ≤ MAX_AMOUNT

abbrev pub IsOutOfRange : ℕ → Amounts → Type 0
IsOutOfRange n D = (v : ℕ) × (v < n) × (MAX_AMOUNT < unsigned_abs (D v))

pub record IsFirstBeyond (limit n : ℕ) (D : Amounts) (v : ℕ) : Type 0 where
  pub place : v < n
  pub past : limit < unsigned_abs (D v)
  pub least : (u : ℕ) → u < v → unsigned_abs (D u) ≤ limit

abbrev pub IsFirstPast : ℕ → List ℤ → ℕ → Type 0
IsFirstPast limit xs v = IsFirstBeyond limit (length xs) (λ u. slice_index_or xs u (pos 0)) v

abbrev pub IsPastDrift : ℕ → Amounts → Amounts → Type 0
IsPastDrift n s t = (v : ℕ) × (v < n) × (MAX_DRIFT < unsigned_abs (s v -ℤ t v))

pub record GainsFitI32 (g : Multigraph) (s : Amounts) : Type 0 where
  pub most : ℕ
  pub within : (w : ℕ) → unsigned_abs (s w) ≤ most
  pub room : (v : ℕ) → valence g v * most < 2 ^ 30
