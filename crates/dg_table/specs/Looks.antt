-- Looks of a seat, and what is kept of them.
--   asks_for_look request == whether the request is for a look
--   is_look p             == whether the entry p, with its number, asks for a look
--   last_look ps          == the last of the entries ps that is a look, if there is one
--   IsLookOf p x          == the entry p is a look, and x holds its number, and the gift count, the
--                            amounts and the graph that it showed; any drift
--   IsSizedLook n x       == the graph of the look x has n vertices, and x holds an amount for each
--   IsLastLook ps look    == what is kept is that of the last look among the entries ps; nothing if
--                            there is none
--   KeepsLastLook         == after a look there is a last look, and it is that look
use Rattle.std.specs.Prelude.{◌≡◌, ℕ, List, [], ◌∷◌, ◌++◌, Option, Some, None, Bool, true, false, MatchOption}
use Rattle.std.specs.List.{filter, last_or}
use Rattle.dg_table.specs.Common.{Entry, Request, Look, Looked, LookData}

abbrev pub asks_for_look : Request → Bool
asks_for_look Look = true
asks_for_look request = false

abbrev pub is_look : ℕ × Entry → Bool
is_look p = asks_for_look p.1.request

abbrev pub last_look : List (ℕ × Entry) → Option (ℕ × Entry)
last_look ps = last_or None (filter is_look ps)

pub record IsLookOf (p : ℕ × Entry) (x : LookData) : Type 0 where
  pub look : p.1.request ≡ Look
  pub shown : p.1.reply ≡ Looked x.gifts x.position x.graph
  pub number : x.number ≡ p.0

abbrev pub IsSizedLook : ℕ → LookData → Type 0
IsSizedLook n x = (x.graph.size ≡ n) × (x.position.size ≡ n)

abbrev pub IsLastLook : List (ℕ × Entry) → Option LookData → Type 0
IsLastLook ps look = MatchOption look
    (last_look ps ≡ None)
    (λ x. (p : ℕ × Entry) × (last_look ps ≡ Some p) × IsLookOf p x)

abbrev pub KeepsLastLook : Type 0
KeepsLastLook = (ps : List (ℕ × Entry)) (p : ℕ × Entry) → p.1.request ≡ Look →
    last_look (ps ++ p ∷ []) ≡ Some p
