-- What is printed of a table that was closed.
--   numbered_entry_text names number e   == the line of an entry: its number, its seat and the text of its
--                                           reply
--   numbered_entries_text names n H      == such lines of the entries H, numbered from n on
--   seat_text s count                    == the line of a seat: its number and how many entries are its
--   seats_text s n H                     == for each of n seats, from s on, how many entries of H are its
--   calls_text s calls                   == for each of the numbers of calls, those of the seats from s on,
--                                           its line
--   totals_text names e g position calls == such totals: e entries, g gifts, the amounts, and the calls of
--                                           each seat
--   audit_text names n H position        == how many entries there are, how many gifts were accepted, the
--                                           amounts, and the calls of each of n seats
use Rattle.std.specs.Prelude.{ℕ, zero, suc, ◌+◌, List, [], ◌∷◌, ◌++◌, length, codes, decimal}
use Rattle.dg_session.specs.Common.{Vector, at, gifts_in, Entry, entries_of, text_of, pairs}

abbrev pub numbered_entry_text : List (List ℕ) → ℕ → Entry → List ℕ
numbered_entry_text names number e =
    decimal number ++ codes " " ++ decimal e.seat ++ codes " " ++ text_of names e.reply
    ++ codes "\n"

unfoldable pub numbered_entries_text : List (List ℕ) → ℕ → List Entry → List ℕ
numbered_entries_text names n [] = []
numbered_entries_text names n (e ∷ H) = numbered_entry_text names n e ++ numbered_entries_text names (n + 1) H

abbrev pub seat_text : ℕ → ℕ → List ℕ
seat_text s count = codes "seat " ++ decimal s ++ codes " calls " ++ decimal count ++ codes "\n"

unfoldable pub seats_text : ℕ → ℕ → List Entry → List ℕ
seats_text s zero H = []
seats_text s (suc n) H = seat_text s (length (entries_of s H)) ++ seats_text (s + 1) n H

unfoldable pub calls_text : ℕ → List ℕ → List ℕ
calls_text s [] = []
calls_text s (count ∷ calls) = seat_text s count ++ calls_text (s + 1) calls

abbrev pub totals_text : List (List ℕ) → ℕ → ℕ → Vector → List ℕ → List ℕ
totals_text names entries gifts position calls =
    codes "entries " ++ decimal entries ++ codes "\ngifts " ++ decimal gifts ++ codes "\nposition "
    ++ pairs names (at position) ++ codes "\n" ++ calls_text 1 calls

abbrev pub audit_text : List (List ℕ) → ℕ → List Entry → Vector → List ℕ
audit_text names n H position =
    codes "entries " ++ decimal (length H) ++ codes "\ngifts " ++ decimal (gifts_in H)
    ++ codes "\nposition "
    ++ pairs names (at position) ++ codes "\n" ++ seats_text 1 n H
