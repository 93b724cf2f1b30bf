-- Histories. An entry is a seat, a request and a reply; a history is a list of entries, and an
-- entry's number is its place in it, from 0. What changes a position, but for moves, is a change:
-- an accepted gift, levy or join.
--   accepted_script request reply == the script of an accepted move, and 0 for everything else
--   scripts_played H              == the sum of the scripts of all accepted moves
--   is_change reply               == the reply accepts a gift, a levy or a join
--   after_change p request reply  == the position after the change, where it stood at p before: with the
--                                    dollars of the gift, or on the graph with the edge
--   change_count reply            == 1 for a change, and 0 for any other reply
--   gifts_in H                    == how many changes there are: gifts, levies and joins
--   with_entry H s q r            == the history H and one more entry, of the seat s with the request q and
--                                    the reply r
-- Of entries that stand the latest first:
--   scripts_since R               == the sum of the scripts of all moves accepted since the last change
--   position_after_change o R     == the position right after the last change, and that of the start o if
--                                    there is none
-- So:
--   position_after o H            == the position after the history H from the start o: that after the last
--                                    change, fired on the graph there by the sum of the scripts of all moves
--                                    accepted since
use Rattle.std.specs.Prelude.{if◌then◌else◌, ℕ, ◌+◌, Bool, true, false, pos, ◌+ℤ◌, List, [], ◌∷◌, ◌++◌, reverse}
use Rattle.dg_rules.specs.Common.{Amounts, move_script, StartData}
use Rattle.dg_rules.specs.Position.{Position, start_position, with_gift, with_join, fired_position}
use Rattle.dg_rules.specs.declared.entry.Entry.{Entry}
use Rattle.dg_rules.specs.declared.entry.Request.{Request}
use Rattle.dg_rules.specs.declared.entry.Request.TheVariants.{Move, Gift, Join}
use Rattle.dg_rules.specs.declared.entry.Reply.{Reply}
use Rattle.dg_rules.specs.declared.entry.Reply.TheVariants.{Moved, Given, Joined, Looked, Verdict, Rank, Stale, Won, NotWon, Refused}

abbrev pub accepted_script : Request → Reply → Amounts
accepted_script (Move m) (Moved d) = move_script m
accepted_script request reply = λ v. pos 0

abbrev pub scripts_played : List Entry → Amounts
scripts_played [] v = pos 0
scripts_played (e ∷ H) v = accepted_script e.request e.reply v +ℤ scripts_played H v

abbrev pub is_change : Reply → Bool
is_change (Given g d) = true
is_change (Joined g d) = true
is_change (Moved d) = false
is_change (Looked g d graph) = false
is_change (Verdict x) = false
is_change (Rank x) = false
is_change (Stale g) = false
is_change Won = false
is_change NotWon = false
is_change (Refused refusal) = false

abbrev pub after_change : Position → Request → Reply → Position
after_change p (Gift v x) (Given g d) = record { graph = p.graph; amounts = with_gift p v x }
after_change p (Join u v) (Joined g d) = with_join p u v
after_change p request reply = p

abbrev pub change_count : Reply → ℕ
change_count reply = if is_change reply then 1 else 0

abbrev pub gifts_in : List Entry → ℕ
gifts_in [] = 0
gifts_in (e ∷ H) = change_count e.reply + gifts_in H

abbrev pub with_entry : List Entry → ℕ → Request → Reply → List Entry
with_entry H seat request reply =
    H ++ (record { seat = seat; request = request; reply = reply }) ∷ []

abbrev pub scripts_since : List Entry → Amounts
scripts_since [] v = pos 0
scripts_since (e ∷ R) v =
    if is_change e.reply then pos 0 else (scripts_since R v +ℤ accepted_script e.request e.reply v)

abbrev pub position_after_change : StartData → List Entry → Position
position_after_change o [] = start_position o
position_after_change o (e ∷ R) =
    if is_change e.reply then after_change
    (fired_position (position_after_change o R) (scripts_since R)) e.request e.reply else position_after_change o R

unfoldable pub position_after : StartData → List Entry → Position
position_after o H = fired_position (position_after_change o (reverse H)) (scripts_since (reverse H))
