-- What a history does to the position. Only the proofs of the first two laws open the definition of
-- the position; all else that is proved of it follows from them.
--   after_reply p request reply == the position after the request, where it stood at p and was so answered:
--                                  fired by the script of an accepted move, changed by an accepted gift or
--                                  join, or as it was
--   EmptyHistoryPosition        == the empty history leads to the position at the start
--   OneMoreEntry                == a history with one more entry leads to the position after that entry
--   PositionSinceChange         == entries among which there is no change fire the position by their scripts
--   PlayedSinceStart            == so entries among which there is no change fire the position at the start,
--   PlayedSinceChange           == and those after the last change fire the position right after it
--   VerticesStay                == a history leads to a position with as many vertices as the start
use Rattle.std.specs.Prelude.{◌≡◌, true, List, [], ◌∷◌, ◌++◌}
use Rattle.dg_rules.specs.Common.{move_script, StartData}
use Rattle.dg_rules.specs.Position.{Position, start_position, fired_position}
use Rattle.dg_rules.specs.History.{position_after, scripts_played, is_change, after_change, gifts_in}
use Rattle.dg_rules.specs.declared.entry.Entry.{Entry}
use Rattle.dg_rules.specs.declared.entry.Request.{Request}
use Rattle.dg_rules.specs.declared.entry.Request.TheVariants.{Move}
use Rattle.dg_rules.specs.declared.entry.Reply.{Reply}
use Rattle.dg_rules.specs.declared.entry.Reply.TheVariants.{Moved}

abbrev pub after_reply : Position → Request → Reply → Position
after_reply p (Move m) (Moved d) = fired_position p (move_script m)
after_reply p request reply = after_change p request reply

abbrev pub EmptyHistoryPosition : Type 0
EmptyHistoryPosition = (o : StartData) → position_after o [] ≡ start_position o

abbrev pub OneMoreEntry : Type 0
OneMoreEntry = (o : StartData) (H : List Entry) (e : Entry) →
    position_after o (H ++ e ∷ []) ≡ after_reply (position_after o H) e.request e.reply

abbrev pub PositionSinceChange : Type 0
PositionSinceChange = (o : StartData) (K L : List Entry) → gifts_in L ≡ 0 →
    position_after o (K ++ L) ≡ fired_position (position_after o K) (scripts_played L)

abbrev pub PlayedSinceStart : Type 0
PlayedSinceStart = (o : StartData) (L : List Entry) → gifts_in L ≡ 0 →
    position_after o L ≡ fired_position (start_position o) (scripts_played L)

abbrev pub PlayedSinceChange : Type 0
PlayedSinceChange = (o : StartData) (K L : List Entry) (c : Entry) → is_change c.reply ≡ true →
    gifts_in L ≡ 0 →
    position_after o (K ++ c ∷ L)
    ≡ fired_position (after_change (position_after o K) c.request c.reply) (scripts_played L)

abbrev pub VerticesStay : Type 0
VerticesStay = (o : StartData) (H : List Entry) → (position_after o H).graph.size ≡ o.graph.size
