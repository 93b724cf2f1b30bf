use Rattle.dg_rank.proofs.Common.{ℕ, List, Option, Result, Ok, Err, Amounts, AreEquivalent, MatchOption, ⊤, at, BoxWins, IsBoxLoss, TrialsWinFrom, IsLossFrom}
use Rattle.std.specs.Prelude.{MatchResult}
use Rattle.dg_rank.specs.declared.boxes.Stopped.{Stopped}
use Rattle.dg_rank.proofs.AnyLoss.{no_twins, told_from}
use Rattle.dg_rank.proofs.LossBoxes.{box_told, class_small}
use Rattle.dg_rank.proofs.losses.find_loss_soon.Goals as goal
use Rattle.dg_rank.proofs.losses.find_loss_soon.Goals.{After-room_from-room}

told : (c : After-room_from-room) (found : Option (List ℕ)) →
    MatchOption found (BoxWins c.args.graph.now (at c.args.left.now) c.room_from-room.result c.args.dollars)
    (IsBoxLoss c.args.graph.now (at c.args.left.now) c.room_from-room.result c.args.dollars) →
    MatchOption found (TrialsWinFrom c.args.graph.now (at c.args.left.now) c.args.dollars c.args.place)
    (IsLossFrom c.args.graph.now (at c.args.left.now) c.args.dollars c.args.place)
told c found =
    told_from found c.args.graph.now (at c.args.left.now) c.args.place c.room_from-room.result c.args.dollars c.requires.place
    c.room_from-room.ensures.before (rw c.size.ensures.size at c.room_from-room.ensures.past)

told_after : (c : After-room_from-room) (B : Amounts) (told : Result (Option (List ℕ)) Stopped) →
    AreEquivalent c.args.graph.now (at c.args.left.now) B →
    MatchResult told (λ found. MatchOption found (BoxWins c.args.graph.now B c.room_from-room.result c.args.dollars)
    (IsBoxLoss c.args.graph.now B c.room_from-room.result c.args.dollars)) (λ _. ⊤) →
    MatchResult told (λ found. MatchOption found (TrialsWinFrom c.args.graph.now (at c.args.left.now) c.args.dollars c.args.place)
    (IsLossFrom c.args.graph.now (at c.args.left.now) c.args.dollars c.args.place)) (λ _. ⊤)
told_after c B (Ok found) same is =
    told c found (box_told found c.args.graph.now (at c.args.left.now) B c.room_from-room.result c.args.dollars same is)
told_after c B (Err stopped) same is = is

pub find_box_loss-requires-clause-twins : goal.find_box_loss-requires-clause-twins
find_box_loss-requires-clause-twins c = no_twins c.args.graph.now c.size.ensures.graph.few

pub returns-in-Ok-clause-told : goal.returns-in-Ok-clause-told
returns-in-Ok-clause-told c =
    told (goal.at.returns-in-Ok-clause-told c).After-room_from-room c.in-Ok.found c.in-Ok.ensures.told

pub find_folded_loss-requires-clause-small : goal.find_folded_loss-requires-clause-small
find_folded_loss-requires-clause-small c =
    class_small c.args.graph.now (at c.args.left.now) c.find_box_loss.new.left c.size.ensures.graph.multigraph c.requires.small
    c.find_box_loss.ensures.class

pub returns-then-dollars-lt-MAX_PLACES-clause-told : goal.returns-then-dollars-lt-MAX_PLACES-clause-told
returns-then-dollars-lt-MAX_PLACES-clause-told c =
    told_after (goal.at.returns-then-dollars-lt-MAX_PLACES-clause-told c).After-room_from-room (at c.find_box_loss.new.left)
    c.find_folded_loss.result c.find_box_loss.ensures.class.led c.find_folded_loss.ensures
