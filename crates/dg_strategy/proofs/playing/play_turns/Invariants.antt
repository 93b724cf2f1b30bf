use Rattle.dg_strategy.specs.Choices.{Chooses}
use Rattle.dg_strategy.proofs.Common.{◌≡◌, ℕ, List, length, FoldsTo, Entry, IsTurnBy, AreNumberedMoves}
use Rattle.dg_strategy.proofs.playing.play_turns.Given as goal

abbrev pub invariant-loop : goal.invariant-loop
invariant-loop g l =
    (es : List (ℕ × Entry)) ×
    FoldsTo (IsTurnBy (Chooses (λ p q m. g.F.Fn.post l.choice (p, (q, tt)) m)) g.N.Name.table) l.fn.seat
    es l.seat
    × AreNumberedMoves es × (length es ≡ l.counter)
