-- Greedy games that are printed.
--   turns_text settled            == the line `turns` if the turns were used up, and nothing if the game is
--                                    settled
--   IsGreedyAnswer o n names text == the text is that of the history of a greedy game of at most n turns from
--                                    the start o, and of how it ended
--   RefusesGreedy fault           == memory was refused
use Rattle.std.specs.Prelude.{◌≡◌, ℕ, Bool, true, false, List, [], ◌++◌, codes, ⊤}
use Rattle.dg_tasks.specs.Common.{StartData, Entry, IsGreedyGame, history_text, OutOfMemory}
use Rattle.dg_tasks.specs.declared.fault.TaskFault.{TaskFault}
use Rattle.dg_tasks.specs.declared.fault.TaskFault.TheVariants.{Shortage}

abbrev pub turns_text : Bool → List ℕ
turns_text true = []
turns_text false = codes "turns\n"

pub record IsGreedyAnswer (o : StartData) (n : ℕ) (names : List (List ℕ))
    (text : List ℕ) : Type 0 where
  pub history : List Entry
  pub settled : Bool
  pub game : IsGreedyGame o n history settled
  pub printed : text ≡ history_text names 0 history ++ turns_text settled

abbrev pub RefusesGreedy : TaskFault → Type 0
RefusesGreedy (Shortage OutOfMemory) = ⊤
RefusesGreedy fault = ⊥
