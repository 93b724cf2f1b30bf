-- A history is printed in one way, by its start and its requests: what its entries hold besides, such
-- as the burning order of a verdict, shows in no text.
--   requests_of H         == the requests of the history H, in order
--   HistoryTextIsUnique   == legal histories from one start that ask for the same have the same text
--   RehearsalsHaveOneText == so have all histories that are rehearsals of the same steps
--   GreedyHasOneText      == and what is printed of a greedy game of so many turns is the same for all of
--                            them from one start
use Rattle.std.specs.Prelude.{◌≡◌, ℕ, List, length, map}
use Rattle.dg_tasks.specs.Common.{StartData, IsStart, IsLegal, Entry, Request, Step, history_text, IsRehearsal}
use Rattle.dg_tasks.specs.Games.{IsGreedyAnswer}

abbrev pub requests_of : List Entry → List Request
requests_of H = map (λ e. e.request) H

abbrev pub HistoryTextIsUnique : Type 0
HistoryTextIsUnique = (o : StartData) (names : List (List ℕ)) (H K : List Entry) → IsStart o →
    length names ≡ o.graph.size → IsLegal o H → IsLegal o K → requests_of H ≡ requests_of K →
    history_text names 0 H ≡ history_text names 0 K

abbrev pub RehearsalsHaveOneText : Type 0
RehearsalsHaveOneText = (o : StartData) (names : List (List ℕ)) (steps : List Step)
    (H K : List Entry) → IsStart o → length names ≡ o.graph.size → IsRehearsal o steps H →
    IsRehearsal o steps K → history_text names 0 H ≡ history_text names 0 K

abbrev pub GreedyHasOneText : Type 0
GreedyHasOneText = (o : StartData) (names : List (List ℕ)) (n : ℕ) (text other : List ℕ) →
    IsStart o → length names ≡ o.graph.size → IsGreedyAnswer o n names text →
    IsGreedyAnswer o n names other → text ≡ other
