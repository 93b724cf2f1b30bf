-- Greedy games that are printed turn by turn.
--   IsPlayedTo o names s n text == n greedy turns from the start o, all moves, lead to the state s, and the text is that of
--                                  their history
--   none_played    before the first turn
--   turn_named     the reply of the next turn has as many amounts as there are names
--   one_played     with one more turn that is a move
--   all_settled    with one more turn that is the claim the text is the answer
--   all_used_up    and with `turns` where its turns are used up
use Rattle.dg_tasks.proofs.Common.{◌≡◌, ℕ, ◌+◌, ◌<◌, Bool, true, false, List, [], ◌∷◌, ◌++◌, length, arith, refl, sym, ap, ◌∙◌, append-nil, length-append, StartData, GameState, LeadsTo, Entry, slice_get-seam, IsGreedyTurn, IsUnderWay, begun, legal_turn, went_on, settled_game, used_up, HasNames, entry_text, legal_named, history_more, IsGreedyAnswer, turns_text}
use Rattle.dg_lines.specs.Texts.{history_text}

pub record IsPlayedTo (o : StartData) (names : List (List ℕ)) (s : GameState) (n : ℕ) (text : List ℕ) : Type 0 where
  pub history : List Entry
  pub under_way : IsUnderWay o history s
  pub count : n ≡ length history
  pub printed : text ≡ history_text names 0 history

pub none_played : (o : StartData) (names : List (List ℕ)) (s : GameState) (text : List ℕ) → LeadsTo o [] s → text ≡ [] →
    IsPlayedTo o names s 0 text
unfolding history_text
none_played o names s text leads empty = record {
  history = [];
  under_way = begun o s leads;
  count = refl;
  printed = empty;
}

-- what a turn from the state s does, whatever its history
abbrev pub IsTurnFrom : GameState → Entry → Bool → Type 0
IsTurnFrom s e settled = (o : StartData) (H : List Entry) → LeadsTo o H s → IsGreedyTurn o H e settled

abbrev pub LeadsOn : GameState → Entry → GameState → Type 0
LeadsOn s e t = (o : StartData) (H : List Entry) → LeadsTo o H s → LeadsTo o (H ++ e ∷ []) t

module _ (o : StartData) (names : List (List ℕ)) (s : GameState) (n : ℕ) (text : List ℕ) (e : Entry) (settled : Bool)
    (turn : IsTurnFrom s e settled) (known : IsPlayedTo o names s n text) where
  made : IsGreedyTurn o known.history e settled
  made = turn o known.history known.under_way.leads

  pub turn_named : length names ≡ o.graph.size → HasNames names e.reply
  turn_named fit =
      legal_named names o (known.history ++ e ∷ []) fit
      (legal_turn o known.history e settled known.under_way.legal made) (length known.history) e
      (slice_get-seam known.history e [])

  line_more : (longer : List ℕ) → longer ≡ text ++ entry_text names n e.reply →
      longer ≡ history_text names 0 (known.history ++ e ∷ [])
  line_more longer written =
      let place : n ≡ 0 + length known.history = omega (arith, known.count) in
      written ∙ ap (λ (start : List ℕ). start ++ entry_text names n e.reply) known.printed
      ∙ ap (λ (k : ℕ). history_text names 0 known.history ++ entry_text names k e.reply) place
      ∙ sym (history_more names 0 known.history e)

  pub one_played : (t : GameState) (longer : List ℕ) → settled ≡ false → LeadsOn s e t →
      longer ≡ text ++ entry_text names n e.reply → IsPlayedTo o names t (n + 1) longer
  one_played t longer move leads written = record {
    history = known.history ++ e ∷ [];
    under_way = went_on o known.history e s t settled move made
        (leads o known.history known.under_way.leads) known.under_way;
    count = omega (arith, known.count, length-append known.history (e ∷ []));
    printed = line_more longer written;
  }

  pub all_settled : (turns : ℕ) (longer : List ℕ) → settled ≡ true → n < turns →
      longer ≡ text ++ entry_text names n e.reply → IsGreedyAnswer o turns names longer
  all_settled turns longer claim few written = record {
    history = known.history ++ e ∷ [];
    settled = true;
    game = settled_game o turns known.history e s settled claim made (omega (arith, known.count, few))
        known.under_way;
    printed = line_more longer written ∙ sym (append-nil (history_text names 0 (known.history ++ e ∷ [])));
  }

pub all_used_up : (o : StartData) (names : List (List ℕ)) (s : GameState) (n : ℕ) (text longer : List ℕ) →
    longer ≡ text ++ turns_text false → IsPlayedTo o names s n text → IsGreedyAnswer o n names longer
all_used_up o names s n text longer written known = record {
  history = known.history;
  settled = false;
  game = used_up o n known.history s (sym known.count) known.under_way;
  printed = written ∙ ap (λ (start : List ℕ). start ++ turns_text false) known.printed;
}
