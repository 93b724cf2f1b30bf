-- At one position a call has one reply.
--   no_vertex_playable, empty_playable, script_playable   a move that may be played has none of these faults
--   move_once, gift_once, join_once, look_once, claim_once   so it is of each call
use Rattle.dg_rules.proofs.Common.{◌≡◌, ℕ, ◌<◌, ◌≤◌, ◌⊎◌, inl, inr, arith, refl, sym, ap, ◌∙◌, false≢true, ℤ, moved_once, not_past, in_set-none, in_set, Vector, NamesNoVertex, FiresEmptySet, HasOtherSize, IsApplicableMove, IsAfterMove, IsAcceptedGift, RefusesGift, RepliesToGift, IsAcceptedJoin, RefusesJoin, RepliesToJoin, RefusesMove, RepliesToMove, Position, RepliesToLook, RepliesToClaim, Refusal, Reply, Moved, Given, Joined, Looked, Won, NotWon, Refused}
use Rattle.dg_chips.specs.declared.moves.Move.{Move}
use Rattle.dg_chips.specs.declared.moves.Move.TheVariants.{Lend, Borrow, Fire, Script}
use Rattle.dg_rules.specs.declared.entry.Refusal.TheVariants as refusal
use Rattle.dg_rules.proofs.StateLaws.{shown_once, given_once}

module _ (p : Position) where
  no_vertex_empty : (m : Move) → NamesNoVertex p.graph.size m → FiresEmptySet m → ⊥
  no_vertex_empty (Fire s) (v, past, inside) none =
      false≢true (sym (in_set-none v) ∙ ap (λ (t : ℕ). in_set t v) (sym none) ∙ inside)
  no_vertex_empty m none empty = absurd empty

  no_vertex_script : (m : Move) → NamesNoVertex p.graph.size m → HasOtherSize p.graph.size m → ⊥
  no_vertex_script (Script s) none other = absurd none
  no_vertex_script m none other = absurd other

  pub no_vertex_playable : (m : Move) → NamesNoVertex p.graph.size m → IsApplicableMove p.graph.size m → ⊥
  no_vertex_playable (Lend v) none playable = omega (arith, none, playable)
  no_vertex_playable (Borrow v) none playable = omega (arith, none, playable)
  no_vertex_playable (Fire s) (v, past, inside) playable = omega (arith, past, playable.1 v inside)
  no_vertex_playable (Script s) none playable = absurd none

  empty_script : (m : Move) → FiresEmptySet m → HasOtherSize p.graph.size m → ⊥
  empty_script (Script s) empty other = absurd empty
  empty_script m empty other = absurd other

  pub empty_playable : (m : Move) → FiresEmptySet m → IsApplicableMove p.graph.size m → ⊥
  empty_playable (Fire s) empty playable = playable.0 empty
  empty_playable m empty playable = absurd empty

  pub script_playable : (m : Move) → HasOtherSize p.graph.size m → IsApplicableMove p.graph.size m → ⊥
  script_playable (Script s) other playable = other playable
  script_playable m other playable = absurd other

  move_refused_once : (m : Move) (x y : Refusal) → RefusesMove p m x → RefusesMove p m y → x ≡ y
  move_refused_once m refusal.NoVertex refusal.NoVertex first second = refl
  move_refused_once m refusal.NoVertex refusal.Empty first second = absurd (no_vertex_empty m first second)
  move_refused_once m refusal.NoVertex refusal.Script first second = absurd (no_vertex_script m first second)
  move_refused_once m refusal.NoVertex refusal.Range first second = absurd (no_vertex_playable m first second.0)
  move_refused_once m refusal.Empty refusal.NoVertex first second = absurd (no_vertex_empty m second first)
  move_refused_once m refusal.Empty refusal.Empty first second = refl
  move_refused_once m refusal.Empty refusal.Script first second = absurd (empty_script m first second)
  move_refused_once m refusal.Empty refusal.Range first second = absurd (empty_playable m first second.0)
  move_refused_once m refusal.Script refusal.NoVertex first second = absurd (no_vertex_script m second first)
  move_refused_once m refusal.Script refusal.Empty first second = absurd (empty_script m second first)
  move_refused_once m refusal.Script refusal.Script first second = refl
  move_refused_once m refusal.Script refusal.Range first second = absurd (script_playable m first second.0)
  move_refused_once m refusal.Range refusal.NoVertex first second = absurd (no_vertex_playable m second first.0)
  move_refused_once m refusal.Range refusal.Empty first second = absurd (empty_playable m second first.0)
  move_refused_once m refusal.Range refusal.Script first second = absurd (script_playable m second first.0)
  move_refused_once m refusal.Range refusal.Range first second = refl
  move_refused_once m refusal.NoVertex y first second = absurd second
  move_refused_once m refusal.Empty y first second = absurd second
  move_refused_once m refusal.Script y first second = absurd second
  move_refused_once m refusal.Range y first second = absurd second
  move_refused_once m x y first second = absurd first

  -- a move that is made is not refused
  made_refused : (m : Move) (d : Vector) (x : Refusal) → IsAfterMove p.graph p.amounts m d → RefusesMove p m x → ⊥
  made_refused m d refusal.NoVertex made right = no_vertex_playable m right made.playable
  made_refused m d refusal.Empty made right = empty_playable m right made.playable
  made_refused m d refusal.Script made right = script_playable m right made.playable
  made_refused m d refusal.Range made (playable, past) =
      not_past p.graph.size _ d made.divisor made.size made.amounts past
  made_refused m d x made right = absurd right

  pub move_once : (m : Move) (a b : Reply) → RepliesToMove p m a → RepliesToMove p m b → a ≡ b
  move_once m (Moved d) (Moved e) first second = ap Moved (moved_once p.graph p.amounts m d e first second)
  move_once m (Moved d) (Refused y) first second = absurd (made_refused m d y first second)
  move_once m (Refused x) (Moved e) first second = absurd (made_refused m e x second first)
  move_once m (Refused x) (Refused y) first second = ap Refused (move_refused_once m x y first second)
  move_once m (Moved d) b first second = absurd second
  move_once m (Refused x) b first second = absurd second
  move_once m a b first second = absurd first

  given_refused : (g v : ℕ) (x : ℤ) (n : ℕ) (d : Vector) (y : Refusal) → IsAcceptedGift p g v x n d → RefusesGift p v x y → ⊥
  given_refused g v x n d refusal.NoVertex given right = omega (arith, given.vertex, right)
  given_refused g v x n d refusal.Gift given right = right.1 given.gift
  given_refused g v x n d refusal.Range given (vertex, gift, past) =
      not_past p.graph.size _ d given.divisor given.size given.amounts past
  given_refused g v x n d y given right = absurd right

  gift_refused_once : (v : ℕ) (x : ℤ) (y z : Refusal) → RefusesGift p v x y → RefusesGift p v x z → y ≡ z
  gift_refused_once v x refusal.NoVertex refusal.NoVertex first second = refl
  gift_refused_once v x refusal.NoVertex refusal.Gift first second = absurd (omega (arith, first, second.0))
  gift_refused_once v x refusal.NoVertex refusal.Range first second = absurd (omega (arith, first, second.0))
  gift_refused_once v x refusal.Gift refusal.NoVertex first second = absurd (omega (arith, first.0, second))
  gift_refused_once v x refusal.Gift refusal.Gift first second = refl
  gift_refused_once v x refusal.Gift refusal.Range first second = absurd (first.1 second.1)
  gift_refused_once v x refusal.Range refusal.NoVertex first second = absurd (omega (arith, first.0, second))
  gift_refused_once v x refusal.Range refusal.Gift first second = absurd (second.1 first.1)
  gift_refused_once v x refusal.Range refusal.Range first second = refl
  gift_refused_once v x refusal.NoVertex z first second = absurd second
  gift_refused_once v x refusal.Gift z first second = absurd second
  gift_refused_once v x refusal.Range z first second = absurd second
  gift_refused_once v x y z first second = absurd first

  pub gift_once : (g v : ℕ) (x : ℤ) (a b : Reply) → RepliesToGift p g v x a → RepliesToGift p g v x b → a ≡ b
  gift_once g v x (Given n d) (Given l e) first second =
      λ i. Given ((first.count' ∙ sym second.count') i) (given_once p g v x n l d e first second i)
  gift_once g v x (Given n d) (Refused z) first second = absurd (given_refused g v x n d z first second)
  gift_once g v x (Refused y) (Given l e) first second = absurd (given_refused g v x l e y second first)
  gift_once g v x (Refused y) (Refused z) first second = ap Refused (gift_refused_once v x y z first second)
  gift_once g v x (Given n d) b first second = absurd second
  gift_once g v x (Refused y) b first second = absurd second
  gift_once g v x a b first second = absurd first

  -- two vertices are none of the graph where one of them is
  outside : (u v : ℕ) → (p.graph.size ≤ u) ⊎ (p.graph.size ≤ v) → u < p.graph.size → v < p.graph.size → ⊥
  outside u v (inl past) first second = omega (arith, past, first)
  outside u v (inr past) first second = omega (arith, past, second)

  full : (u v : ℕ) (x y l : ℕ) → (l ≤ x) ⊎ (l ≤ y) → x < l → y < l → ⊥
  full u v x y l (inl past) first second = omega (arith, past, first)
  full u v x y l (inr past) first second = omega (arith, past, second)

  joined_refused : (g u v n : ℕ) (d : Vector) (y : Refusal) → IsAcceptedJoin p g u v n d → RefusesJoin p u v y → ⊥
  joined_refused g u v n d refusal.NoVertex joined right =
      outside u v right joined.joinable.first joined.joinable.second
  joined_refused g u v n d refusal.Loop joined right = joined.joinable.different right.1
  joined_refused g u v n d refusal.Valence joined right =
      full u v _ _ _ right.3 joined.joinable.first_room joined.joinable.second_room
  joined_refused g u v n d y joined right = absurd right

  join_refused_once : (u v : ℕ) (y z : Refusal) → RefusesJoin p u v y → RefusesJoin p u v z → y ≡ z
  join_refused_once u v refusal.NoVertex refusal.NoVertex first second = refl
  join_refused_once u v refusal.NoVertex refusal.Loop first second =
      absurd (outside u v first second.0 (omega (arith, second.0, second.1)))
  join_refused_once u v refusal.NoVertex refusal.Valence first second = absurd (outside u v first second.0 second.1)
  join_refused_once u v refusal.Loop refusal.NoVertex first second =
      absurd (outside u v second first.0 (omega (arith, first.0, first.1)))
  join_refused_once u v refusal.Loop refusal.Loop first second = refl
  join_refused_once u v refusal.Loop refusal.Valence first second = absurd (second.2 first.1)
  join_refused_once u v refusal.Valence refusal.NoVertex first second = absurd (outside u v second first.0 first.1)
  join_refused_once u v refusal.Valence refusal.Loop first second = absurd (first.2 second.1)
  join_refused_once u v refusal.Valence refusal.Valence first second = refl
  join_refused_once u v refusal.NoVertex z first second = absurd second
  join_refused_once u v refusal.Loop z first second = absurd second
  join_refused_once u v refusal.Valence z first second = absurd second
  join_refused_once u v y z first second = absurd first

  pub join_once : (g u v : ℕ) (a b : Reply) → RepliesToJoin p g u v a → RepliesToJoin p g u v b → a ≡ b
  join_once g u v (Joined n d) (Joined l e) first second =
      λ i. Joined ((first.count' ∙ sym second.count') i) (shown_once p d e first.amounts second.amounts i)
  join_once g u v (Joined n d) (Refused z) first second = absurd (joined_refused g u v n d z first second)
  join_once g u v (Refused y) (Joined l e) first second = absurd (joined_refused g u v l e y second first)
  join_once g u v (Refused y) (Refused z) first second = ap Refused (join_refused_once u v y z first second)
  join_once g u v (Joined n d) b first second = absurd second
  join_once g u v (Refused y) b first second = absurd second
  join_once g u v a b first second = absurd first

  pub look_once : (g : ℕ) (a b : Reply) → RepliesToLook p g a → RepliesToLook p g b → a ≡ b
  look_once g (Looked n d h) (Looked l e k) first second =
      λ i. Looked ((first.0 ∙ sym second.0) i) (shown_once p d e first.1 second.1 i) ((first.2 ∙ sym second.2) i)
  look_once g (Looked n d h) b first second = absurd second
  look_once g a b first second = absurd first

  pub claim_once : (a b : Reply) → RepliesToClaim p a → RepliesToClaim p b → a ≡ b
  claim_once Won Won first second = refl
  claim_once Won NotWon first second = absurd (second first)
  claim_once NotWon Won first second = absurd (first second)
  claim_once NotWon NotWon first second = refl
  claim_once Won b first second = absurd second
  claim_once NotWon b first second = absurd second
  claim_once a b first second = absurd first
