-- A reply that is right at one position is right at another that has the same graph and the same amounts on it.
--   out_of_range-cong    amounts that agree with some out of range are out of range
--   replies-cong         a right reply to a request is right for amounts that agree
use Rattle.dg_rules.proofs.Common.{◌≡◌, ℕ, arith, ◌∙◌, ints, ℤ, Multigraph, Amounts, DivisorsAgreeOn, Vector, IsOutOfRange, move_script, fired-here, right-cong, ShowsPosition, with_gift, RepliesToMove, RepliesToGift, RepliesToJoin, RepliesToLook, RepliesToClaim, RepliesToJudge, RepliesToRank, RepliesAt, Request, Move, Gift, Join, Look, Claim, Judge, Reply, Moved, Given, Joined, Looked, Verdict, Stale, Won, NotWon, Refused}
use Rattle.dg_chips.specs.declared.moves.Move.{Move as AMove}
use Rattle.dg_rules.specs.declared.entry.Refusal.TheVariants as refusal
use Rattle.dg_rules.specs.declared.entry.Request.TheVariants.{Rank as RankRequest}
use Rattle.dg_rules.specs.declared.entry.Reply.TheVariants.{Rank as RankReply}
use Rattle.dg_rules.proofs.RankTests.{rank_test-cong}

out_of_range-cong : (n : ℕ) (D E : Amounts) → DivisorsAgreeOn n D E → IsOutOfRange n D → IsOutOfRange n E
out_of_range-cong n D E same (v, below, past) = (v, below, rw (← same v below) past)

moved-cong : (g : Multigraph) (D E : Amounts) (m : AMove) (reply : Reply) → DivisorsAgreeOn g.size D E →
    RepliesToMove (record { graph = g; amounts = D }) m reply →
    RepliesToMove (record { graph = g; amounts = E }) m reply
moved-cong g D E m (Moved d) same right = record {
  playable = right.playable;
  size = right.size;
  divisor = right.divisor;
  amounts = λ v below. right.amounts v below ∙ fired-here g D E (move_script m) same v below;
}
moved-cong g D E m (Refused refusal.NoVertex) same right = right
moved-cong g D E m (Refused refusal.Empty) same right = right
moved-cong g D E m (Refused refusal.Script) same right = right
moved-cong g D E m (Refused refusal.Range) same right =
    (right.0, out_of_range-cong g.size _ _ (fired-here g D E (move_script m) same) right.1)
moved-cong g D E m reply same right = absurd right

given-here : (g : Multigraph) (D E : Amounts) (v : ℕ) → DivisorsAgreeOn g.size D E → (x : ℤ) →
    DivisorsAgreeOn g.size (with_gift (record { graph = g; amounts = D }) v x)
    (with_gift (record { graph = g; amounts = E }) v x)
given-here g D E v same x w below = let here : D w ≡ E w = same w below in omega (arith, ints)

given-cong : (g : Multigraph) (D E : Amounts) (n v : ℕ) (x : ℤ) (reply : Reply) → DivisorsAgreeOn g.size D E →
    RepliesToGift (record { graph = g; amounts = D }) n v x reply →
    RepliesToGift (record { graph = g; amounts = E }) n v x reply
given-cong g D E n v x (Given count d) same right = record {
  vertex = right.vertex;
  gift = right.gift;
  count' = right.count';
  size = right.size;
  divisor = right.divisor;
  amounts = λ w below. right.amounts w below ∙ given-here g D E v same x w below;
}
given-cong g D E n v x (Refused refusal.NoVertex) same right = right
given-cong g D E n v x (Refused refusal.Gift) same right = right
given-cong g D E n v x (Refused refusal.Range) same right =
    (right.0, right.1, out_of_range-cong g.size _ _ (given-here g D E v same x) right.2)
given-cong g D E n v x reply same right = absurd right

shows-cong : (g : Multigraph) (D E : Amounts) (d : Vector) → DivisorsAgreeOn g.size D E →
    ShowsPosition (record { graph = g; amounts = D }) d → ShowsPosition (record { graph = g; amounts = E }) d
shows-cong g D E d same shows = record {
  size = shows.size;
  divisor = shows.divisor;
  amounts = λ v below. shows.amounts v below ∙ same v below;
}

joined-cong : (g : Multigraph) (D E : Amounts) (n u v : ℕ) (reply : Reply) → DivisorsAgreeOn g.size D E →
    RepliesToJoin (record { graph = g; amounts = D }) n u v reply →
    RepliesToJoin (record { graph = g; amounts = E }) n u v reply
joined-cong g D E n u v (Joined count d) same right = record {
  joinable = right.joinable;
  count' = right.count';
  amounts = shows-cong g D E d same right.amounts;
}
joined-cong g D E n u v (Refused refusal.NoVertex) same right = right
joined-cong g D E n u v (Refused refusal.Loop) same right = right
joined-cong g D E n u v (Refused refusal.Valence) same right = right
joined-cong g D E n u v reply same right = absurd right

looked-cong : (g : Multigraph) (D E : Amounts) (n : ℕ) (reply : Reply) → DivisorsAgreeOn g.size D E →
    RepliesToLook (record { graph = g; amounts = D }) n reply →
    RepliesToLook (record { graph = g; amounts = E }) n reply
looked-cong g D E n (Looked count d graph) same right = (right.0, shows-cong g D E d same right.1, right.2)
looked-cong g D E n reply same right = absurd right

claimed-cong : (g : Multigraph) (D E : Amounts) (reply : Reply) → DivisorsAgreeOn g.size D E →
    RepliesToClaim (record { graph = g; amounts = D }) reply → RepliesToClaim (record { graph = g; amounts = E }) reply
claimed-cong g D E Won same right = λ v below. rw (← same v below) (right v below)
claimed-cong g D E NotWon same right = λ effective. right (λ v below. rw (same v below) (effective v below))
claimed-cong g D E reply same right = absurd right

judged-cong : (g : Multigraph) (D E : Amounts) (q h n : ℕ) (reply : Reply) → DivisorsAgreeOn g.size D E →
    RepliesToJudge (record { graph = g; amounts = D }) q h n reply →
    RepliesToJudge (record { graph = g; amounts = E }) q h n reply
judged-cong g D E q h n (Verdict x) same right = (right.0, right-cong g q D E x same right.1)
judged-cong g D E q h n (Stale count) same right = right
judged-cong g D E q h n reply same right = absurd right

ranked-cong : (g : Multigraph) (D E : Amounts) (h n k : ℕ) (reply : Reply) → DivisorsAgreeOn g.size D E →
    RepliesToRank (record { graph = g; amounts = D }) h n k reply →
    RepliesToRank (record { graph = g; amounts = E }) h n k reply
ranked-cong g D E h n k (RankReply x) same right = (right.0, rank_test-cong g D E k x same right.1)
ranked-cong g D E h n k (Stale count) same right = right
ranked-cong g D E h n k reply same right = absurd right

pub replies-cong : (g : Multigraph) (D E : Amounts) (q : ℕ) (before : ℕ → ℕ) (n : ℕ) (request : Request) (reply : Reply) →
    DivisorsAgreeOn g.size D E →
    RepliesAt (record { graph = g; amounts = D }) q before n request reply →
    RepliesAt (record { graph = g; amounts = E }) q before n request reply
replies-cong g D E q before n (Move m) reply same right = moved-cong g D E m reply same right
replies-cong g D E q before n (Gift v x) reply same right = given-cong g D E n v x reply same right
replies-cong g D E q before n (Join u v) reply same right = joined-cong g D E n u v reply same right
replies-cong g D E q before n Look reply same right = looked-cong g D E n reply same right
replies-cong g D E q before n Claim reply same right = claimed-cong g D E reply same right
replies-cong g D E q before n (Judge i) reply same right = judged-cong g D E q (before i) n reply same right
replies-cong g D E q before n (RankRequest i k) reply same right = ranked-cong g D E (before i) n k reply same right
