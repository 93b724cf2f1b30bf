-- What may be replied.
--   RepliesToLook p g reply              == the gift count, the amounts and the graph, as they are
--   RepliesToClaim p reply               == won if nobody is in debt, and not won if somebody is
--   RepliesToJudge p q h g reply         == the gift count was h before the look: if it is so now, a verdict
--                                           that is right for the position; else stale, with the gift count
--                                           now
--   RepliesToRank p h g k reply          == the gift count was h before the look: if it is so now, the
--                                           verdict of a rank test of degree k that is right for the
--                                           position; else stale, with the gift count now
--   RepliesAt p q before g request reply == the reply is right at the position p, for the vertex q, if the
--                                           gift count is g, and was `before i` at entry i
--   Replies o H request reply            == the reply is right after the history H from the start o
use Rattle.std.specs.Prelude.{◌≡◌, ◌≢◌, ℕ, List, take}
use Rattle.dg_rules.specs.Common.{IsEffective, StartData, IsRightVerdict, IsRightRank}
use Rattle.dg_rules.specs.Position.{Position, ShowsPosition}
use Rattle.dg_rules.specs.History.{position_after, gifts_in}
use Rattle.dg_rules.specs.MoveReplies.{RepliesToMove}
use Rattle.dg_rules.specs.GiftReplies.{RepliesToGift}
use Rattle.dg_rules.specs.JoinReplies.{RepliesToJoin}
use Rattle.dg_rules.specs.declared.entry.Entry.{Entry}
use Rattle.dg_rules.specs.declared.entry.Request.{Request}
use Rattle.dg_rules.specs.declared.entry.Request.TheVariants.{Move, Gift, Join, Look, Claim, Judge, Rank as RankRequest}
use Rattle.dg_rules.specs.declared.entry.Reply.{Reply}
use Rattle.dg_rules.specs.declared.entry.Reply.TheVariants.{Looked, Won, NotWon, Verdict, Rank as RankReply, Stale}

abbrev pub RepliesToLook : Position → ℕ → Reply → Type 0
RepliesToLook p g (Looked count d graph) = (count ≡ g) × ShowsPosition p d × (graph ≡ p.graph)
RepliesToLook p g reply = ⊥

abbrev pub RepliesToClaim : Position → Reply → Type 0
RepliesToClaim p Won = IsEffective p.graph.size p.amounts
RepliesToClaim p NotWon = ¬ IsEffective p.graph.size p.amounts
RepliesToClaim p reply = ⊥

abbrev pub RepliesToJudge : Position → ℕ → ℕ → ℕ → Reply → Type 0
RepliesToJudge p q h g (Verdict x) = (h ≡ g) × IsRightVerdict p.graph q p.amounts x
RepliesToJudge p q h g (Stale count) = (h ≢ g) × (count ≡ g)
RepliesToJudge p q h g reply = ⊥

abbrev pub RepliesToRank : Position → ℕ → ℕ → ℕ → Reply → Type 0
RepliesToRank p h g k (RankReply x) = (h ≡ g) × IsRightRank p.graph p.amounts k x
RepliesToRank p h g k (Stale count) = (h ≢ g) × (count ≡ g)
RepliesToRank p h g k reply = ⊥

abbrev pub RepliesAt : Position → ℕ → (ℕ → ℕ) → ℕ → Request → Reply → Type 0
RepliesAt p q before g (Move m) reply = RepliesToMove p m reply
RepliesAt p q before g (Gift v x) reply = RepliesToGift p g v x reply
RepliesAt p q before g (Join u v) reply = RepliesToJoin p g u v reply
RepliesAt p q before g Look reply = RepliesToLook p g reply
RepliesAt p q before g Claim reply = RepliesToClaim p reply
RepliesAt p q before g (Judge i) reply = RepliesToJudge p q (before i) g reply
RepliesAt p q before g (RankRequest i k) reply = RepliesToRank p (before i) g k reply

abbrev pub Replies : StartData → List Entry → Request → Reply → Type 0
Replies o H request reply =
    RepliesAt (position_after o H) o.q (λ i. gifts_in (take i H)) (gifts_in H) request reply
