-- The state of a game.
--   GameState                     == the graph, the vertex q, the amounts now, how often each vertex
--                                    has lent by the accepted moves, the gift count and the number of
--                                    entries
--   position_of s                 == the position that the state shows
--   IsState s                     == the parts of the state s fit together and are within their limits
--   LeadsTo o H s                 == the history H leads from the start o to the state s
--   IsRightReply s request reply  == the reply is right in the state s, for some gift counts at the
--                                    looks
--   amounts_after d reply         == the amounts after the reply, if they were d before
--   gifts_after n reply           == the gift count after the reply, where it was n before
--   graph_after g request reply   == the graph after the request was so answered, where it was g before
--   IsNextState s request reply t == t is the state after s and one entry with this request and reply
use Rattle.std.specs.Prelude.{◌≡◌, ℕ, ◌+◌, ◌*◌, ◌<◌, ◌≤◌, ◌+ℤ◌, List, length}
use Rattle.std.specs.Int.RustNames.{unsigned_abs}
use Rattle.dg_rules.specs.Common.{Multigraph, with_edge, IsGraph, Vector, IsDivisorVector, at, MAX_ENTRY, StartData}
use Rattle.dg_rules.specs.Position.{Position, ShowsPosition}
use Rattle.dg_rules.specs.History.{position_after, gifts_in, scripts_played, accepted_script}
use Rattle.dg_rules.specs.Replies.{RepliesAt}
use Rattle.dg_rules.specs.declared.entry.Entry.{Entry}
use Rattle.dg_rules.specs.declared.entry.Request.{Request}
use Rattle.dg_rules.specs.declared.entry.Request.TheVariants.{Join}
use Rattle.dg_rules.specs.declared.entry.Reply.{Reply}
use Rattle.dg_rules.specs.declared.entry.Reply.TheVariants.{Moved, Given, Joined, Looked, Verdict, Rank, Stale, Won, NotWon, Refused}
use Rattle.dg_rules.specs.declared.game.TheConstants.{MAX_ENTRIES}

pub record GameState : Type 0 where
  pub graph : Multigraph
  pub q : ℕ
  pub amounts : Vector
  pub drift : Vector
  pub gifts : ℕ
  pub entries : ℕ

abbrev pub position_of : GameState → Position
position_of s = record { graph = s.graph; amounts = at s.amounts }

pub record IsState (s : GameState) : Type 0 where
  pub graph : IsGraph s.graph
  pub vertex : s.q < s.graph.size
  pub size : s.amounts.size ≡ s.graph.size
  pub divisor : IsDivisorVector s.amounts
  pub drift_size : s.drift.size ≡ s.graph.size
  pub drift_limit : (v : ℕ) → v < s.graph.size → unsigned_abs (at s.drift v) ≤ s.entries * MAX_ENTRY
  pub gifts : s.gifts ≤ s.entries
  pub entries : s.entries ≤ MAX_ENTRIES

pub record LeadsTo (o : StartData) (H : List Entry) (s : GameState) : Type 0 where
  pub graph : s.graph ≡ (position_after o H).graph
  pub q : s.q ≡ o.q
  pub amounts : ShowsPosition (position_after o H) s.amounts
  pub drift : (v : ℕ) → v < s.graph.size → at s.drift v ≡ scripts_played H v
  pub gifts : s.gifts ≡ gifts_in H
  pub entries : s.entries ≡ length H

abbrev pub IsRightReply : GameState → Request → Reply → Type 0
IsRightReply s request reply =
    (before : ℕ → ℕ) × RepliesAt (position_of s) s.q before s.gifts request reply

abbrev pub amounts_after : Vector → Reply → Vector
amounts_after d (Moved e) = e
amounts_after d (Given g e) = e
amounts_after d (Joined g e) = d
amounts_after d (Looked g e graph) = d
amounts_after d (Verdict x) = d
amounts_after d (Rank x) = d
amounts_after d (Stale g) = d
amounts_after d Won = d
amounts_after d NotWon = d
amounts_after d (Refused refusal) = d

abbrev pub gifts_after : ℕ → Reply → ℕ
gifts_after n (Given g e) = g
gifts_after n (Joined g e) = g
gifts_after n (Moved e) = n
gifts_after n (Looked g e graph) = n
gifts_after n (Verdict x) = n
gifts_after n (Rank x) = n
gifts_after n (Stale g) = n
gifts_after n Won = n
gifts_after n NotWon = n
gifts_after n (Refused refusal) = n

abbrev pub graph_after : Multigraph → Request → Reply → Multigraph
graph_after g (Join u v) (Joined n e) = with_edge g u v
graph_after g request reply = g

pub record IsNextState (s : GameState) (request : Request) (reply : Reply) (t : GameState) : Type 0 where
  pub graph : t.graph ≡ graph_after s.graph request reply
  pub q : t.q ≡ s.q
  pub amounts : t.amounts ≡ amounts_after s.amounts reply
  pub drift : (v : ℕ) → v < s.graph.size → at t.drift v ≡ at s.drift v +ℤ accepted_script request reply v
  pub gifts : t.gifts ≡ gifts_after s.gifts reply
  pub entries : t.entries ≡ s.entries + 1
