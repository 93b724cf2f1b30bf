-- States and histories go on together.
--   start_leads      the empty history leads to the state at the start
--   shown_once       one divisor shows a position
--   given_once       one divisor is given
--   shows_joined     what shows a position shows it on the graph with one more edge
--   shows_after      what shows the position shows it after the entry, with the amounts after the reply
--   replies_after    a reply that is right in a state is right after a history that leads to it
--   right_in         and the other way round
--   one_entry        a state with one more entry is a state, where there is room
--   moved_a_move     what is answered as a move is a move
--   leads_more       a reply that is right after the history leads with its entry to the next state
use Rattle.dg_rules.proofs.Common.{◌≡◌, ◌≢◌, ℕ, ◌+◌, ◌<◌, List, [], ◌∷◌, ◌++◌, take, arith, refl, sym, ap, subst, ◌∙◌, length-append, ints, ℤ, pos, Multigraph, size_stays, one_vector, Vector, IsDivisorVector, at, StartData, Position, ShowsPosition, IsAcceptedGift, with_gift, with_join, gifts_in, change_count, scripts_played, after_reply, Replies, RepliesAt, GameState, IsState, LeadsTo, IsRightReply, IsNextState, position_of, amounts_after, gifts_after, graph_after, Entry, Request, Move, Gift, Join, Look, Claim, Judge, Reply, Moved, Given, Joined, Looked, Verdict, Stale, Won, NotWon, Refused}
use Rattle.dg_rules.specs.Common.{Move as MoveData}
use Rattle.dg_rules.specs.History.{position_after}
use Rattle.dg_rules.specs.declared.entry.Request.TheVariants.{Rank as RankRequest}
use Rattle.dg_rules.specs.declared.entry.Reply.TheVariants.{Rank as RankReply}
use Rattle.dg_rules.proofs.HistoryLaws.{gifts_in-more, scripts_played-more}
use Rattle.dg_rules.proofs.StepLaw.{no_entry, one_more_entry}
use Rattle.dg_rules.proofs.ReplyLaws.{replies-cong}

pub replies_after : (o : StartData) (H : List Entry) (s : GameState) (request : Request) (reply : Reply) → LeadsTo o H s →
    RepliesAt (position_of s) s.q (λ i. gifts_in (take i H)) s.gifts request reply → Replies o H request reply
replies_after o H s request reply leads right =
    let p : Position = position_after o H in
    let before : ℕ → ℕ = λ i. gifts_in (take i H) in
    let on_graph : RepliesAt (record { graph = p.graph; amounts = at s.amounts }) s.q before s.gifts request reply =
    subst (λ (g : Multigraph).
    RepliesAt (record { graph = g; amounts = at s.amounts }) s.q before s.gifts request reply) leads.graph right in
    let on_amounts : RepliesAt p s.q before s.gifts request reply =
    replies-cong p.graph (at s.amounts) p.amounts s.q before s.gifts request reply leads.amounts.amounts on_graph in
    subst (λ (n : ℕ). RepliesAt p o.q before n request reply) leads.gifts
    (subst (λ (q : ℕ). RepliesAt p q before s.gifts request reply) leads.q on_amounts)

pub right_in : (o : StartData) (H : List Entry) (s : GameState) (request : Request) (reply : Reply) → LeadsTo o H s →
    Replies o H request reply → IsRightReply s request reply
right_in o H s request reply leads right =
    let p : Position = position_after o H in
    let before : ℕ → ℕ = λ i. gifts_in (take i H) in
    let from_q : RepliesAt p s.q before s.gifts request reply =
    subst (λ (q : ℕ). RepliesAt p q before s.gifts request reply) (sym leads.q)
    (subst (λ (n : ℕ). RepliesAt p o.q before n request reply) (sym leads.gifts) right) in
    let on_amounts : RepliesAt (record { graph = p.graph; amounts = at s.amounts }) s.q before s.gifts request reply =
    replies-cong p.graph p.amounts (at s.amounts) s.q before s.gifts request reply
    (λ v below. sym (leads.amounts.amounts v below)) from_q in (
      before,
      subst (λ (g : Multigraph).
          RepliesAt (record { graph = g; amounts = at s.amounts }) s.q before s.gifts request reply)
          (sym leads.graph) on_amounts,
    )

pub one_entry : (s t : GameState) → IsState s → s ≡ t → t.entries < 65536 →
    IsState (record { graph = s.graph; q = s.q; amounts = s.amounts; drift = s.drift; gifts = s.gifts; entries = s.entries + 1 })
one_entry s t state same room =
    let few : s.entries < 65536 = omega (arith, ap (λ (x : GameState). x.entries) same) in
    record {
      graph = state.graph;
      vertex = state.vertex;
      size = state.size;
      divisor = state.divisor;
      drift_size = state.drift_size;
      drift_limit = λ v below. omega (arith, state.drift_limit v below);
      gifts = omega (arith, state.gifts);
      entries = omega arith;
    }

pub moved_a_move : (p : Position) (q : ℕ) (before : ℕ → ℕ) (g : ℕ) (request : Request) (d : Vector) →
    RepliesAt p q before g request (Moved d) → ((m : MoveData) → request ≢ Move m) → ⊥
moved_a_move p q before g (Move m) d right none = none m refl
moved_a_move p q before g (Gift v x) d right none = right
moved_a_move p q before g (Join u v) d right none = right
moved_a_move p q before g Look d right none = right
moved_a_move p q before g Claim d right none = right
moved_a_move p q before g (Judge i) d right none = right
moved_a_move p q before g (RankRequest i k) d right none = right

pub shown_once : (p : Position) (d e : Vector) → ShowsPosition p d → ShowsPosition p e → d ≡ e
shown_once p d e first second =
    one_vector 1_000_000 d e first.divisor second.divisor (first.size ∙ sym second.size) (λ v below.
    let here : v < p.graph.size = omega (arith, below, first.size) in
    first.amounts v here ∙ sym (second.amounts v here))

pub given_once : (p : Position) (g v : ℕ) (x : ℤ) (n m : ℕ) (d e : Vector) → IsAcceptedGift p g v x n d →
    IsAcceptedGift p g v x m e → d ≡ e
given_once p g v x n m d e first second =
    shown_once (record { graph = p.graph; amounts = with_gift p v x }) d e
    (record { size = first.size; divisor = first.divisor; amounts = first.amounts })
    (record { size = second.size; divisor = second.divisor; amounts = second.amounts })

pub shows_joined : (p : Position) (u v : ℕ) (d : Vector) → ShowsPosition p d → ShowsPosition (with_join p u v) d
shows_joined p u v d shows = record {
  size = shows.size ∙ sym (size_stays p.graph u v);
  divisor = shows.divisor;
  amounts = λ w below. shows.amounts w (subst (λ (n : ℕ). w < n) (size_stays p.graph u v) below);
}

pub shows_after : (o : StartData) (H : List Entry) (d : Vector) (request : Request) (reply : Reply) →
    ShowsPosition (position_after o H) d →
    Replies o H request reply → ShowsPosition (after_reply (position_after o H) request reply) (amounts_after d reply)
shows_after o H d (Move m) (Moved e) shows right =
    record { size = right.size; divisor = right.divisor; amounts = right.amounts }
shows_after o H d (Move m) (Refused refusal) shows right = shows
shows_after o H d (Gift v x) (Given count e) shows right =
    record { size = right.size; divisor = right.divisor; amounts = right.amounts }
shows_after o H d (Gift v x) (Refused refusal) shows right = shows
shows_after o H d (Join u v) (Joined count e) shows right = shows_joined (position_after o H) u v d shows
shows_after o H d (Join u v) (Refused refusal) shows right = shows
shows_after o H d Look (Looked count e graph) shows right = shows
shows_after o H d Claim Won shows right = shows
shows_after o H d Claim NotWon shows right = shows
shows_after o H d (Judge i) (Verdict x) shows right = shows
shows_after o H d (Judge i) (Stale count) shows right = shows
shows_after o H d (RankRequest i k) (RankReply x) shows right = shows
shows_after o H d (RankRequest i k) (Stale count) shows right = shows
shows_after o H d request reply shows right = absurd right

graph_led : (p : Position) (request : Request) (reply : Reply) →
    (after_reply p request reply).graph ≡ graph_after p.graph request reply
graph_led p (Move m) (Moved d) = refl
graph_led p (Gift v x) (Given count d) = refl
graph_led p (Join u v) (Joined count d) = refl
graph_led p request reply = refl

size_after : (g : Multigraph) (request : Request) (reply : Reply) → (graph_after g request reply).size ≡ g.size
size_after g (Join u v) (Joined count d) = size_stays g u v
size_after g request reply = refl

gifts_counted : (o : StartData) (H : List Entry) (request : Request) (reply : Reply) → Replies o H request reply →
    gifts_after (gifts_in H) reply ≡ gifts_in H + change_count reply
gifts_counted o H (Move m) (Moved d) right = omega arith
gifts_counted o H (Move m) (Refused refusal) right = omega arith
gifts_counted o H (Gift v x) (Given count d) right = right.count'
gifts_counted o H (Gift v x) (Refused refusal) right = omega arith
gifts_counted o H (Join u v) (Joined count d) right = right.count'
gifts_counted o H (Join u v) (Refused refusal) right = omega arith
gifts_counted o H Look (Looked count d graph) right = omega arith
gifts_counted o H Claim Won right = omega arith
gifts_counted o H Claim NotWon right = omega arith
gifts_counted o H (Judge i) (Verdict x) right = omega arith
gifts_counted o H (Judge i) (Stale count) right = omega arith
gifts_counted o H (RankRequest i k) (RankReply x) right = omega arith
gifts_counted o H (RankRequest i k) (Stale count) right = omega arith
gifts_counted o H request reply right = absurd right

pub leads_more : (o : StartData) (H : List Entry) (s t : GameState) (e : Entry) → LeadsTo o H s →
    Replies o H e.request e.reply →
    IsNextState s e.request e.reply t → LeadsTo o (H ++ e ∷ []) t
leads_more o H s t e leads right next =
    let p : Position = position_after o H in
    let shown : ShowsPosition (after_reply p e.request e.reply) t.amounts =
    rw next.amounts (shows_after o H s.amounts e.request e.reply leads.amounts right) in
    record {
      graph = next.graph ∙ ap (λ (g : Multigraph). graph_after g e.request e.reply) leads.graph
          ∙ sym (graph_led p e.request e.reply)
          ∙ ap (λ (r : Position). r.graph) (sym (one_more_entry o H e));
      q = next.q ∙ leads.q;
      amounts = rw (one_more_entry o H e) shown;
      drift = λ v below.
          let after : v < (graph_after s.graph e.request e.reply).size =
          subst (λ (g : Multigraph). v < g.size) next.graph below in
          let inside : v < s.graph.size = subst (λ (n : ℕ). v < n) (size_after s.graph e.request e.reply) after in
          let before : at s.drift v ≡ scripts_played H v = leads.drift v inside in
          next.drift v inside ∙ omega (arith, ints, before, scripts_played-more H e v);
      gifts = next.gifts ∙ ap (λ (n : ℕ). gifts_after n e.reply) leads.gifts ∙ gifts_counted o H e.request e.reply right
          ∙ sym (gifts_in-more H e);
      entries = next.entries ∙ omega (arith, leads.entries, length-append H (e ∷ []));
    }

pub start_leads : (o : StartData) (d : Vector) → o.divisor.size ≡ o.graph.size → IsDivisorVector o.divisor →
    ((v : ℕ) → at d v ≡ pos 0) →
    LeadsTo o [] (record { graph = o.graph; q = o.q; amounts = o.divisor; drift = d; gifts = 0; entries = 0 })
start_leads o d size divisor still = record {
  graph = ap (λ (p : Position). p.graph) (sym (no_entry o));
  q = refl;
  amounts = rw (no_entry o) (record { size = size; divisor = divisor; amounts = λ v below. refl });
  drift = λ v below. still v;
  gifts = refl;
  entries = refl;
}
