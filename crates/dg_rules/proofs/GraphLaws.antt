-- The graphs of legal histories.
--   graphs_hold      a legal history, from a start on a graph within the limits, leads to a position on one
use Rattle.dg_rules.proofs.Common.{◌≡◌, List, [], ◌∷◌, ◌++◌, append_assoc, append-nil, sym, subst, IsGraph, with_edge-graph, StartData, IsLegal, LegalGraphsHold, Position, Replies, after_reply, Entry, Request, Move, Gift, Join, Reply, Moved, Given, Joined}
use Rattle.dg_rules.specs.History.{position_after}
use Rattle.dg_rules.proofs.LegalLaws.{right_here}
use Rattle.dg_rules.proofs.StepLaw.{no_entry, one_more_entry}

graph_next : (o : StartData) (K : List Entry) (request : Request) (reply : Reply) → Replies o K request reply →
    IsGraph (position_after o K).graph → IsGraph (after_reply (position_after o K) request reply).graph
graph_next o K (Move m) (Moved d) right graph = graph
graph_next o K (Gift v x) (Given g d) right graph = graph
graph_next o K (Join u v) (Joined g d) right graph = with_edge-graph (position_after o K).graph u v graph right.joinable
graph_next o K request reply right graph = graph

graphs_since : (o : StartData) (K L : List Entry) → IsLegal o (K ++ L) → IsGraph (position_after o K).graph →
    IsGraph (position_after o (K ++ L)).graph
graphs_since o K [] legal graph =
    subst (λ (H : List Entry). IsGraph (position_after o H).graph) (sym (append-nil K)) graph
graphs_since o K (e ∷ L) legal graph =
    let whole : (K ++ e ∷ []) ++ L ≡ K ++ e ∷ L = append_assoc K (e ∷ []) L in
    let right : Replies o K e.request e.reply = right_here o K e L legal in
    let next : IsGraph (position_after o (K ++ e ∷ [])).graph =
    subst (λ (p : Position). IsGraph p.graph) (sym (one_more_entry o K e))
    (graph_next o K e.request e.reply right graph) in
    subst (λ (H : List Entry). IsGraph (position_after o H).graph) whole
    (graphs_since o (K ++ e ∷ []) L (subst (IsLegal o) (sym whole) legal) next)

pub graphs_hold : LegalGraphsHold
graphs_hold o H graph legal =
    graphs_since o [] H legal (subst (λ (p : Position). IsGraph p.graph) (sym (no_entry o)) graph)
