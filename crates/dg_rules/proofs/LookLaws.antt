-- What was computed on a look.
--   moved_since             where the gift count is that of the look, moves lead from the look's amounts to those now,
--                           on the graph of the look, which is that of the state
--   judged_after            a verdict that is right in a state is a right reply after a history that leads to it
--   ranked_after            the answer of a rank test that is right for a look is a right reply
--   stale_after             where the gift count is another than that of the look, stale is a right reply to all that is
--                           asked on it
--   look_fits               a look shows an amount for each vertex of its graph
--   look_vertices           the graph of a look has as many vertices as that of the state
--   look_kept               a look stays a look of the history when an entry is added
--   look_new                an entry that is a look is a look of the history
--   look_size               a look shows as many vertices as the state
--   carried                 a verdict can be carried along a drift that leads to the amounts of a state
use Rattle.dg_rules.proofs.Common.{◌≡◌, ◌≢◌, ℕ, ◌+◌, ◌<◌, ◌≤◌, List, [], ◌∷◌, ◌++◌, length, take, drop, slice_get, arith, refl, sym, ap, subst, ◌∙◌, take-append_seam, ints, take-append-le, take-append-drop, slice_get_within, Multigraph, Amounts, fired, FiresTo, Vector, at, StartData, IsRightVerdict, IsRebasable, IsRightRank, RankVerdict, Position, fired_position, scripts_played, gifts_in, IsLookAt, request_for_question, Replies, GameState, IsState, LeadsTo, Entry, Look, Judge, Verdict, Stale, Question, LookData}
use Rattle.dg_verdict.specs.declared.verdict.Verdict.{Verdict as AVerdict}
use Rattle.dg_rules.specs.History.{position_after}
use Rattle.dg_rules.specs.declared.entry.Request.TheVariants.{Rank as RankRequest}
use Rattle.dg_rules.specs.declared.entry.Reply.TheVariants.{Rank as RankReply}
use Rattle.dg_rules.specs.declared.finding.Question.TheVariants as question
use Rattle.dg_rules.proofs.HistoryLaws.{gifts_in-append}
use Rattle.dg_rules.proofs.ListLaws.{slice_get-append, slice_get-seam}
use Rattle.dg_rules.proofs.RankTests.{rank_test_led}
use Rattle.dg_rules.proofs.StateLaws.{replies_after}
use Rattle.dg_rules.proofs.StepLaw.{since_change, vertices_stay}

-- a history after a look, as the part before the look and the rest
pub moved_since : (o : StartData) (H : List Entry) (s : GameState) (x : LookData) → LeadsTo o H s → IsLookAt o H x →
    s.gifts ≡ x.gifts →
    (s.graph ≡ x.graph) × (t : Amounts) × FiresTo s.graph t (at x.position) (at s.amounts)
moved_since o H s x leads look same =
    let K : List Entry = take x.number H in
    let L : List Entry = drop x.number H in
    let whole : K ++ L ≡ H = take-append-drop x.number H in
    let counts : gifts_in H ≡ gifts_in K + gifts_in L = ap gifts_in (sym whole) ∙ gifts_in-append K L in
    let none : gifts_in L ≡ 0 = omega (arith, counts, same, leads.gifts, look.gifts) in
    let p : Position = position_after o K in
    let fires : position_after o H ≡ fired_position p (scripts_played L) =
    ap (position_after o) (sym whole) ∙ since_change o K L none in
    let graph : s.graph ≡ p.graph = leads.graph ∙ ap (λ (r : Position). r.graph) fires in (
      graph ∙ sym look.graph,
      scripts_played L,
      λ v below.
          let inside : v < p.graph.size = subst (λ (g : Multigraph). v < g.size) graph below in
          let there : v < (position_after o H).graph.size = subst (λ (g : Multigraph). v < g.size) leads.graph below in
          let now : at s.amounts v ≡ (position_after o H).amounts v = leads.amounts.amounts v there in
          let moved : (position_after o H).amounts v ≡ fired p.graph p.amounts (scripts_played L) v =
          ap (λ (r : Position). r.amounts v) fires in
          let then' : at x.position v ≡ p.amounts v = look.amounts.amounts v inside in
          rw graph (omega (arith, ints, now, then', moved)),
    )

pub judged_after : (o : StartData) (H : List Entry) (s : GameState) (x : LookData) (verdict : AVerdict) → LeadsTo o H s →
    IsLookAt o H x →
    s.gifts ≡ x.gifts → IsRightVerdict s.graph s.q (at s.amounts) verdict → Replies o H (Judge x.number) (Verdict verdict)
judged_after o H s x verdict leads look same right =
    replies_after o H s (Judge x.number) (Verdict verdict) leads (sym look.gifts ∙ sym same, right)

pub ranked_after : (o : StartData) (H : List Entry) (s : GameState) (x : LookData) (k : ℕ) (verdict : RankVerdict) →
    LeadsTo o H s → IsLookAt o H x →
    s.gifts ≡ x.gifts → IsRightRank x.graph (at x.position) k verdict →
    Replies o H (RankRequest x.number k) (RankReply verdict)
ranked_after o H s x k verdict leads look same right =
    let (graph, t, led) = moved_since o H s x leads look same in
    let then' : IsRightRank s.graph (at x.position) k verdict = rw graph right in
    replies_after o H s (RankRequest x.number k) (RankReply verdict) leads
    (sym look.gifts ∙ sym same, rank_test_led s.graph (at x.position) (at s.amounts) t k verdict led then')

pub stale_after : (o : StartData) (H : List Entry) (s : GameState) (x : LookData) (asks : Question) → LeadsTo o H s →
    IsLookAt o H x →
    x.gifts ≢ s.gifts → Replies o H (request_for_question x.number asks) (Stale s.gifts)
stale_after o H s x question.Judge leads look other =
    replies_after o H s (Judge x.number) (Stale s.gifts) leads ((λ same. other (look.gifts ∙ same)), refl)
stale_after o H s x (question.Rank k) leads look other =
    replies_after o H s (RankRequest x.number k) (Stale s.gifts) leads ((λ same. other (look.gifts ∙ same)), refl)

-- a look stays what it was when an entry is added
pub look_kept : (o : StartData) (H : List Entry) (e : Entry) (x : LookData) → IsLookAt o H x → IsLookAt o (H ++ e ∷ []) x
look_kept o H e x look =
    let (entry, there, is) = look.look in
    let inside : x.number < length H = slice_get_within H x.number entry there in
    let before : x.number ≤ length H = omega arith in
    record {
      look = (entry, slice_get-append H (e ∷ []) x.number inside ∙ there, is);
      gifts = rw (take-append-le x.number H (e ∷ []) before) look.gifts;
      graph = rw (take-append-le x.number H (e ∷ []) before) look.graph;
      amounts = rw (take-append-le x.number H (e ∷ []) before) look.amounts;
    }

-- the look that is entered next
pub look_new : (o : StartData) (H : List Entry) (s : GameState) (e : Entry) (x : LookData) → LeadsTo o H s →
    e.request ≡ Look →
    x.number ≡ s.entries → x.gifts ≡ s.gifts → x.graph ≡ s.graph → x.position ≡ s.amounts → IsLookAt o (H ++ e ∷ []) x
look_new o H s e x leads is number gifts graph position =
    let at_end : x.number ≡ length H = number ∙ leads.entries in
    let start : take x.number (H ++ e ∷ []) ≡ H = ap (λ n. take n (H ++ e ∷ [])) at_end ∙ take-append_seam H (e ∷ []) in
    record {
      look = (e, ap (slice_get (H ++ e ∷ [])) at_end ∙ slice_get-seam H e [], is);
      gifts = rw start (gifts ∙ leads.gifts);
      graph = rw start (graph ∙ leads.graph);
      amounts = rw (start, position) leads.amounts;
    }

pub look_fits : (o : StartData) (H : List Entry) (x : LookData) → IsLookAt o H x → x.position.size ≡ x.graph.size
look_fits o H x look = look.amounts.size ∙ ap (λ (g : Multigraph). g.size) (sym look.graph)

pub look_vertices : (o : StartData) (H : List Entry) (s : GameState) (x : LookData) → LeadsTo o H s → IsLookAt o H x →
    x.graph.size ≡ s.graph.size
look_vertices o H s x leads look =
    ap (λ (g : Multigraph). g.size) look.graph ∙ vertices_stay o (take x.number H) ∙ sym (vertices_stay o H)
    ∙ ap (λ (g : Multigraph). g.size) (sym leads.graph)

pub look_size : (o : StartData) (H : List Entry) (s : GameState) (x : LookData) → LeadsTo o H s → IsLookAt o H x →
    x.position.size ≡ s.graph.size
look_size o H s x leads look =
    look_fits o H x look ∙ look_vertices o H s x leads look

pub carried : (s : GameState) (D : Amounts) (x : AVerdict) (m : Vector) → IsState s →
    IsRightVerdict s.graph s.q D x → m.size ≡ s.graph.size → FiresTo s.graph (at m) D (at s.amounts) → IsRebasable s.q x m
carried s D x m state right size leads = record {
  graph = s.graph;
  start = D;
  is_graph = state.graph;
  vertex = state.vertex;
  right = right;
  size = size;
  in_range = λ v below. rw (← leads v below) (state.divisor.within v (rw state.size below));
}
