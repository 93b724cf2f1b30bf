-- At one position replies to a request are alike: there is one to a call, and the order of a verdict shows in no text.
--   Alike        two replies to a request count alike, lead to one position and have one text
--   reply_once   replies to a request are alike
use Rattle.dg_tasks.proofs.Common.{◌≡◌, ℕ, ◌<◌, List, length, refl, sym, ap, ◌∙◌, IsGraph, change_count, Position, RepliesAt, RepliesToJudge, RepliesToRank, after_reply, Request, Reply, Verdict, Rank, Stale, text_of, move_once, gift_once, join_once, look_once, claim_once}
use Rattle.dg_rules.specs.declared.entry.Request.TheVariants as request
use Rattle.dg_lines.proofs.OneText.{verdict_same, test_same}

pub record Alike (names : List (List ℕ)) (p : Position) (r : Request) (a b : Reply) : Type 0 where
  pub counted : change_count a ≡ change_count b
  pub leads : after_reply p r a ≡ after_reply p r b
  pub text : text_of names a ≡ text_of names b

module _ (names : List (List ℕ)) (p : Position) (fit : length names ≡ p.graph.size) where
  same_alike : (r : Request) (a b : Reply) → a ≡ b → Alike names p r a b
  same_alike r a b same = record {
    counted = ap change_count same;
    leads = ap (after_reply p r) same;
    text = ap (text_of names) same;
  }

  judge_once : (q : ℕ) → IsGraph p.graph → q < p.graph.size → (i h h' g : ℕ) (a b : Reply) → h ≡ h' →
      RepliesToJudge p q h g a → RepliesToJudge p q h' g b → Alike names p (request.Judge i) a b
  judge_once q graph vertex i h h' g (Verdict x) (Verdict y) before first second = record {
    counted = refl;
    leads = refl;
    text = verdict_same names p.graph p.amounts fit q graph.multigraph vertex x y first.1 second.1;
  }
  judge_once q graph vertex i h h' g (Verdict x) (Stale n) before first second =
      absurd (second.0 (sym before ∙ first.0))
  judge_once q graph vertex i h h' g (Stale n) (Verdict y) before first second = absurd (first.0 (before ∙ second.0))
  judge_once q graph vertex i h h' g (Stale n) (Stale m) before first second =
      same_alike (request.Judge i) (Stale n) (Stale m) (ap Stale (first.1 ∙ sym second.1))
  judge_once q graph vertex i h h' g (Verdict x) b before first second = absurd second
  judge_once q graph vertex i h h' g (Stale n) b before first second = absurd second
  judge_once q graph vertex i h h' g a b before first second = absurd first

  rank_once : (i h h' g k : ℕ) (a b : Reply) → h ≡ h' → RepliesToRank p h g k a → RepliesToRank p h' g k b →
      Alike names p (request.Rank i k) a b
  rank_once i h h' g k (Rank x) (Rank y) before first second = record {
    counted = refl;
    leads = refl;
    text = test_same names p.graph p.amounts fit k x y first.1 second.1;
  }
  rank_once i h h' g k (Rank x) (Stale n) before first second = absurd (second.0 (sym before ∙ first.0))
  rank_once i h h' g k (Stale n) (Rank y) before first second = absurd (first.0 (before ∙ second.0))
  rank_once i h h' g k (Stale n) (Stale m) before first second =
      same_alike (request.Rank i k) (Stale n) (Stale m) (ap Stale (first.1 ∙ sym second.1))
  rank_once i h h' g k (Rank x) b before first second = absurd second
  rank_once i h h' g k (Stale n) b before first second = absurd second
  rank_once i h h' g k a b before first second = absurd first

  pub reply_once : (q : ℕ) → IsGraph p.graph → q < p.graph.size → (f h : ℕ → ℕ) → ((i : ℕ) → f i ≡ h i) → (g : ℕ)
      (r : Request) (a b : Reply) → RepliesAt p q f g r a → RepliesAt p q h g r b → Alike names p r a b
  reply_once q graph vertex f h before g (request.Move m) a b right right' =
      same_alike (request.Move m) a b (move_once p m a b right right')
  reply_once q graph vertex f h before g (request.Gift v x) a b right right' =
      same_alike (request.Gift v x) a b (gift_once p g v x a b right right')
  reply_once q graph vertex f h before g (request.Join u v) a b right right' =
      same_alike (request.Join u v) a b (join_once p g u v a b right right')
  reply_once q graph vertex f h before g request.Look a b right right' =
      same_alike request.Look a b (look_once p g a b right right')
  reply_once q graph vertex f h before g request.Claim a b right right' =
      same_alike request.Claim a b (claim_once p a b right right')
  reply_once q graph vertex f h before g (request.Judge i) a b right right' =
      judge_once q graph vertex i (f i) (h i) g a b (before i) right right'
  reply_once q graph vertex f h before g (request.Rank i k) a b right right' =
      rank_once i (f i) (h i) g k a b (before i) right right'
