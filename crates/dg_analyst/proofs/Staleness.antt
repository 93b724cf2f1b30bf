-- What is entered on a look that is stale.
--   settled_stale   a question on it is so entered as each finding that is asked for alike
--   stale_is_committed, stale_rank_is_committed   as each verdict, and as each answer of the rank test
use Rattle.dg_analyst.proofs.Common.{◌≡◌, ℕ, ◌∷◌, [], ◌++◌, refl, sym, subst, gifts_in, request_for_finding, request_for_question, finding_degree, KeepsFinding, Entry, Stale, Request, Finding, Judged, Ranked, Question, Judge, Rank, TableData, entering, IsEnteredAfter, SeatView, IsSettled, IsStale, StaleIsCommitted, TriedIsCommitted}

-- a stale entry keeps nothing of what was found
keeps_nothing : (f : Finding) (n : ℕ) → KeepsFinding f (Stale n)
keeps_nothing (Judged v) n = tt
keeps_nothing (Ranked v) n = tt

settled_stale : (table : TableData) (look : ℕ × Entry) (asks : Question) (f : Finding) (r : ℕ × Entry) (x y : SeatView) →
    request_for_question look.0 asks ≡ request_for_finding look.0 f → IsStale table look asks r x y
    → IsSettled table look f r x y
settled_stale table look asks f r x y same (H, stale) = (
  H,
  record {
    entered = subst
        (λ (q : Request). IsEnteredAfter table q (x.told ++ look ∷ []) (entering H r x y)) same stale.entered;
    stands = stale.stands;
    kept = subst (KeepsFinding f) (sym stale.stale) (keeps_nothing f (gifts_in H));
    stale = (λ since. stale.stale, λ reply. stale.since);
    carried = λ none. absurd (stale.since none);
  },
)

pub stale_is_committed : StaleIsCommitted
stale_is_committed table found r x y stale =
    settled_stale table found.look.receipt Judge (Judged found.verdict) r x y refl stale

pub stale_rank_is_committed : TriedIsCommitted
stale_rank_is_committed table found r x y stale =
    settled_stale table found.look.receipt (Rank (finding_degree found.verdict)) (Ranked found.verdict) r x y refl stale
