-- Ranks by tests one after another.
--   passes_told, loss_told, past_told   what the answer of a test tells
--   answer_passed   a test that is passed, and not past the limits, is answered so
--   answer_failed   so is one that is failed, by a loss
--   answer_past     and one that is past the limits
--   rank_fails      the test of the next degree after the rank is failed
--   fails_after, rank_told   the rank within the limits, and the tests that fail after it
--   met_below       tests that are passed are so answered, or meet one past the limits
--   meets, needed   the need of too many tests, and the tests that meet one past the limits
--   rank_by_ladder  the rank by its tests
--   rank_agrees, in_limits_agrees, needs_agrees   it is the same of amounts that agree on the vertices
--   ranks_by_ladders   both ranks by their tests
use Rattle.dg_rank.proofs.Common.{◌≡◌, ℕ, zero, suc, ◌+◌, ◌<◌, ◌⊎◌, inl, inr, arith, refl, sym, ap, subst, ◌∙◌, ⊎_elim, Result, Ok, Err, cases_eq, ints, ℤ, pos, negsuc, ◌-ℤ◌, Multigraph, Amounts, DivisorsAgreeOn, minus, canonical, HasRankAtLeast, IsRank, agree-sym, equivalent-refl, loss_bounds_rank, equivalent-rank, rank_passes, Vector, at, RankVerdict, AtLeast, Below, AnswersRankTest, AreTestAnswers, PassesBelow, FailsAfter, MeetsTooMany, TestsTellRank, TestsTellBoth, IsPastLimits, IsTestable, IsTestedRank, NeedsTooMany, RankFault, TooMany}
use Rattle.std.proofs.Math.IntN.{◌+ℤ◌}
use Rattle.dg_rank.proofs.Numbering.{past_above, past_within}
use Rattle.dg_rank.proofs.RankByTests.{rank_before}

module _ (g : Multigraph) (D : Amounts) (k : ℕ) where
  passes_told : (x : Result RankVerdict RankFault) → AnswersRankTest g D k x → x ≡ Ok (AtLeast k) → HasRankAtLeast g D k
  passes_told x answers is = (rw is at answers).1.1

  loss_told : (x : Result RankVerdict RankFault) (d : Vector) → AnswersRankTest g D k x → x ≡ Ok (Below k d) →
      IsTestable g.size k × (¬ HasRankAtLeast g D k)
  loss_told x d answers is =
      let told : AnswersRankTest g D k (Ok (Below k d)) = subst (AnswersRankTest g D k) is answers in
      (told.0, λ rank. loss_bounds_rank g D k (at d) told.1.2 rank)

  past_told : (x : Result RankVerdict RankFault) → AnswersRankTest g D k x → x ≡ Err TooMany → IsPastLimits g.size k
  past_told x answers is = (rw is at answers).1

  answer_passed : (x : Result RankVerdict RankFault) → AnswersRankTest g D k x → (¬ IsPastLimits g.size k) →
      HasRankAtLeast g D k → x ≡ Ok (AtLeast k)
  answer_passed (Ok (AtLeast j)) answers within rank = ap (λ (i : ℕ). Ok (AtLeast i)) answers.1.0
  answer_passed (Ok (Below j d)) answers within rank = absurd (loss_bounds_rank g D k (at d) answers.1.2 rank)
  answer_passed (Err e) answers within rank = absurd (within answers.1)

  answer_failed : (x : Result RankVerdict RankFault) → AnswersRankTest g D k x → (¬ IsPastLimits g.size k) →
      (¬ HasRankAtLeast g D k) → (d : Vector) × (x ≡ Ok (Below k d))
  answer_failed (Ok (AtLeast j)) answers within fails = absurd (fails answers.1.1)
  answer_failed (Ok (Below j d)) answers within fails = (d, ap (λ (i : ℕ). Ok (Below i d)) answers.1.0)
  answer_failed (Err e) answers within fails = absurd (within answers.1)

  answer_past : (x : Result RankVerdict RankFault) → AnswersRankTest g D k x → IsPastLimits g.size k → x ≡ Err TooMany
  answer_past (Ok v) answers past = absurd (past_within g.size k past answers.0)
  answer_past (Err e) answers past = ap (λ (f : RankFault). Err f) answers.0

rank_fails : (g : Multigraph) (D : Amounts) (r : ℤ) (k : ℕ) → IsRank g D r → pos k ≡ r +ℤ pos 1 → ¬ HasRankAtLeast g D k
rank_fails g D (pos j) k (passes, fails) follows rank =
    let next : k ≡ j + 1 = omega (arith, ints) in
    fails (subst (HasRankAtLeast g D) next rank)
rank_fails g D (negsuc n) k (none, fails) follows rank =
    let next : k ≡ 0 = omega (arith, ints, none) in
    fails (subst (HasRankAtLeast g D) next rank)

module _ (g : Multigraph) (D : Amounts) (f : ℕ → Result RankVerdict RankFault) (answers : AreTestAnswers g D f) where
  fails_after : (r : ℤ) → IsTestedRank g D r → FailsAfter f r
  fails_after r told =
      let next = told.next in
      let within : ¬ IsPastLimits g.size next = λ past. past_within g.size next past told.within in
      let some : 0 < g.size = told.within.1.some in
      let (loss, fails) = answer_failed g D next (f next) (answers next) within (rank_fails g D r next told.is_rank told.follows)
      in record {
        next = next;
        follows = told.follows;
        passed = λ j below. answer_passed g D j (f j) (answers j)
            (λ past. within (past_above g.size j next some (omega (arith, below)) past))
            (rank_passes g D r j told.is_rank (omega (arith, ints, below, told.follows)));
        loss = loss;
        fails = fails;
      }

  rank_told : (r : ℤ) → FailsAfter f r → IsTestedRank g D r
  rank_told r ladder =
      let next = ladder.next in
      let (within, fails) = loss_told g D next (f next) ladder.loss (answers next) ladder.fails in
      let same : pos next -ℤ pos 1 ≡ r = omega (arith, ints, ladder.follows) in
      record {
        is_rank = subst (IsRank g D) same (rank_before g D next (record {
          passed = λ j below. passes_told g D j (f j) (answers j) (ladder.passed j below);
          fails = fails;
        }));
        next = next;
        follows = ladder.follows;
        within = within;
      }

  -- one more answer
  one_more : (k : ℕ) (x : Result RankVerdict RankFault) → f k ≡ x → AnswersRankTest g D k x → HasRankAtLeast g D k →
      PassesBelow f k → PassesBelow f (suc k) ⊎ MeetsTooMany f
  one_more k (Ok (AtLeast j)) is answer rank passed = inl (λ i below. ⊎_elim
      (λ (same : i ≡ k). subst (λ (m : ℕ). f m ≡ Ok (AtLeast m)) (sym same)
      (is ∙ ap (λ (m : ℕ). Ok (AtLeast m)) answer.1.0))
      (λ (other : i ≡ k → ⊥). passed i (omega (arith, below, other)))
      (cases_eq i k))
  one_more k (Ok (Below j d)) is answer rank passed = absurd (loss_bounds_rank g D k (at d) answer.1.2 rank)
  one_more k (Err e) is answer rank passed = inr (record {
    degree = k;
    passed = passed;
    past = is ∙ ap (λ (e' : RankFault). Err e') answer.0;
  })

  met_below : (k : ℕ) → ((j : ℕ) → j < k → HasRankAtLeast g D j) → PassesBelow f k ⊎ MeetsTooMany f
  met_below zero ranks = inl (λ j below. absurd (omega (arith, below)))
  met_below (suc k) ranks = ⊎_elim
      (λ (passed : PassesBelow f k). one_more k (f k) refl (answers k) (ranks k (omega arith)) passed)
      (λ (met : MeetsTooMany f). inr met)
      (met_below k (λ j below. ranks j (omega (arith, below))))

  meets : NeedsTooMany g D → MeetsTooMany f
  meets needs = ⊎_elim
      (λ (passed : PassesBelow f needs.degree). record {
        degree = needs.degree;
        passed = passed;
        past = answer_past g D needs.degree (f needs.degree) (answers needs.degree) needs.past;
      })
      (λ (met : MeetsTooMany f). met)
      (met_below needs.degree needs.passed)

  needed : MeetsTooMany f → NeedsTooMany g D
  needed met = record {
    degree = met.degree;
    past = past_told g D met.degree (f met.degree) (answers met.degree) met.past;
    passed = λ j below. passes_told g D j (f j) (answers j) (met.passed j below);
  }

pub rank_by_ladder : TestsTellRank
rank_by_ladder g D f answers =
    (λ r. (fails_after g D f answers r, rank_told g D f answers r), (meets g D f answers, needed g D f answers))

module _ (g : Multigraph) (D E : Amounts) (same : DivisorsAgreeOn g.size D E) where
  rank_agrees : (k : ℕ) → HasRankAtLeast g D k → HasRankAtLeast g E k
  rank_agrees k = (equivalent-rank g D E k (equivalent-refl g D E same)).0

module _ (g : Multigraph) (D E : Amounts) (same : DivisorsAgreeOn g.size D E) where
  is_rank_agrees : (r : ℤ) → IsRank g D r → IsRank g E r
  is_rank_agrees (pos k) (passes, fails) = (
    rank_agrees g D E same k passes,
    λ rank. fails (rank_agrees g E D (agree-sym g.size D E same) (k + 1) rank),
  )
  is_rank_agrees (negsuc n) (none, fails) =
      (none, λ rank. fails (rank_agrees g E D (agree-sym g.size D E same) 0 rank))

  in_limits_agrees : (r : ℤ) → IsTestedRank g D r → IsTestedRank g E r
  in_limits_agrees r told = record {
    is_rank = is_rank_agrees r told.is_rank;
    next = told.next;
    follows = told.follows;
    within = told.within;
  }

  needs_agrees : NeedsTooMany g D → NeedsTooMany g E
  needs_agrees needs = record {
    degree = needs.degree;
    past = needs.past;
    passed = λ k below. rank_agrees g D E same k (needs.passed k below);
  }

pub ranks_by_ladders : TestsTellBoth
ranks_by_ladders g D E f h dual answers answers' =
    let K = minus (canonical g) D in
    let back = agree-sym g.size E K dual in
    let (ranks, many) = rank_by_ladder g D f answers in
    let (ranks', many') = rank_by_ladder g E h answers' in (
      λ r. (
        λ told. ((ranks r.0).0 told.0, (ranks' r.1).0 (in_limits_agrees g K E back r.1 told.1)),
        λ ladders. ((ranks r.0).1 ladders.0, in_limits_agrees g E K dual r.1 ((ranks' r.1).1 ladders.1)),
      ),
      (
        λ needs. ⊎_elim
            (λ (own : NeedsTooMany g D). inl (many.0 own))
            (λ (other : NeedsTooMany g K). inr (many'.0 (needs_agrees g K E back other)))
            needs,
        λ met. ⊎_elim
            (λ (own : MeetsTooMany f). inl (many.1 own))
            (λ (other : MeetsTooMany h). inr (needs_agrees g E K dual (many'.1 other)))
            met,
      ),
    )
