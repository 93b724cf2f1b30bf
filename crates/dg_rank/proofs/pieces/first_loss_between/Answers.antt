use Rattle.dg_rank.proofs.Common.{◌≡◌, ◌<◌, length, arith, ap, sym, ◌∙◌, ⊎_elim, at, IsTrialBefore, IsNotBefore, IsFirstTrialIf, HasTrials}
use Rattle.dg_rank.specs.Numbering.{nth_trial}
use Rattle.dg_rank.proofs.Numbering.{limits_trial}
use Rattle.dg_rank.proofs.PieceLosses.{piece_wins, piece_loses, piece_passed}
use Rattle.dg_rank.proofs.pieces.first_loss_between.Goals as goal
use Rattle.dg_rank.proofs.pieces.first_loss_between.Goals.{After-nth-start, In_ok-loss, else-to-search-via-then-to-search+else-not-is_before, else-to-search-via-else-to-search}

inside : (c : After-nth-start) → c.args.from < c.args.search.now.count
inside c = omega (arith, c.requires.order, c.requires.within, c.if-from-to.false)

limits : (c : After-nth-start) →
    HasTrials c.args.search.now.graph.size c.args.search.now.k c.args.search.now.count
limits c = ⊎_elim
    (λ (none : c.args.search.now.count ≡ 0). absurd (omega (arith, inside c)))
    (λ (all : HasTrials c.args.search.now.graph.size c.args.search.now.k c.args.search.now.count). all)
    c.requires.search.limits

start : (c : After-nth-start) →
    c.nth-start.result ≡ nth_trial c.args.search.now.graph.size c.args.search.now.k c.args.from
start c = rw c.size-size.ensures.size at c.nth-start.ensures

pub first_loss-requires-clause-start : goal.first_loss-requires-clause-start
first_loss-requires-clause-start c =
    let d = (goal.at.first_loss-requires-clause-start c).After-nth-start in
    rw (start d) (limits_trial _ _ _ c.args.from (limits d) (inside d))

pub returns-in_err-loss : goal.returns-in_err-loss
returns-in_err-loss c =
    let s = c.args.search.now in
    let d = (goal.at.returns-in_err-loss c).After-nth-start in
    rw c.from_residual.ensures (piece_wins s.graph (at s.chips) s.k s.count c.args.from (limits d) (inside d) c.args.to
    c.requires.within (rw (start d) at c.in_err-loss.ensures))

first : (c : In_ok-loss) → IsFirstTrialIf c.args.search.now.graph (at c.args.search.now.chips) c.args.search.now.k 0
    (IsNotBefore c.args.search.now.graph.size (nth_trial c.args.search.now.graph.size c.args.search.now.k c.args.from))
    c.in_ok-loss.loss
first c = rw (start (goal.at.In_ok-loss c).After-nth-start) at c.in_ok-loss.ensures

pub is_before-requires : goal.is_before-requires
is_before-requires c =
    let d = goal.at.is_before-requires c in
    let next = rw c.size-size.ensures.size at c.nth.ensures in
    let low : c.args.to < c.args.search.now.count = omega (arith, c.if-to-search.true) in
    ap length next ∙ (limits_trial _ _ _ c.args.to (limits d.After-nth-start) low).places
    ∙ sym (first d.In_ok-loss).places

pub returns-then-not-is_before : goal.returns-then-not-is_before
returns-then-not-is_before c =
    let s = c.args.search.now in
    let d = goal.at.returns-then-not-is_before c in
    let p = d.After-nth-start in
    piece_passed s.graph (at s.chips) s.k s.count c.args.from (limits p) (inside p) c.args.to c.in_ok-loss.loss
    (omega (arith, c.if-to-search.true)) (first d.In_ok-loss)
    (rw (c.nth.ensures, c.size-size.ensures.size) at c.if-not-is_before.ensures)

pub returns : goal.returns
returns c =
    let s = c.args.search.now in
    let d = goal.at.returns c in
    let p = d.After-nth-start in
    let before : c.args.to < s.count → IsTrialBefore c.in_ok-loss.loss (nth_trial s.graph.size s.k c.args.to) =
    elim c.else-to-search.branch [
      | else-to-search-via-then-to-search+else-not-is_before w ↦ λ _.
          rw (w.nth.ensures, c.size-size.ensures.size) at w.if-not-is_before.ensures
      | else-to-search-via-else-to-search w ↦ λ inner. absurd (omega (arith, inner, w.if-to-search.false))
    ] in
    piece_loses s.graph (at s.chips) s.k s.count c.args.from (limits p) (inside p) c.args.to c.in_ok-loss.loss c.requires.within
    (first d.In_ok-loss) before
