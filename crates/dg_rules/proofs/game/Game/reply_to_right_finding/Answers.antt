use Rattle.dg_rules.proofs.Common.{◌≡◌, List, arith, ap, subst, slice_index_or, ℤ, pos, at, IsRightVerdict, GameState}
use Rattle.dg_rules.proofs.LookLaws.{moved_since, judged_after, ranked_after, look_size}
use Rattle.dg_rules.proofs.game.Game.reply_to_right_finding.Goals as goal

pub verdict_now-carried-requires-clause-size : goal.verdict_now-carried-requires-clause-size
verdict_now-carried-requires-clause-size c = let (o, H, leads, look) = c.requires.look in look_size o H _ _ leads look

pub verdict_now-carried-requires-clause-led : goal.verdict_now-carried-requires-clause-led
verdict_now-carried-requires-clause-led c =
    let (o, H, leads, look) = c.requires.look in
    let (graph, t, led) =
    moved_since o H _ _ leads look (omega (arith, c.if-self-look.false, ap (λ (s : GameState). s.gifts) c.self.view_is)) in
    (t, led)

pub verdict_now-carried-requires-clause-right : goal.verdict_now-carried-requires-clause-right
verdict_now-carried-requires-clause-right c =
    let (o, H, leads, look) = c.requires.look in
    let (graph, t, led) =
    moved_since o H _ _ leads look (omega (arith, c.if-self-look.false, ap (λ (s : GameState). s.gifts) c.self.view_is)) in
    rw graph (rw c.in-Judged.is at c.requires.found)

pub returns-then-is_at-clause-replies : goal.returns-then-is_at-clause-replies
returns-then-is_at-clause-replies c = λ o H leads look.
    let same : c.args.self.now.gifts ≡ c.args.look.now.gifts =
    omega (arith, c.if-self-look.false, ap (λ (s : GameState). s.gifts) c.self.view_is) in
    let (graph, t, led) = moved_since o H _ _ leads look same in
    let found : IsRightVerdict c.args.self.now.graph c.args.self.now.q (at c.args.look.now.position) c.in-Judged.verdict =
    rw graph (rw c.in-Judged.is at c.requires.found) in
    let right = subst (λ (l : List ℤ). IsRightVerdict c.args.self.now.graph c.args.self.now.q
    (λ v. slice_index_or l v (pos 0)) c.in-Judged.verdict) c.if-is_at.ensures found in
    rw c.in-Judged.is (judged_after o H _ _ c.in-Judged.verdict leads look same right)

pub returns-else-is_at-clause-replies : goal.returns-else-is_at-clause-replies
returns-else-is_at-clause-replies c = λ o H leads look.
    rw c.in-Judged.is (judged_after o H _ _ c.verdict_now-carried.result leads look
    (omega (arith, c.if-self-look.false, ap (λ (s : GameState). s.gifts) c.self.view_is))
    c.verdict_now-carried.ensures.right)

pub returns-in-Ranked-clause-replies : goal.returns-in-Ranked-clause-replies
returns-in-Ranked-clause-replies c = λ o H leads look.
    let same : c.args.self.now.gifts ≡ c.args.look.now.gifts =
    omega (arith, c.if-self-look.false, ap (λ (s : GameState). s.gifts) c.self.view_is) in
    rw c.in-Ranked.is (ranked_after o H _ _ _ c.in-Ranked.verdict leads look same
    (rw c.in-Ranked.is at c.requires.found))
