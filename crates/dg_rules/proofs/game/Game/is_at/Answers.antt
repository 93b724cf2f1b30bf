use Rattle.dg_rules.proofs.Common.{◌≡◌, Bool, true, false, ap, refl, sym, ◌∙◌, OnTrue, and_parts, Decides-int_eq, slice_eq-Decides, GameState}
use Rattle.dg_rules.proofs.game.Game.is_at.Goals as goal

on-true : (b : Bool) (P : Type 0) → (b ≡ true → P) → OnTrue b P
on-true true P then = then refl
on-true false P then = tt

pub returns : goal.returns
returns c = on-true c.eq.result _ (λ equal.
    (slice_eq-Decides Decides-int_eq c.args.then.now.numbers c.self.inside.amounts.numbers _ refl).0
    ((and_parts _ _ (sym c.eq.ensures ∙ equal)).1)
    ∙ ap (λ (s : GameState). s.amounts.numbers) c.self.view_is)
