use Rattle.dg_burn.proofs.Common.{◌≡◌, ℕ, Bool, true, false, not, ◌&&◌, refl, sym, ap, ◌∙◌, nat_lt, ltb-true, and_parts, in_set, in_set-none}
use Rattle.dg_burn.proofs.fire.Fire.new.Goals as goal

and_opposite : (b : Bool) → (b && not (b && not false)) ≡ false
and_opposite true = refl
and_opposite false = refl

pub returns : goal.returns
returns c =
    let all : (v : ℕ) → in_set c.complement.result v ≡ (nat_lt v c.args.graph.now.size && not (in_set 0 v)) =
    λ v. c.complement.ensures v ∙ ap (λ n. nat_lt v n && not (in_set 0 v)) c.size.ensures.size in
    record {
      inside = λ v member.
          ltb-true v c.args.graph.now.size (and_parts (nat_lt v c.args.graph.now.size) _ (sym (all v) ∙ member)).0;
      none_burns = λ v. rw (all v, in_set-none v) (and_opposite (nat_lt v c.args.graph.now.size));
      cold = c.initial_heat.ensures;
    }
