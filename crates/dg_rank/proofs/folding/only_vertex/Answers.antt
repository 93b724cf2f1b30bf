use Rattle.dg_rank.proofs.Common.{◌≡◌, sym, ◌∙◌, ⊎_elim, true, cases_eq, both_ways, in_set, in_set-none}
use Rattle.dg_rank.proofs.folding.only_vertex.Goals as goal

pub returns : goal.returns
returns c = record {
  here = c.in_ok-v.ensures.here;
  only = λ w member. ⊎_elim
      (λ (same : w ≡ c.in_ok-v.v). same)
      (λ (other : w ≡ c.in_ok-v.v → ⊥).
      let kept : in_set c.without_vertex.result w ≡ true = sym (c.without_vertex.ensures.others w other) ∙ member in
      absurd (both_ways _ (in_set-none w) (rw c.if-without_vertex-ne0.false at kept)))
      (cases_eq w c.in_ok-v.v);
}
