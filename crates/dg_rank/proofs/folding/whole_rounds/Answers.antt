use Rattle.dg_rank.proofs.Common.{◌≡◌, ap, ◌∙◌, ℤ, pos, rules, w32, of_z, to_z}
use Rattle.std.specs.Int.{int_div_euclid}
use Rattle.std.proofs.lemmas.Int.{to_z-of_z}
use Rattle.dg_rank.proofs.Leaves.{told_rounds}
use Rattle.dg_rank.proofs.folding.whole_rounds.Goals as goal

pub returns : goal.returns
returns c =
    let once : to_z w32 (of_z w32 c.from-once.result) ≡ pos c.args.edges =
    to_z-of_z w32 c.from-once.result (search rules) ∙ c.from-once.ensures in
    let times : to_z w32 (of_z w32 c.div_euclid.result) ≡ int_div_euclid c.args.amount (pos c.args.edges) =
    to_z-of_z w32 c.div_euclid.result (search rules) ∙ c.div_euclid.ensures
    ∙ ap (λ (x : ℤ). int_div_euclid x (to_z w32 (of_z w32 c.from-once.result)))
    (to_z-of_z w32 c.args.amount c.ranges.amount) ∙ ap (int_div_euclid c.args.amount) once in
    told_rounds c.checked_mul.result c.args.edges c.args.amount (to_z w32 (of_z w32 c.from-once.result))
    (to_z w32 (of_z w32 c.div_euclid.result)) _ c.requires once times c.checked_mul.ensures
