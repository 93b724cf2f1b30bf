use Rattle.dg_reduce.proofs.Common.{◌≡◌, ℕ, ◌<◌, arith, ap, refl, ◌∙◌, w128, to_z, of_z, ℤ, ◌+ℤ◌, fired, indicator, multiple, in_set, at, times_held}
use Rattle.dg_reduce.proofs.Ties.{tied-more}
use Rattle.dg_reduce.proofs.walk.FiringTrace.fired.Goals as goal

pub returns : goal.returns
returns c =
    let held : to_z w128 (of_z w128 c.args.times) ≡ c.args.times = times_held c.args.times c.requires.times in
    let now : (v : ℕ) → v < c.args.graph.now.size →
    at c.fired.result v ≡ fired c.args.graph.now (at c.args.self.now.chips)
    (multiple c.args.times (indicator (in_set c.args.set))) v =
    λ v inside. c.fired.ensures.amounts v inside
    ∙ ap (λ (k : ℤ). fired c.args.graph.now (at c.args.self.now.chips) (multiple k (indicator (in_set c.args.set))) v)
    held in
    let more : (v : ℕ) → v < c.args.graph.now.size →
    at c.plus_at_set.result v ≡ at c.args.self.now.script v +ℤ multiple c.args.times (indicator (in_set c.args.set)) v =
    λ v inside. c.plus_at_set.ensures.amounts v (omega (arith, c.requires.tied.script_size))
    ∙ ap (λ (k : ℤ). at c.args.self.now.script v +ℤ multiple k (indicator (in_set c.args.set)) v) held in
    record {
      tied = record {
        start_size = c.requires.tied.start_size;
        chips_size = c.fired.ensures.size;
        script_size = c.plus_at_set.ensures.size ∙ c.requires.tied.script_size;
        led = tied-more c.args.graph.now (at c.args.self.now.start) (at c.args.self.now.chips) (at c.fired.result)
            (at c.args.self.now.script) (at c.plus_at_set.result) (multiple c.args.times (indicator (in_set c.args.set)))
            c.requires.tied.led now more;
      };
      begun = refl;
      chips = now;
      script = more;
    }
