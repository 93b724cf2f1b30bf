use Rattle.dg_rules.proofs.Common.{◌≡◌, ℕ, ◌<◌, arith, sym, ap, subst, ◌∙◌, Multigraph, size_stays, GameState}
use Rattle.dg_rules.specs.Common.{IsApplicableMove}
use Rattle.dg_rules.proofs.StateLaws.{one_entry, moved_a_move}
use Rattle.dg_rules.proofs.game.Game.update.Goals as goal

pub invariant_of-self-in-Joined : goal.invariant_of-self-in-Joined
invariant_of-self-in-Joined c =
    let (is, graph, joinable) = c.in-Ok.ensures in
    let (before, right) = c.requires.right in
    let right' = rw (c.in-Join.is, c.in-Joined.is) at right in
    let size : c.in-Ok.joined.size ≡ c.self.inside.graph.size =
    ap (λ (g : Multigraph). g.size) is ∙ size_stays c.self.inside.graph c.in-Join.u c.in-Join.v in
    record {
      graph = graph;
      vertex = omega (arith, size, c.self.invariant.vertex);
      size = c.self.invariant.size ∙ sym size;
      divisor = c.self.invariant.divisor;
      drift_size = c.self.invariant.drift_size ∙ sym size;
      drift_limit = λ v below.
          let inside : v < c.self.inside.graph.size = subst (λ (n : ℕ). v < n) size below in
          omega (arith, c.self.invariant.drift_limit v inside);
      gifts = omega (arith, right'.count', c.self.invariant.gifts, ap (λ (s : GameState). s.gifts) c.self.view_is);
      entries = omega (arith, c.requires.room, ap (λ (s : GameState). s.entries) c.self.view_is);
    }

pub plus-self-inside-requires-clause-playable : goal.plus-self-inside-requires-clause-playable
plus-self-inside-requires-clause-playable c =
    let (before, right) = c.requires.right in
    let right' = rw (c.in-Move.is, c.in-Moved.is) at right in
    subst (λ (s : GameState). IsApplicableMove s.graph.size c.in-Move.made) (sym c.self.view_is) right'.playable

pub returns-in_default : goal.returns-in_default
returns-in_default c =
    let (before, right) = c.requires.right in
    absurd (moved_a_move _ _ _ _ _ c.in-Moved.amounts (rw c.in-Moved.is at right) c.in_default.not-Move)

pub invariant_of-self-in_default : goal.invariant_of-self-in_default
invariant_of-self-in_default c = one_entry _ _ c.self.invariant c.self.view_is c.requires.room

pub invariant_of-self-in-Looked : goal.invariant_of-self-in-Looked
invariant_of-self-in-Looked c = one_entry _ _ c.self.invariant c.self.view_is c.requires.room

pub invariant_of-self-in-Looked-2 : goal.invariant_of-self-in-Looked-2
invariant_of-self-in-Looked-2 c = one_entry _ _ c.self.invariant c.self.view_is c.requires.room

pub invariant_of-self-in-Looked-3 : goal.invariant_of-self-in-Looked-3
invariant_of-self-in-Looked-3 c = one_entry _ _ c.self.invariant c.self.view_is c.requires.room

pub invariant_of-self-in-Looked-4 : goal.invariant_of-self-in-Looked-4
invariant_of-self-in-Looked-4 c = one_entry _ _ c.self.invariant c.self.view_is c.requires.room

pub invariant_of-self-in-Looked-5 : goal.invariant_of-self-in-Looked-5
invariant_of-self-in-Looked-5 c = one_entry _ _ c.self.invariant c.self.view_is c.requires.room

pub invariant_of-self-in-Looked-6 : goal.invariant_of-self-in-Looked-6
invariant_of-self-in-Looked-6 c = one_entry _ _ c.self.invariant c.self.view_is c.requires.room

pub invariant_of-self-in-Looked-7 : goal.invariant_of-self-in-Looked-7
invariant_of-self-in-Looked-7 c = one_entry _ _ c.self.invariant c.self.view_is c.requires.room
