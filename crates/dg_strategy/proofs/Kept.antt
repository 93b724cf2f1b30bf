-- What the conditions on a closure come to for what it may choose.
--   GivesMoves A     each move that A has can be made
--   SettlesDebts A   each move that A has is a borrowing by a vertex in debt, and A has no move only
--                    if nobody is in debt
--   moves_given      so it is of a strategy's closure
--   settles_given    so it is of a settler's
use Rattle.std.specs.Borrow.{Bor}
use Rattle.dg_theory.specs.Multigraph.{Multigraph}
use Rattle.dg_strategy.specs.Choices.{Chooses, GivesPlayable, ChoosesBorrowings, GivesClaims}
use Rattle.dg_strategy.proofs.Common.{◌≡◌, Option, Some, None, sym, subst, at, IsEffective, IsGraph, IsApplicableMove, Move, Vector, Choosing, BorrowsInDebt}

abbrev pub GivesMoves : Choosing → Type 0
GivesMoves A = (g : Multigraph) (d : Vector) (m : Move) → IsGraph g → d.size ≡ g.size → A g d (Some m) → IsApplicableMove g.size m

pub record SettlesDebts (A : Choosing) : Type 0 where
  pub moves : (g : Multigraph) (d : Vector) (m : Move) → IsGraph g → d.size ≡ g.size →
      A g d (Some m) → BorrowsInDebt d m
  pub claims : (g : Multigraph) (d : Vector) → IsGraph g → d.size ≡ g.size → A g d None →
      IsEffective g.size (at d)

module _ (post : Bor Multigraph → Bor Vector → Option Move → Type 0) where
  sizes : (g : Multigraph) (d : Vector) (p : Bor Multigraph) (q : Bor Vector) → p.now ≡ g → q.now ≡ d →
      d.size ≡ g.size → q.now.size ≡ p.now.size
  sizes g d p q at_g at_d size = rw (at_g, at_d) size

  pub moves_given : GivesPlayable post → GivesMoves (Chooses post)
  moves_given gives g d m graph size (p, q, at_g, at_d, may) =
      subst (λ (h : Multigraph). IsApplicableMove h.size m) at_g
      (gives p q m (subst IsGraph (sym at_g) graph) (sizes g d p q at_g at_d size) may)

  pub settles_given : ChoosesBorrowings post → GivesClaims post → SettlesDebts (Chooses post)
  settles_given borrows claims = record {
    moves = λ g d m graph size (p, q, at_g, at_d, may). subst (λ (x : Vector). BorrowsInDebt x m) at_d
        (borrows p q m (subst IsGraph (sym at_g) graph) (sizes g d p q at_g at_d size) may);
    claims = λ g d graph size (p, q, at_g, at_d, may). subst (λ (x : Vector). IsEffective g.size (at x)) at_d
        (subst (λ (h : Multigraph). IsEffective h.size (at q.now)) at_g
        (claims p q (subst IsGraph (sym at_g) graph) (sizes g d p q at_g at_d size) may));
  }
