-- Verdicts that are printed.
--   burning-vertices  an order in which all vertices burn is one of vertices
--   judged-named      a verdict on a table with names has names in its order
use Rattle.dg_lines.proofs.Common.{◌≡◌, ℕ, zero, suc, ◌<◌, List, length, take, sym, ap, subst, ◌∙◌, slice_index_or, slice_get-get_or, Multigraph, Amounts, IsBurningOrder, Verdict, IsVerdictOn, VerdictHasNames}
use Rattle.std.proofs.Common.{All}
use Rattle.std.specs.Prelude.{Option, Some, unwrap_or}

burning-vertices : (g : Multigraph) (q : ℕ) (D : Amounts) (l : List ℕ) → q < g.size → IsBurningOrder g q D l →
    All (λ v. v < g.size) l
burning-vertices g q D l vertex burns zero d some =
    let first : Some q ≡ Some (slice_index_or l 0 d) = sym burns.first ∙ slice_get-get_or l 0 d some in
    subst (λ (v : ℕ). v < g.size) (ap (λ (o : Option ℕ). unwrap_or o q) first) vertex
burning-vertices g q D l vertex burns (suc i) d some =
    (burns.next i (slice_index_or l (suc i) d) (slice_get-get_or l (suc i) d some)).vertex

pub judged-named : (names : List (List ℕ)) (g : Multigraph) (q : ℕ) (D : Amounts) (x : Verdict) → length names ≡ g.size →
    q < g.size → IsVerdictOn g q D x → VerdictHasNames names x
judged-named names g q D x fit vertex found = record {
  script = fit ∙ sym found.right.script_size;
  reduced = fit ∙ sym found.right.reduced_size;
  order = subst (λ (n : ℕ). All (λ (v : ℕ). v < n) (take n x.order)) (sym fit)
      (burning-vertices g q _ (take g.size x.order) vertex found.right.order);
}
