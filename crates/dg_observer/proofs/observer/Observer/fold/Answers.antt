use Rattle.dg_observer.proofs.Common.{◌≡◌, ◌<◌, ◌+◌, ℕ, List, [], ◌∷◌, ◌++◌, length, map, arith, sym, ap, subst, ◌∙◌, length-append, length-map, map-append, Entry, Observed}
use Rattle.dg_observer.proofs.Reading.{folds_more, numbered_more}
use Rattle.dg_observer.proofs.observer.Observer.fold.Goals as goal

pub invariant_of-self-2 : goal.invariant_of-self-2
invariant_of-self-2 g c =
    let ps : List (ℕ × Entry) = c.self.inside.receipts.items in
    let p : ℕ × Entry = c.args.receipt in
    let (folds, numbered, cells, few) = c.self.invariant in
    let longer : c.push.new.self.items ≡ ps ++ p ∷ [] = c.in_ok-push.ensures.items in
    let entries : map (λ (x : ℕ × Entry). x.1) ps ≡ c.args.self.now.entries =
    ap (λ (o : Observed _ _). o.entries) c.self.view_is in
    let step : c.self.inside.step ≡ c.args.self.now.step = ap (λ (o : Observed _ _). o.step) c.self.view_is in
    let counted : length (map (λ (x : ℕ × Entry). x.1) ps) ≡ length ps = length-map ps (λ (x : ℕ × Entry). x.1) in
    let number : p.0 ≡ length ps = c.requires.number ∙ ap length (sym entries) ∙ counted in
    let room : length ps < length g.N.Name.names.cells =
    subst (λ (n : ℕ). n < length g.N.Name.names.cells) (ap length (sym entries) ∙ counted) c.requires.cell in
    let count : length (ps ++ p ∷ []) ≡ length ps + 1 = length-append ps (p ∷ []) in
    let last : map (λ (x : ℕ × Entry). x.1) (ps ++ p ∷ []) ≡ map (λ (x : ℕ × Entry). x.1) ps ++ p.1 ∷ [] =
    map-append (λ (x : ℕ × Entry). x.1) ps (p ∷ []) in
    rw (longer, last) (
      folds_more g.W.Watch.begins g.W.Watch.goes_on
          (map (λ (x : ℕ × Entry). x.1) ps) c.self.inside.state p.1 c.in_ok-next.next folds
          (rw c.requires.entry (c.requires.keeps _ _ c.in_ok-next.next (rw step at c.in_ok-next.ensures))),
      numbered_more ps p numbered number,
      (omega (arith, count, room)),
      (omega (arith, count, room, c.requires.few)),
    )
