use Rattle.dg_observer.proofs.Common.{◌≡◌, ◌++◌, ◌-◌, List, length}
use Rattle.dg_rules.specs.declared.entry.Entry.{Entry as EntryData}
use Rattle.dg_observer.proofs.observer.Observer.catch_up.Given as goal

abbrev pub invariant-entries : goal.invariant-entries
invariant-entries g l = (l.self.step ≡ l.initial.self.step) ×
    (es : List EntryData) × (l.self.entries ≡ l.initial.self.entries ++ es)

abbrev pub decreases-entries : goal.decreases-entries
decreases-entries g l = length g.N.Name.names.cells - length l.self.entries
