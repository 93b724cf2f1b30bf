-- The names that the proofs of this crate cite, passed on from one place. Declares nothing.
pub use Rattle.dg_rules.proofs.ListLaws.{more_holds}
pub use Rattle.dg_rules.specs.declared.entry.Entry.{Entry}
pub use Rattle.dg_observer.specs.Folds.{AreNumbered, Folds, Observed}
pub use Rattle.std.proofs.Common.{List, [], ap, arith, inl, inr, length, length-append, map, refl, subst, sym, ℕ, ◌++◌, ◌+◌, ◌-◌, ◌<◌, ◌∙◌, ◌∷◌, ◌≡◌}
pub use Rattle.std.proofs.lemmas.List.{length-map, map-append}
pub use Rattle.std.specs.List.{FoldsTo}
