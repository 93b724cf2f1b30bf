-- The names that the proofs of this crate cite, passed on from one place. Declares nothing.
pub use Rattle.dg_system.specs.AllHeld.{IsFirstUnread, MayHoldAll}
pub use Rattle.dg_system.specs.Held.{Held, MayHold, IsSourceFault}
pub use Rattle.dg_system.specs.declared.sources.SourceFault.{SourceFault}
pub use Rattle.dg_system.specs.declared.sources.SourceFault.TheVariants.{OutOfMemory}
pub use Rattle.std.proofs.Common.{Bor, Global, IfSome, List, None, Option, Some, Vec, [], ap, append-nil, append_assoc, arith, drop, length, map, refl, rules, subst, sym, take, ℕ, ◌++◌, ◌+◌, ◌-◌, ◌<◌, ◌∙◌, ◌∷◌, ◌≡◌, ◌≤◌}
pub use Rattle.std.proofs.Math.Seq.{take-add}
pub use Rattle.std.proofs.lemmas.List.{length-drop, length-take, length-take-le, map-append, take-append-drop, take_all, take_more}
pub use Rattle.std.specs.Io.KnownBytes.{Appends, Consumes, Keeps}
pub use Rattle.std.specs.Option.{option_map}
