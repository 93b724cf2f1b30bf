-- The names that the proofs of this crate cite, passed on from one place. Declares nothing.
pub use Rattle.dg_chips.specs.Starts.{StartData}
pub use Rattle.dg_rules.proofs.LegalLaws.{legal_none}
pub use Rattle.dg_rules.proofs.ListLaws.{more_holds}
pub use Rattle.dg_rules.proofs.LookLaws.{look_fits, look_kept, look_new, look_vertices}
pub use Rattle.dg_rules.proofs.StateLaws.{right_in}
pub use Rattle.dg_rules.proofs.StepLaw.{vertices_stay}
pub use Rattle.dg_rules.specs.Legal.{IsLegal, IsSeatNumber}
pub use Rattle.dg_rules.specs.Look.{IsLookAt}
pub use Rattle.dg_rules.specs.Requests.{call_request}
pub use Rattle.dg_rules.specs.State.{LeadsTo, GameState}
pub use Rattle.dg_rules.specs.declared.entry.Entry.{Entry}
pub use Rattle.dg_rules.specs.declared.entry.Plain.{Plain}
pub use Rattle.dg_rules.specs.declared.game.TheConstants.{MAX_ENTRIES}
pub use Rattle.dg_rules.specs.declared.look.LookData.{LookData}
pub use Rattle.dg_rules.specs.declared.step.Command.{Command}
pub use Rattle.dg_rules.specs.declared.step.Command.TheVariants.{Call, Commit, Rank}
pub use Rattle.dg_rules.specs.declared.step.Step.{Step}
pub use Rattle.dg_rank.specs.Limits.{IsPastLimits}
pub use Rattle.dg_game.specs.Rehearsal.{IsRehearsalAfter, KeepsLook, PlaysStep, RefusesStep}
pub use Rattle.dg_game.specs.Schedule.{AreGoodBefore, HasLook, HasTrials, IsStepRequest, IsStepEntry, IsGoodStep, KeepsLookAt, ChangesKeptLook, UsesUpLook}
pub use Rattle.dg_game.specs.ScheduleFaults.{IsRehearsalFault}
pub use Rattle.dg_game.specs.declared.schedule.Rehearsal.{Rehearsal}
pub use Rattle.dg_game.specs.declared.schedule.RehearseFault.{RehearseFault}
pub use Rattle.dg_game.specs.declared.schedule.RehearseFault.TheVariants.{TooMany}
pub use Rattle.dg_theory.specs.Multigraph.{Multigraph}
pub use Rattle.std.proofs.Common.{Err, List, None, Ok, Option, Result, Some, [], ap, arith, inl, inr, length, length-append, length-set, refl, replicate, rules, set, slice_get, subst, sym, vec_capacity, ℕ, ◌++◌, ◌+◌, ◌<◌, ◌∙◌, ◌∷◌, ◌≡◌, ◌≤◌}
pub use Rattle.std.proofs.lemmas.Bool.{cases_eq, cases_lt}
pub use Rattle.std.proofs.lemmas.List.{get_or-replicate, get_or-set_other, get_or-set_same, length-replicate}
pub use Rattle.std.proofs.lemmas.Option.{slice_get_read}
pub use Rattle.std.proofs.lemmas.Result.{MatchResult-weaker}
pub use Rattle.std.specs.List.{slice_index_or}
pub use Rattle.std.specs.Prelude.{min}
pub use Rattle.std.specs.Result.{IsErrAnd, MatchResult}
