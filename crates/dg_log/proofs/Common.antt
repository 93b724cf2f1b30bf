-- The names that the proofs of this crate cite, passed on from one place. Declares nothing.
pub use Rattle.dg_log.specs.Rolls.{IsBlankRoll, claim_owns, coded_tally, first_halves, roll_owns, unclaimed_halves}
pub use Rattle.dg_rules.specs.declared.entry.Entry.{Entry}
pub use Rattle.dg_log.specs.Numbered.{IsLongerPrefix, IsPrefixOf, AreBelow, StandIn}
pub use Rattle.dg_log.specs.ReceiptSets.{AreNamed, IsSetEnd, entries_of}
pub use Rattle.dg_log.specs.Witnesses.{AgreeOnCells, AgreesOnCell, noted_cells}
pub use Rattle.dg_log.specs.Written.{Written}
pub use Rattle.dg_log.specs.contracts.witness.Witness.{the_row}
pub use Rattle.dg_log.specs.contracts.witness.Witness.agrees.{clauses, ended}
pub use Rattle.once_cell.proofs.Notes.{noted_agree, noted_twice}
pub use Rattle.once_cell.specs.Once.{cell_name, mark, noted}
pub use Rattle.std.proofs.Common.{List, [], ap, arith, get_or, inl, inr, length, length-append, map, refl, rules, subst, suc, sym, take, unwrap_or, w32, zero, ℕ, ◌++◌, ◌+◌, ◌<◌, ◌∙◌, ◌∷◌, ◌≡◌, ◌≤◌}
pub use Rattle.std.proofs.lemmas.Bool.{cases_lt}
pub use Rattle.std.proofs.lemmas.Bool.Decides.{nat_tests}
pub use Rattle.std.proofs.lemmas.List.{append-nil, length-map}
pub use Rattle.std.proofs.lemmas.Option.{slice_get-map, slice_get_read, slice_get_within}
pub use Rattle.std.proofs.raw_atomic.Walks.{leaves, proved}
pub use Rattle.std.specs.List.{slice_get, slice_set}
pub use Rattle.std.specs.Option.{option_map}
pub use Rattle.std.specs.Vec.{vec_len}
pub use Rattle.std.specs.declared.alloc.Global.{Global}
pub use Rattle.std.specs.declared.option.Option.{Option}
pub use Rattle.std.specs.declared.option.Option.TheVariants.{Some}
pub use base.Before.{before}
pub use base.Fml.{Fml, Lft, Share, fauth, fbor, flft, fobs, fsep, ftrue}
pub use base.Logic.{SProp, all, all_e, apply∗, emp, emp∗, ent, ex, guard, never_e, sep, snd∗, via, wand}
pub use base.Shift.{Keyless}
pub use contract.Monad.{fact, fact_i, fact_mono, fact_use}
pub use contract.Running.{tables}
pub use denote.Builtin.{RefOf, u32}
pub use denote.Exit.{yes}
pub use denote.Opens.{unhide}
pub use denote.Param.{layouts, param}
pub use denote.Param.Laws.{Laws}
pub use denote.Param.Send.{IsSend, IsSync, sendable}
pub use denote.Param.Shared.{copy_shared}
pub use denote.Plain.{uint_Tells, uint_vals}
pub use denote.RattleType.{RattleType, owns}
pub use denote.Ref.{mut_Tells, mut_vals, shr_Tells, shr_vals}
pub use denote.Shadow.{makes_shadow}
pub use denote.Sharing.{said}
pub use denote.Signature.{plain, types_at}
pub use denote.Steps.{closes, heard, nothing, opens}
pub use denote.Struct.Laws.{field_copy}
pub use denote.Struct.Lending.{Lends, of_Lends}
pub use denote.Struct.Owning.{shape}
pub use denote.Struct.Struct.{Struct}
pub use denote.Triple.Entry.{alive}
pub use denote.Triple.Walked.{Goes-dropped, Goes-ref, Stays, stay_dropped, stay_ref, walk_of}
pub use mir.MapTy.{inst_fn}
pub use mir.Syntax.{a_type, named}
pub use mir.Val.{Val, vcons, vint, vnil, vptr, vstruct, vunit}
pub use native.Mathlib.Decide.{ℕ_discrete}
pub use seplogic.Ra.Ura.{Ura}
pub use types.ByLocal.{alloc_all, free_all, get, look_at, pass_all, sets}
pub use types.Kit.{ !, await, by, check, done, drop, feq_i, fjoin, fjoin3, fsplit, fsplit3, given, join, keep, later, learn, move, now, pick, qed, raw, rewrite, show, some, split, split3, updating, use0, use1, use2, ‵, ◌$◌, ◌∵◌, ◌⊛◌}
pub use types.Logic.{Logic, lfts, sem}
pub use types.Part.{agg}
pub use types.Tokens.{name_agree, name_new, name_set}
pub use types.Run.{and_then, enter, no_more, of_opd, returns, unit_lit}
