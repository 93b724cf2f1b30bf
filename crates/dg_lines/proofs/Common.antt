-- The names that the proofs of this crate cite, passed on from one place. Declares nothing.
pub use Rattle.dg_chips.specs.Starts.{StartData}
pub use Rattle.dg_chips.proofs.VectorLaws.{one_vector}
pub use Rattle.dg_chips.specs.Vector.{HoldsNumbers, IsScriptVector, Vector, at}
pub use Rattle.dg_chips.specs.declared.script.TheConstants.{MAX_ENTRY}
pub use Rattle.dg_chips.specs.declared.moves.Move.{Move}
pub use Rattle.dg_chips.specs.declared.moves.Move.TheVariants.{Borrow, Fire, Script}
pub use Rattle.dg_rules.proofs.LegalLaws.{legal_sized}
pub use Rattle.dg_rules.specs.Legal.{IsLegal}
pub use Rattle.dg_rules.specs.LegalLaws.{IsSizedReply}
pub use Rattle.dg_rules.specs.declared.entry.Entry.{Entry}
pub use Rattle.dg_rules.specs.declared.entry.Plain.TheVariants.{Claim, Gift, Join, Look}
pub use Rattle.dg_rules.specs.declared.step.Command.{Command}
pub use Rattle.dg_rules.specs.declared.step.Command.TheVariants.{Call, Commit, Rank}
pub use Rattle.dg_rules.specs.declared.step.Step.{Step}
pub use Rattle.dg_lines.specs.CommandWords.{AreDistinctNames, HaveDistinctNames, AreNumerals, IsWordNumeral, IsNumeralWithin, IsSpelledScript, SpellsScript, IsSpelledSet, WordKind, degree, dollars, item_name, item_number, vertex, vertices}
pub use Rattle.dg_lines.specs.Commands.{SpellsCommand, IsWellFormed, Means, kinds_on_line, wanted_kinds, wanted_words}
pub use Rattle.dg_lines.specs.Cuts.{items, cons_to_first, pieces_after, words, words_after}
pub use Rattle.dg_lines.specs.Judgements.{VerdictHasNames, burning_text}
pub use Rattle.dg_lines.specs.Keywords.{AreWords, IsBadScript, keyword_kinds, spelling}
pub use Rattle.dg_lines.specs.LineFaults.{AreRefusedWords, IsLineFault}
pub use Rattle.dg_lines.specs.LineLaws.{IsDigit, IsNumeral, IsShortNumber, IsUnsignedNumeral, LineMeaningIsUnique, NumeralsAreDecimals, StepMeaningIsUnique}
pub use Rattle.dg_lines.specs.Schedules.{AreStepsOf, StepsHaveSeats}
pub use Rattle.dg_lines.specs.Steps.{IsSeatedLine, IsStepFault, IsStepLine, IsTextFault}
pub use Rattle.dg_lines.specs.Streams.{BeginsWithLines, HasNoNewline, LinesHaveCome, last_line, with_newline}
pub use Rattle.dg_lines.specs.Texts.{RepliesHaveNames, entry_text, pair, rank_text, verdict_text, verdict_word}
pub use Rattle.dg_lines.specs.declared.command.Keyword.{Keyword}
pub use Rattle.dg_lines.specs.declared.command.Keyword.TheVariants.{Lend}
pub use Rattle.dg_lines.specs.declared.line.LineFault.{LineFault}
pub use Rattle.dg_lines.specs.declared.line.LineFault.TheVariants.{Form, Name, Number, Seat, Word}
pub use Rattle.dg_theory.proofs.ConstantLaws.{same_by_constant}
pub use Rattle.dg_theory.proofs.Equivalence.{equivalent-sym, equivalent-trans}
pub use Rattle.dg_theory.proofs.LossLaws.{loss_bounds_rank, loss_once}
pub use Rattle.dg_theory.proofs.ReducedLaws.{reduced_once}
pub use Rattle.dg_theory.specs.Burning.{IsBurningOrder}
pub use Rattle.dg_theory.specs.Firing.{DivisorsAgreeOn, Amounts}
pub use Rattle.dg_theory.specs.Multigraph.{IsMultigraph, Multigraph}
pub use Rattle.dg_theory.specs.Play.{IsWinnable}
pub use Rattle.dg_tokens.specs.Names.{names_contain, label, name_at}
pub use Rattle.dg_verdict.specs.RankTests.{IsRightRank}
pub use Rattle.dg_verdict.specs.Right.{IsRightVerdict, IsVerdictOn}
pub use Rattle.dg_verdict.specs.declared.rank_verdict.RankVerdict.{RankVerdict}
pub use Rattle.dg_verdict.specs.declared.rank_verdict.RankVerdict.TheVariants.{AtLeast, Below}
pub use Rattle.dg_verdict.specs.declared.verdict.Verdict.{Verdict}
pub use Rattle.std.proofs.Common.{Bool, Bor, Decides, Err, FitsSigned, IfErr, IfOk, IsErrAnd, List, MatchOption, MatchResult, None, Ok, Option, Result, Some, [], add-one, ap, append_assoc, arith, codes, cond, decimal, drop, false, flat_map, get_or, inl, inr, int_le, length, length-take-le, lit≤, map, min, nat_lt, neg_ℤ, negsuc, not, one-add, pos, refl, rules, slice_get, subst, suc, sym, take, to_z-of_z, true, true≢false, unsigned_abs, w64, w8, zero, ℕ, ℤ, ◌%◌, ◌&&◌, ◌*◌, ◌++◌, ◌+◌, ◌-◌, ◌/◌, ◌<◌, ◌==◌, ◌^◌, ◌||◌, ◌∙◌, ◌∷◌, ◌≡◌, ◌≢◌, ◌≤◌, ◌⊎◌, ◌↔◌}
pub use Rattle.std.proofs.Math.ListN.{get_or-append}
pub use Rattle.std.proofs.Math.Seq.{drop-cons}
pub use Rattle.std.proofs.lemmas.Bool.{cases_lt, eqb-true, false_from_ne_true, lt-ltb}
pub use Rattle.std.proofs.lemmas.Bool.Decides.{nat_tests}
pub use Rattle.std.proofs.lemmas.Fmt.{decimal_by_steps_wide, decimal_digit, decimal_injective, decimal_is_IsNumeral, decimal_is_IsNumeral_wide, decimal_step, decimal_step_wide, length-decimal-le, signed_decimal_injective}
pub use Rattle.std.proofs.lemmas.Grind.{flat_map-append}
pub use Rattle.std.proofs.lemmas.Int.{ints}
pub use Rattle.std.proofs.lemmas.List.{append-nil, drop-drop, drop-set, drop_all, drop_min, get_or-replicate, get_or-set_other, get_or-set_same, get_or-take, get_or_past, length-append, length-replicate, length-set, length-take, map-append, take_all, take_rest}
pub use Rattle.std.proofs.lemmas.List.Elements.{All-append, All-cons, All-head, All-nil, All-push, All-tail}
pub use Rattle.std.proofs.lemmas.List.Folds.{list_any-append, list_any_at}
pub use Rattle.std.proofs.lemmas.List.Quantifiers.{position-Some}
pub use Rattle.std.proofs.lemmas.Map.Keys.{IsDistinct-push, apart_from_distinct}
pub use Rattle.std.proofs.lemmas.Nat.Bits.{bit_at-lt, bit_at-zero, same_from_bits}
pub use Rattle.std.proofs.lemmas.Option.{cond_some, slice_get-get_or}
pub use Rattle.std.proofs.lemmas.Result.{err_from_is_err_and}
pub use Rattle.std.proofs.lemmas.Simd.{bitmask_splat, trailing_mask_l}
pub use Rattle.std.proofs.lemmas.Slice.Eq.{bytes_eq-Decides}
pub use Rattle.std.proofs.lemmas.Str.{digit_value_digit}
pub use Rattle.std.proofs.lemmas.Str.Parse.{digit_from_value, digits_value_short, numerals_by_value, tells_digits}
pub use Rattle.std.specs.Char.{digit_value}
pub use Rattle.std.specs.Cmp.{IsEquivalence}
pub use Rattle.std.specs.Fmt.{signed_decimal}
pub use Rattle.std.specs.Int.{FitsUnsignedBits, bit_at}
pub use Rattle.std.specs.Int.Signed.{◌≤ℤ◌}
pub use Rattle.std.specs.List.{AllByRecursion, position_or_len, prefix_len, slice_index_or, slice_set}
pub use Rattle.std.specs.Option.{option_copied, unwrap_or}
pub use Rattle.std.specs.Prelude.{All, IsSome, IsTrue, bytes_eq, is_some, option_map, position, replicate}
pub use Rattle.std.specs.Str.Parse.{AllDigits, digits_value, digits_value_after}
pub use lib.Count.{count_trailing_zeros}
pub use lib.Dec.{leb-zero}
pub use lib.Lanes.{mask_l}
