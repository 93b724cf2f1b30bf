-- The names that the proofs of this crate cite, passed on from one place. Declares nothing.
pub use Rattle.dg_chips.proofs.VectorLaws.{held_once}
pub use Rattle.dg_chips.specs.Divisors.{IsChipFault}
pub use Rattle.dg_chips.specs.Starts.{IsStart, StartData}
pub use Rattle.dg_chips.specs.Vector.{HoldsNumbers, Vector, at}
pub use Rattle.dg_chips.specs.declared.divisor.ChipFault.{ChipFault}
pub use Rattle.dg_file.specs.Content.{Content}
pub use Rattle.dg_file.specs.FileFaults.{IsFileFault, IsContentFault}
pub use Rattle.dg_file.specs.FileLaws.{FileMeaningIsUnique}
pub use Rattle.dg_file.specs.TableFiles.{ContentDescribes}
pub use Rattle.dg_file.specs.declared.fault.FileFault.TheVariants.{Chip}
pub use Rattle.dg_file.specs.declared.fault.FileFault.{FileFault}
pub use Rattle.dg_invocation.specs.declared.question.Form.TheVariants.{Numbers, Words}
pub use Rattle.dg_invocation.specs.declared.question.Form.{Form}
pub use Rattle.dg_invocation.specs.declared.question.Question.TheVariants.{Judge, Rank, RiemannRoch}
pub use Rattle.dg_invocation.specs.declared.question.Question.{Question}
pub use Rattle.dg_lines.proofs.Cutting.{none_left, pieces_left, pieces_next}
pub use Rattle.dg_lines.proofs.Integers.{fits_within}
pub use Rattle.dg_lines.proofs.Judging.{judged-named}
pub use Rattle.dg_lines.proofs.Streams.{begins_more, begins_none, begins_one, begins_then, come_last, come_then, line_shorter, one_cutting, part_line, part_plain, part_whole}
pub use Rattle.dg_lines.specs.CommandWords.{IsNumeralWithin}
pub use Rattle.dg_lines.specs.Cuts.{lines, pieces_after, words}
unfoldable pub use Rattle.dg_lines.specs.Cuts.{after, before}
pub use Rattle.dg_lines.specs.Judgements.{burning_text, judgement_text}
pub use Rattle.dg_lines.specs.Streams.{BeginsWithLines, HasNoNewline, LinesHaveCome, last_line, with_newline}
pub use Rattle.dg_lines.specs.Texts.{verdict_text}
pub use Rattle.dg_rank.proofs.Numbering.{past_within}
pub use Rattle.dg_sweep.specs.AnswerLaws.{AmountsHaveOneAnswer, AmountsMeaningIsUnique, TablesHaveOneAnswer}
pub use Rattle.dg_sweep.specs.Answers.{AnswersLine, Rule, columns, missing, of_tables, AnswersRankLine, AnswersTable, AnswersTableWithin, AreRanks, IsBelow, IsRefusalOf, IsTested, rank_line, ranks_line, refusal_line}
pub use Rattle.dg_sweep.specs.DivisorLaws.{with_amounts}
pub use Rattle.dg_sweep.specs.Divisors.{AnswersAmounts, of_amounts, LineStandsFor, IsAmountsFault, SpellsAmounts, SpellsNoAmounts}
pub use Rattle.dg_sweep.specs.FaultTexts.{file_fault_words}
pub use Rattle.dg_sweep.specs.Pieces.{AnswersPiece, IsAnswered, LeadsPiece}
pub use Rattle.dg_sweep.specs.Steps.{AnswersFront, AnswersLast, EndsWithNewline, KeepsPart, PassesAnswers, StandsForPart, TakesBytes}
pub use Rattle.dg_sweep.specs.Sweeps.{EndsAfter, IsSweep, WritesAnswers}
pub use Rattle.dg_sweep.specs.declared.ends.SweepEnd.TheVariants.{Read, Shortage, Write}
pub use Rattle.dg_sweep.specs.declared.ends.SweepEnd.{SweepEnd}
pub use Rattle.dg_sweep.specs.declared.ends.TheConstants.{READ_SIZE}
pub use Rattle.dg_system.proofs.Growing.{appends_more, appends_none}
pub use Rattle.dg_system.proofs.InputReads.{chunk_size, consumes_kept, consumes_more, consumes_none, read_chunk, read_nothing}
pub use Rattle.dg_system.specs.Growth.{AppendsFront}
pub use Rattle.dg_system.specs.declared.shortage.Shortage.TheVariants.{OutOfMemory}
pub use Rattle.dg_theory.proofs.LossLaws.{loss_bounds_rank}
pub use Rattle.dg_theory.proofs.RankNumbers.{rank_once}
pub use Rattle.dg_theory.specs.Burning.{IsLeastBurningOrder, BurnsNext, MayBurn, list_contains, edges_into}
pub use Rattle.dg_theory.specs.Firing.{DivisorsAgreeOn, Amounts}
pub use Rattle.dg_theory.specs.Multigraph.{IsMultigraph, Multigraph}
pub use Rattle.dg_theory.specs.Rank.{canonical, minus}
pub use Rattle.dg_tokens.proofs.Signs.{one_rest}
pub use Rattle.dg_tokens.specs.Decimals.{BeginsWithDecimal, StartsWithDigit}
pub use Rattle.dg_verdict.specs.RankTests.{IsRightRank}
pub use Rattle.dg_verdict.specs.Right.{IsVerdictOn}
pub use Rattle.dg_verdict.specs.declared.rank_verdict.RankVerdict.TheVariants.{AtLeast, Below}
pub use Rattle.dg_verdict.specs.declared.rank_verdict.RankVerdict.{RankVerdict}
pub use Rattle.dg_verdict.specs.declared.verdict.Verdict.{Verdict}
pub use Rattle.std.proofs.Common.{All, Bool, Bor, Err, FitsSigned, IfOk, IsOkAnd, List, None, Ok, Option, Result, [], ap, append-nil, append_assoc, arith, codes, drop, false, flat_map, get_or, inl, inr, length, map, neg_ℤ, negsuc, of_z, pos, refl, rules, subst, suc, sym, take, tests, to_z, to_z-of_z, true, w64, zero, ℕ, ℤ, ◌*◌, ◌++◌, ◌+◌, ◌-◌, ◌<◌, ◌==◌, ◌^◌, ◌∙◌, ◌∷◌, ◌≡◌, ◌≢◌, ◌≤◌, ◌⊎◌}
pub use Rattle.std.proofs.Math.Seq.{take-append_seam}
pub use Rattle.std.proofs.lemmas.Bool.{cases_eq, cases_lt, eqb-true, false≢true, ne_eqb}
pub use Rattle.std.proofs.lemmas.Fmt.{decimal_is_IsNumeral, signed_decimal_injective}
pub use Rattle.std.proofs.lemmas.Grind.{common_steps, flat_map-append}
pub use Rattle.std.proofs.lemmas.Int.{ints}
pub use Rattle.std.proofs.lemmas.List.Elements.{All-append, All-cons, All-contains, All-get_or, All-head, All-nil, All-push, All-tail}
pub use Rattle.std.proofs.lemmas.List.{get_or-map, take-append-drop, take_all, take_more, take_rest}
pub use Rattle.std.proofs.lemmas.Result.{IfOk-weaker, on_ok_weaker}
pub use Rattle.std.proofs.lemmas.Option.{get_or_from_slice_get, slice_get-get_or, slice_get_within}
pub use Rattle.std.proofs.lemmas.Str.Parse.{digit_from_value}
pub use Rattle.std.specs.Fmt.{signed_decimal}
pub use Rattle.std.specs.Io.KnownBytes.{Appends, Consumes, IsAtEnd, Keeps}
pub use Rattle.std.specs.Option.{option_copied}
pub use Rattle.std.specs.Prelude.{Some, decimal, slice_get, ◌<ℤ◌}
pub use Rattle.std.specs.Str.Parse.{AllDigits}
