-- The names that the specs of this crate cite, passed on from one place. Declares nothing.
pub use Rattle.dg_chips.specs.Divisors.{IsDualFault}
pub use Rattle.dg_chips.specs.Starts.{IsStart, StartData}
pub use Rattle.dg_chips.specs.Vector.{IsInRange, at}
pub use Rattle.dg_file.specs.FileFaults.{IsFileFault}
pub use Rattle.dg_file.specs.TableFiles.{IsTableFile}
pub use Rattle.dg_file.specs.declared.fault.FileFault.{FileFault}
pub use Rattle.dg_rules.specs.Legal.{IsLegal}
pub use Rattle.dg_rules.specs.declared.entry.Entry.{Entry}
pub use Rattle.dg_rules.specs.declared.entry.Reply.TheVariants.{Rank}
pub use Rattle.dg_rules.specs.declared.entry.Request.{Request}
pub use Rattle.dg_rules.specs.declared.game.TheConstants.{MAX_ENTRIES}
pub use Rattle.dg_rules.specs.declared.step.Step.{Step}
pub use Rattle.dg_invocation.specs.Invocation.{file_of}
pub use Rattle.dg_invocation.specs.declared.invocation.Task.{Task}
pub use Rattle.dg_invocation.specs.declared.invocation.Task.TheVariants.{Greedy, Judge, Rehearse, RiemannRoch}
pub use Rattle.dg_lines.specs.Cuts.{lines}
pub use Rattle.dg_lines.specs.Judgements.{IsJudgementText}
pub use Rattle.dg_lines.specs.Schedules.{AreStepsOf, IsFirstRefused}
pub use Rattle.dg_lines.specs.Texts.{history_text, text_of}
pub use Rattle.dg_rank.specs.Limits.{IsPastLimits}
pub use Rattle.dg_rank.specs.Ranks.{RefusesBothRanks, IsTestedRank, IsTestable}
pub use Rattle.dg_game.specs.Rehearsal.{IsRehearsalAfter}
pub use Rattle.dg_game.specs.Schedule.{IsRehearsal}
pub use Rattle.dg_game.specs.ScheduleFaults.{IsRehearsalFault}
pub use Rattle.dg_game.specs.declared.schedule.Rehearsal.{Rehearsal}
pub use Rattle.dg_game.specs.declared.schedule.RehearseFault.{RehearseFault}
pub use Rattle.dg_strategy.specs.Greedy.{IsGreedyGame}
pub use Rattle.dg_system.specs.Held.{Held, MayHold, IsSourceFault}
pub use Rattle.dg_system.specs.declared.shortage.Shortage.TheVariants.{OutOfMemory, Spawn}
pub use Rattle.dg_theory.specs.Firing.{degree}
pub use Rattle.dg_theory.specs.Multigraph.{genus}
pub use Rattle.dg_theory.specs.Rank.{canonical, minus}
pub use Rattle.dg_verdict.specs.RankTests.{IsRightRank}
pub use Rattle.dg_verdict.specs.declared.rank_verdict.RankVerdict.{RankVerdict}
