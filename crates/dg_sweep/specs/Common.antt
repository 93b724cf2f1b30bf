-- The names that the specs of this crate cite, passed on from one place. Declares nothing.
pub use Rattle.dg_chips.specs.Divisors.{IsChipFault}
pub use Rattle.dg_chips.specs.Starts.{StartData}
pub use Rattle.dg_chips.specs.Vector.{HoldsNumbers, IsDivisorVector, Vector, at}
pub use Rattle.dg_chips.specs.declared.divisor.ChipFault.{ChipFault}
pub use Rattle.dg_chips.specs.declared.divisor.ChipFault.TheVariants.{Length, Range}
pub use Rattle.dg_file.specs.Content.{Content}
pub use Rattle.dg_file.specs.FileFaults.{IsFileFault, IsContentFault}
pub use Rattle.dg_file.specs.TableFiles.{ContentDescribes, IsTableFile}
pub use Rattle.dg_file.specs.declared.fault.FileFault.{FileFault}
pub use Rattle.dg_file.specs.declared.fault.FileFault.TheVariants.{Chip, Graph, Json, Name, NoQ, OutOfMemory, Shape, Twice}
pub use Rattle.dg_file.specs.declared.fault.Shape.TheVariants.{Amounts, Edge, Edges, Q, Top, Vertices}
pub use Rattle.dg_graph.specs.declared.fault.GraphFault.{GraphFault}
pub use Rattle.dg_graph.specs.declared.fault.GraphFault.TheVariants.{Loop, Multiplicity, NoVertex, NotConnected, Size, Valence}
pub use Rattle.dg_invocation.specs.declared.question.Form.{Form}
pub use Rattle.dg_invocation.specs.declared.question.Form.TheVariants.{Numbers, Words}
pub use Rattle.dg_invocation.specs.declared.question.Question.{Question}
pub use Rattle.dg_invocation.specs.declared.question.Question.TheVariants.{Judge, Rank, RiemannRoch}
pub use Rattle.dg_lines.specs.Columns.{marks, rank_row, verdict_row}
pub use Rattle.dg_lines.specs.Cuts.{lines, words}
pub use Rattle.dg_lines.specs.Judgements.{IsJudgementText}
pub use Rattle.dg_lines.specs.Streams.{BeginsWithLines, HasNoNewline, LinesHaveCome, last_line}
pub use Rattle.dg_lines.specs.Texts.{text_of}
pub use Rattle.dg_rank.specs.Limits.{IsPastLimits}
pub use Rattle.dg_rank.specs.Ranks.{IsTestable}
pub use Rattle.dg_system.specs.Growth.{AppendsFront}
pub use Rattle.dg_theory.specs.Firing.{degree}
pub use Rattle.dg_theory.specs.Multigraph.{genus}
pub use Rattle.dg_theory.specs.Rank.{HasRankAtLeast, IsRank, canonical, minus}
pub use Rattle.dg_verdict.specs.RankTests.{IsRightRank}
pub use Rattle.dg_verdict.specs.Right.{IsVerdictOn}
pub use Rattle.dg_verdict.specs.declared.rank_verdict.RankVerdict.{RankVerdict}
pub use Rattle.dg_verdict.specs.declared.rank_verdict.RankVerdict.TheVariants.{AtLeast, Below}
pub use Rattle.dg_verdict.specs.declared.verdict.Verdict.{Verdict}
