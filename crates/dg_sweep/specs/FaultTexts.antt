-- What is said of bytes that are refused as a table.
--   fault_words_text words  == the text of these words
--   shape_fault_words shape == of a part that has another shape than it should
--   graph_fault_words fault == of vertices and edges that are no graph
--   chip_fault_words fault  == of amounts that are no divisor
--   file_fault_words fault  == of any fault of a table
use Rattle.std.specs.Prelude.{ℕ, List, ◌++◌, codes, decimal}
use Rattle.dg_sweep.specs.Common.{GraphFault, Size, NoVertex, Loop, Multiplicity, Valence, NotConnected, ChipFault, Length, Range, Top, Vertices, Edges, Edge, Amounts, Q, FileFault, Json, Graph, Name, Twice, Chip, NoQ, OutOfMemory}
use Rattle.dg_file.specs.declared.fault.Shape.{Shape}
use Rattle.dg_file.specs.declared.fault.FileFault.TheVariants.{Shape as OfShape}
use Rattle.dg_sweep.specs.declared.fault_words.FaultWords.{FaultWords}
use Rattle.dg_sweep.specs.declared.fault_words.FaultWords.TheVariants.{Alone, Before, Around}

abbrev pub fault_words_text : FaultWords → List ℕ
fault_words_text (Alone words) = words.now
fault_words_text (Before label number) = label.now ++ decimal number
fault_words_text (Around label number words) = (label.now ++ decimal number) ++ words.now

abbrev pub shape_fault_words : Shape → List ℕ
shape_fault_words Top = codes "shape of top"
shape_fault_words Vertices = codes "shape of vertices"
shape_fault_words Edges = codes "shape of edges"
shape_fault_words (Edge i) = codes "shape of edge " ++ decimal i
shape_fault_words Amounts = codes "shape of amounts"
shape_fault_words Q = codes "shape of q"

abbrev pub graph_fault_words : GraphFault → List ℕ
graph_fault_words Size = codes "number of vertices"
graph_fault_words (NoVertex i) = (codes "edge " ++ decimal i) ++ codes " has no vertex"
graph_fault_words (Loop i) = (codes "edge " ++ decimal i) ++ codes " is a loop"
graph_fault_words (Multiplicity i) = (codes "edge " ++ decimal i) ++ codes " is empty"
graph_fault_words (Valence v) = codes "valence of vertex " ++ decimal v
graph_fault_words NotConnected = codes "not connected"

abbrev pub chip_fault_words : ChipFault → List ℕ
chip_fault_words Length = codes "number of amounts"
chip_fault_words (Range v) = codes "amount of vertex " ++ decimal v

abbrev pub file_fault_words : FileFault → List ℕ
file_fault_words Json = codes "not JSON"
file_fault_words (OfShape shape) = shape_fault_words shape
file_fault_words (Graph fault) = graph_fault_words fault
file_fault_words (Name v) = codes "name of vertex " ++ decimal v
file_fault_words (Twice v) = (codes "vertex " ++ decimal v) ++ codes " named twice"
file_fault_words (Chip fault) = chip_fault_words fault
file_fault_words NoQ = codes "no vertex q"
file_fault_words OutOfMemory = codes "out of memory"
