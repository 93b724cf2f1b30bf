-- What serves the reading of a table file alone: why a stage of it ends. Of want of memory nothing
-- is said.
--   member_values members        == the values of the four members
--   shape_fault_for fault        == the same as a fault of the file
--   RefusesShape value fault     == that is the fault of the value's shape
--   RefusesJsonValue value fault == that is the fault of the value's shape, or of the content that it says
--   RefusesContent content fault == that is the first fault of the content
--   IsNamesFault names fault     == the number of names is at fault, or else that is the first name at fault
use Rattle.std.specs.Prelude.{ℕ, List, length, ⊤}
use Rattle.dg_graph.specs.Faults.{IsSize}
use Rattle.dg_graph.specs.declared.fault.GraphFault.TheVariants.{Size}
use Rattle.serde_json.specs.Data.{Data}
use Rattle.serde_json.specs.View.{view}
use Rattle.dg_file.specs.Content.{MemberValues, Content, IsContent}
use Rattle.dg_file.specs.FileFaults.{IsShapeFault, IsNameFault, IsTwiceFault, IsContentFault}
use Rattle.dg_file.specs.declared.fault.FileFault.{FileFault}
use Rattle.dg_file.specs.declared.fault.FileFault.TheVariants as file
use Rattle.dg_file.specs.declared.shape.Members.{Members}
use Rattle.dg_file.specs.declared.shape.ShapeFault.{ShapeFault}
use Rattle.dg_file.specs.declared.shape.ShapeFault.TheVariants as shape

abbrev pub member_values : Members → MemberValues
member_values members = record {
  vertices = view members.vertices.now;
  edges = view members.edges.now;
  amounts = view members.amounts.now;
  q = view members.q.now;
}

abbrev pub shape_fault_for : ShapeFault → FileFault
shape_fault_for (shape.Shape part) = file.Shape part
shape_fault_for shape.OutOfMemory = file.OutOfMemory

abbrev pub RefusesShape : Data → ShapeFault → Type 0
RefusesShape value (shape.Shape part) = IsShapeFault value part
RefusesShape value shape.OutOfMemory = ⊤

abbrev pub IsNamesFault : List (List ℕ) → FileFault → Type 0
IsNamesFault names (file.Graph Size) = ¬ IsSize (length names)
IsNamesFault names (file.Name v) = IsNameFault names v
IsNamesFault names (file.Twice v) = IsTwiceFault names v
IsNamesFault names file.OutOfMemory = ⊤
IsNamesFault names fault = ⊥

abbrev pub RefusesContent : Content → FileFault → Type 0
RefusesContent content file.OutOfMemory = ⊤
RefusesContent content fault = IsContentFault content fault

abbrev pub RefusesJsonValue : Data → FileFault → Type 0
RefusesJsonValue value file.Json = ⊥
RefusesJsonValue value (file.Shape part) = IsShapeFault value part
RefusesJsonValue value file.OutOfMemory = ⊤
RefusesJsonValue value fault =
    (content : Content) × IsContent value content × IsContentFault content fault
