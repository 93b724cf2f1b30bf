-- The names that the proofs of this crate cite, passed on from one place. Declares nothing.
pub use Rattle.dg_chips.proofs.VectorLaws.{held_once}
pub use Rattle.dg_chips.specs.Divisors.{IsChipFault}
pub use Rattle.dg_chips.specs.Starts.{StartData}
pub use Rattle.dg_chips.specs.Vector.{HoldsNumbers, IsDivisorVector, Vector, at, IsFirstPast}
pub use Rattle.dg_chips.specs.declared.divisor.ChipFault.{ChipFault}
pub use Rattle.dg_chips.specs.declared.divisor.ChipFault.TheVariants.{Length, Range}
pub use Rattle.dg_file.specs.Content.{Content, HasMemberValues, IsContent, IsNotJson, MemberValues, ReadsJson, count_in_json, edge_from_json, edge_in_json, edges_in_json, listed_in_json, numbers_in_json, cons_some, texts_in_json, whole}
pub use Rattle.dg_file.specs.FileFaults.{GivesDivisor, GivesGraph, IsEdgeFault, HasGraphFault, IsNameFault, HasContentFault, IsShapeFault, IsPartFault, IsTwiceFault, IsFileFault, IsContentFault}
pub use Rattle.dg_file.specs.FileLaws.{FileMeaningIsUnique}
pub use Rattle.dg_file.specs.TableFiles.{ContentDescribes, IsTableFile, edge_item, edge_items}
pub use Rattle.dg_file.specs.declared.fault.FileFault.{FileFault}
pub use Rattle.dg_file.specs.declared.fault.FileFault.TheVariants.{Chip, Graph, Json, Name, NoQ, OutOfMemory, Twice}
pub use Rattle.dg_file.specs.declared.fault.Shape.{Shape}
pub use Rattle.dg_file.specs.declared.fault.Shape.TheVariants.{Amounts, Edge, Edges, Q, Top, Vertices}
pub use Rattle.dg_graph.proofs.Squares.{one_graph}
pub use Rattle.dg_graph.specs.Faults.{IsEmptyItem, IsGraphFault, IsFirstHighValence, IsLoop, IsDisconnected, IsSize, JoinsNoVertex}
pub use Rattle.dg_graph.specs.Items.{HasEdgeItem, IsGraphOf, IsEdgeItem, AreEdgeItems, AreItemsBefore, EdgeItem, edges_listed, valence_listed}
pub use Rattle.dg_graph.specs.declared.fault.GraphFault.{GraphFault}
pub use Rattle.dg_graph.specs.declared.fault.GraphFault.TheVariants.{Loop, Multiplicity, NoVertex, NotConnected, Size, Valence}
pub use Rattle.dg_theory.proofs.Chains.{IsConnectedTo-cong}
pub use Rattle.dg_theory.proofs.TotalLaws.{nat_sum_below-cong}
pub use Rattle.dg_theory.specs.Multigraph.{Multigraph, edges_between}
pub use Rattle.dg_theory.specs.Sums.{nat_sum_below}
pub use Rattle.dg_tokens.proofs.NamesLaws.{AreNames-added, AreNames-nil, bytes_eq-swap}
pub use Rattle.dg_tokens.specs.Names.{AreNames, IsName, names_inserted, names_contain, place_of}
pub use Rattle.serde_json.proofs.Views.{get_item_within}
pub use Rattle.serde_json.specs.Data.{Data, Items, Members, array, boolean, item, no_items, null, number, object, string}
pub use Rattle.serde_json.specs.Find.{as_array, as_object, as_str, get, get_item, get_member}
pub use Rattle.serde_json.specs.View.{items_view, members_view, view}
pub use Rattle.serde_json.specs.declared.value.Value.{Value}
pub use Rattle.std.proofs.Common.{Bool, Bor, Global, List, None, Option, Some, String, Vec, [], ap, arith, codes, cond, drop, false, get_or, inl, inr, length, map, not, option_map, refl, rules, suc, sym, take, true, w64, zero, ℕ, ℤ, ⊎_elim, ◌++◌, ◌+◌, ◌<◌, ◌∙◌, ◌∷◌, ◌≡◌, ◌≢◌, ◌≤◌, ◌⊎◌}
pub use Rattle.std.proofs.lemmas.Bool.{cases_order, false≢true, iff_false, or_cases}
pub use Rattle.std.proofs.lemmas.Int.{to_z-of_z}
pub use Rattle.std.proofs.lemmas.List.{append-nil, append_assoc, drop_all, drop_more, length-map, length-take, map_more, map_push, take-map, take-take, take_all}
pub use Rattle.std.proofs.lemmas.List.Elements.{All-get_or}
pub use Rattle.std.proofs.lemmas.Option.{get_or_from_slice_get, slice_get-get_or, slice_get-map, slice_get_within}
pub use Rattle.std.specs.List.{AllByRecursion}
pub use Rattle.std.specs.Prelude.{IsSome, bytes_eq, option_and_then, slice_get}
