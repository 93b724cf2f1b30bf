-- What a reader of the contracts has to believe: graphs within the limits, how they are given and
-- refused, edges that are added, and sets of vertices.
pub mod Graph
pub mod Items
pub mod Faults
pub mod Joins
pub mod Sets
-- What serves the search for chains of edges alone, and what a graph keeps.
pub mod Search
pub mod Valences
