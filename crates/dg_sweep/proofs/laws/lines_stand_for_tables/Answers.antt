-- The table with other amounts has the same names, graph and q.
use Rattle.dg_sweep.proofs.Common.{◌≡◌, ℕ, ℤ, List, length, sym, ap, ◌∙◌, subst, StartData, IsChipFault, ChipFault, Content, ContentDescribes, IsContentFault, Chip, SpellsAmounts, LineStandsFor, IsAmountsFault, with_amounts}
use Rattle.dg_sweep.proofs.laws.lines_stand_for_tables.Goals as goal

stands : (content : Content) (o p : StartData) (names : List (List ℕ)) (line : List ℕ) → ContentDescribes content o names
    → LineStandsFor o line p → (xs : List ℤ) × SpellsAmounts line xs
    × ContentDescribes (with_amounts content xs) p names
stands content o p names line table has = (
  has.xs,
  has.spelled,
  subst (λ x. ContentDescribes (with_amounts content has.xs) x names) (sym has.rest) (record {
    given = table.given;
    are_names = table.are_names;
    graph = table.graph;
    size = has.size ∙ table.graph.size;
    amounts = has.amounts;
    within = has.within;
    vertex = table.vertex;
  }),
)

refused : (content : Content) (o : StartData) (names : List (List ℕ)) (line : List ℕ) (fault : ChipFault)
    → ContentDescribes content o names → IsAmountsFault o.graph.size line (Chip fault)
    → (xs : List ℤ) × SpellsAmounts line xs × IsContentFault (with_amounts content xs) (Chip fault)
refused content o names line fault table (xs, spelled, first) =
    let size : o.graph.size ≡ length content.vertices = table.graph.size ∙ ap length table.given in (
      xs,
      spelled,
      (
        record {
          names = subst (λ ns. Rattle.dg_tokens.specs.Names.AreNames ns) table.given table.are_names;
          graph = o.graph;
          given = subst
              (λ n. Rattle.dg_graph.specs.Items.IsGraphOf n (Rattle.dg_file.specs.TableFiles.edge_items content) o.graph)
              (ap length table.given) table.graph;
        },
        subst (λ n. IsChipFault n xs fault) size first,
      ),
    )

pub returns : goal.returns
returns c = record { stands = stands; refused = refused }
