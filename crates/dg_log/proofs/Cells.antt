-- The names of cells.
--   cell_named   a cell of a row, by its name
use Rattle.dg_log.proofs.Common.{◌≡◌, ℕ, ◌<◌, List, length, map, slice_get, get_or, Some, arith, refl, ap, ◌∙◌, subst, slice_get-map, slice_get_read, length-map, option_map, Global, cell_name}

pub cell_named : (cells : List (Global × ℕ)) (row : List ℕ) (k : ℕ) (c : Global × ℕ) → map cell_name cells ≡ row →
    k < length row →
    c ≡ get_or cells k c → slice_get row k ≡ Some (cell_name c)
cell_named cells row k c named below is =
    let within : k < length cells = omega (arith, length-map cells cell_name, ap length named, below) in
    let at : slice_get cells k ≡ Some c = slice_get_read cells (length cells) k c refl within is in
    subst (λ ns. slice_get ns k ≡ Some (cell_name c)) named
    (slice_get-map cell_name cells k ∙ ap (option_map cell_name) at)
