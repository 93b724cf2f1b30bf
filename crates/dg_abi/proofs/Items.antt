-- The items that are handed on are those of the list.
--   same_items   an array that holds them first
use Rattle.std.proofs.Common.{◌≡◌, ℕ, ◌<◌, ◌≤◌, List, [], length, take, arith, sym, ◌∙◌, ext_get_or}
use Rattle.std.proofs.lemmas.List.{length-take, length-map, get_or-take, get_or-map}
use Rattle.std.specs.List.{slice_index_or}
use Rattle.dg_graph.specs.Items.{EdgeItem}
use Rattle.dg_abi.specs.Calls.{item_of, items_of}

pub same_items : (xs : List EdgeItem) (es : List (List ℕ)) (n : ℕ) → length xs ≡ 120 → length es ≤ 120 → length es ≤ n →
    ((j : ℕ) → j < n → slice_index_or xs j (0, 0, 0) ≡ item_of (slice_index_or es j [])) →
    take (length es) xs ≡ items_of es
same_items xs es n size few all same =
    let taken : length (take (length es) xs) ≡ length es = omega (arith, length-take (length es) xs) in
    ext_get_or (0, 0, 0) _ _ (taken ∙ sym (length-map es item_of)) (λ j below.
    let here : j < length es = omega (arith, taken) in
    get_or-take (length es) xs j (0, 0, 0) here ∙ same j (omega arith) ∙ sym (get_or-map item_of es j [] (0, 0, 0) here))
