-- The key at the vertex, as the name there.
use Rattle.dg_tokens.proofs.Common.{◌≡◌, ap, ◌∙◌, [], map, string_bytes, option_map, slice_get-map, get_or_from_slice_get, name_at}
use Rattle.dg_tokens.proofs.NamesLaws.{place_of-name_at}
use Rattle.dg_tokens.proofs.names.Names.name.Goals as goal

pub returns-clause-placed : goal.returns-clause-placed
returns-clause-placed c =
    let keys = c.self.inside.set.keys in
    let is : name_at c.args.self.now c.args.v ≡ c.as_str.result.now = rw (← c.self.view_is, c.as_str.ensures.value)
    (get_or_from_slice_get (map string_bytes keys) c.args.v (string_bytes c.index.result.now) []
    (slice_get-map string_bytes keys c.args.v ∙ ap (option_map string_bytes) (rw c.from.ensures at c.index.ensures))) in
    rw is at (place_of-name_at c.args.self.now c.args.v (rw c.self.view_is at c.self.invariant.1) c.requires)
