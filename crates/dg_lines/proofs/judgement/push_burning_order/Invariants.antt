-- The names that are written so far are those of the vertices before the turn's one.
use Rattle.dg_lines.proofs.Common.{◌≡◌, ◌++◌, take, burning_text}
use Rattle.dg_lines.proofs.judgement.push_burning_order.Given as goal

abbrev pub invariant-vertices : goal.invariant-vertices
invariant-vertices g l =
    l.text.items ≡ l.fn.text.items ++ burning_text l.names (take l.v-index l.order)
