-- Labels as they are kept: at the end of their bytes.
--   kept_label l           == the bytes of l from its start on
--   IsLabel l name         == these are the label of the name, up to the end of the bytes
--   AreLabels labels names == the label of each name is kept at its vertex
use Rattle.std.specs.Prelude.{◌≡◌, ℕ, ◌+◌, ◌<◌, List, length, drop}
use Rattle.std.specs.List.{slice_index_or}
use Rattle.dg_tokens.specs.declared.label.Label.{Label}
use Rattle.dg_tokens.specs.declared.label.TheConstants.{MAX_LABEL}
use Rattle.dg_tokens.specs.Names.{label, name_at}

abbrev pub kept_label : Label → List ℕ
kept_label l = drop l.start l.bytes

pub record IsLabel (l : Label) (name : List ℕ) : Type 0 where
  pub text : kept_label l ≡ label name
  pub start : l.start + length (label name) ≡ MAX_LABEL

abbrev pub AreLabels : List Label → List (List ℕ) → Type 0
AreLabels labels names =
    (v : ℕ) (other : Label) → v < length names
    → IsLabel (slice_index_or labels v other) (name_at names v)
