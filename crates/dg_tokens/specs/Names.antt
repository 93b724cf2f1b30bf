-- Names of vertices. A table's names are a list of byte lists, in vertex order.
--   is_byte_between low high b == whether the byte b is from low to high
--   is_name_byte b      == whether the byte b is an ASCII digit, an ASCII letter or `_`
--   IsName bytes        == 1 to 16 bytes, each an ASCII letter, an ASCII digit or `_`
--   names_contain names name      == whether the name is among the names
--   names_inserted names name    == the names as they are if the name is among them, and otherwise with the
--                          name put last
--   place_of names name == the first vertex of that name, if there is one
--   name_at names v     == the name of the vertex v
--   AreNames names      == each is a name, and no two are the same
--   label name          == what stands before the amount of a vertex of that name: a space, the
--                          name and `=`
use Rattle.std.specs.Prelude.{ℕ, ◌≤◌, ◌||◌, ◌&&◌, Bool, IsTrue, List, [], ◌∷◌, ◌++◌, length, Option, cond, leb, ◌==◌, bytes_eq, codes, All, position}
use Rattle.std.specs.List.{list_any, slice_index_or, IsDistinct}
use Rattle.dg_tokens.specs.declared.names.TheConstants.{MAX_NAME}

abbrev pub is_byte_between : ℕ → ℕ → ℕ → Bool
is_byte_between low high b = leb low b && leb b high

-- a digit, a capital letter, a small letter, or the byte 95, `_`
abbrev pub is_name_byte : ℕ → Bool
is_name_byte b = is_byte_between 48 57 b || is_byte_between 65 90 b || is_byte_between 97 122 b || b == 95

pub record IsName (bytes : List ℕ) : Type 0 where
  pub not_empty : 1 ≤ length bytes
  pub short : length bytes ≤ MAX_NAME
  pub each : All (λ b. IsTrue (is_name_byte b)) bytes

abbrev pub names_contain : List (List ℕ) → List ℕ → Bool
names_contain names name = list_any (bytes_eq name) names

abbrev pub names_inserted : List (List ℕ) → List ℕ → List (List ℕ)
names_inserted names name = cond (names_contain names name) names (names ++ name ∷ [])

unfoldable pub place_of : List (List ℕ) → List ℕ → Option ℕ
place_of names name = position (λ own. bytes_eq own name) names

abbrev pub name_at : List (List ℕ) → ℕ → List ℕ
name_at names v = slice_index_or names v []

pub record AreNames (names : List (List ℕ)) : Type 0 where
  pub each : All IsName names
  pub different : IsDistinct bytes_eq names

abbrev pub label : List ℕ → List ℕ
label name = codes " " ++ name ++ codes "="
