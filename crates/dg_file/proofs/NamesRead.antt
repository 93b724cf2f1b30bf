-- The names of a file's vertices, read one by one. The names so far are the first of the texts.
--   the_text t          the bytes of a text
--   texts vertices      the bytes of all
--   text_at vertices v  the text of a vertex
--   names-more          one more name
--   names-added         the same of what `add` leaves, if the name is new
--   names-all           the names of all vertices
--   names-few           before the last vertex there is room for a name
--   name-fault          a text that is no name
--   twice-fault         a name that stood before
--   stood               a name stood before just if it was not added
use Rattle.dg_file.proofs.Common.{◌≡◌, ℕ, ◌+◌, ◌<◌, ◌≤◌, Bool, true, false, not, cond, refl, List, [], ◌∷◌, ◌++◌, length, get_or, take, map, Some, Bor, option_map, sym, ap, ◌∙◌, arith, slice_get, length-map, length-take, take-map, take_all, map_more, slice_get-map, slice_get-get_or, IsSize, IsName, AreNames, names_contain, names_inserted, IsNameFault, IsTwiceFault}

abbrev pub the_text : Bor (List ℕ) → List ℕ
the_text t = t.now

abbrev pub texts : List (Bor (List ℕ)) → List (List ℕ)
texts vertices = map the_text vertices

abbrev none : Bor (List ℕ)
none = record { ref_ptr = (0, 0); now = [] }

abbrev pub text_at : List (Bor (List ℕ)) → ℕ → List ℕ
text_at vertices v = the_text (get_or vertices v none)

module _ (vertices : List (Bor (List ℕ))) (v : ℕ) (names : List (List ℕ)) (below : v < length vertices)
    (so_far : names ≡ take v (texts vertices)) where
  text-there : slice_get (texts vertices) v ≡ Some (text_at vertices v)
  text-there = slice_get-map the_text vertices v ∙ ap (option_map the_text) (slice_get-get_or vertices v none below)

  pub names-more : names ++ text_at vertices v ∷ [] ≡ take (v + 1) (texts vertices)
  names-more =
      ap (λ front. front ++ text_at vertices v ∷ []) (so_far ∙ take-map the_text v vertices)
      ∙ sym (take-map the_text (v + 1) vertices ∙ map_more the_text vertices v none below)

  pub names-added : names_contain names (text_at vertices v) ≡ false
      → names_inserted names (text_at vertices v) ≡ take (v + 1) (texts vertices)
  names-added new =
      ap (λ old. cond old names (names ++ text_at vertices v ∷ [])) new ∙ names-more

  pub names-few : length vertices ≤ 16 → length names < 16
  names-few few = rw so_far (omega (arith, length-take v (texts vertices)))

  pub name-fault : IsSize (length vertices) → AreNames names → ¬ IsName (text_at vertices v)
      → IsNameFault (texts vertices) v
  name-fault size are bad = record {
    size = rw length-map size;
    before = rw so_far at are;
    refused = (text_at vertices v, text-there, bad);
  }

  pub twice-fault : IsSize (length vertices) → AreNames names → IsName (text_at vertices v)
      → names_contain names (text_at vertices v) ≡ true → IsTwiceFault (texts vertices) v
  twice-fault size are is stood = record {
    size = rw length-map size;
    before = rw so_far at are;
    refused = (text_at vertices v, text-there, (is, rw so_far at stood));
  }

pub stood : (is_new : Bool) (names : List (List ℕ)) (name : List ℕ) → is_new ≡ not (names_contain names name)
    → names_contain names name ≡ not is_new
stood is_new names name is =
    rw is (elim (names_contain names name) as (λ t. t ≡ not (not t)) [ true ↦ refl | false ↦ refl ])

pub names-all : (vertices : List (Bor (List ℕ))) (v : ℕ) (names : List (List ℕ)) → length vertices ≤ v
    → names ≡ take v (texts vertices) → names ≡ texts vertices
names-all vertices v names past so_far =
    so_far ∙ take_all v (texts vertices) (rw length-map past)
