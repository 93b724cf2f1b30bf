-- What a table file says, over the value that the JSON reader gives for its bytes.
--   FileEdge                    == an edge as a file has it: two names, and how often the edge is there
--   Content                     == what a file says: the names of the vertices, the edges, the amounts, and
--                                  the name q
--   MemberValues                == the values of the four members
--   ReadsJson bytes value       == the bytes are a JSON text in UTF-8, and that is its value
--   IsNotJson bytes             == the bytes are not UTF-8, or no JSON text with a value
--   member_count members        == how many members there are
--   HasMemberValues value parts == the value is an object of just four members, with the names of the parts
--   cons_some a rest            == the list of the first and the rest, if both are there
--   each read items             == what the items are read as, if each can be read
--   listed_in_json read value   == what the items of an array are read as, if it is one and each can be read
--   whole value                 == a whole number that 64 bits hold
--   to_edge_count z             == z as a number of edges, if it is from 0 to 255
--   count_in_json value         == a whole number from 0 to 255
--   edge_from_json one other n  == the edge of the three, if all are there
--   edge_of_items items         == the edge of just three items: two texts and a number of edges
--   edge_in_json value          == the edge that an array of three is
--   texts_in_json value         == an array of texts
--   edges_in_json value         == an array of edges
--   numbers_in_json value       == an array of whole numbers
--   IsContent value content     == the value is an object of the four members, and they say the content
use Rattle.std.specs.Prelude.{◌≡◌, ℕ, suc, ℤ, pos, negsuc, List, [], ◌∷◌, Option, Some, None, cond, leb, codes, option_map, option_and_then, IsUtf8}
use Rattle.serde_json.specs.Data.{Data, Items, no_items, item, Members, no_members, member}
use Rattle.serde_json.specs.Find.{get_member, as_object, as_array, as_str, as_number, as_i64}
use Rattle.serde_json.specs.Read.{read}

pub record FileEdge : Type 0 where
  pub one : List ℕ
  pub other : List ℕ
  pub count : ℕ

pub record Content : Type 0 where
  pub vertices : List (List ℕ)
  pub edges : List FileEdge
  pub amounts : List ℤ
  pub q : List ℕ

pub record MemberValues : Type 0 where
  pub vertices : Data
  pub edges : Data
  pub amounts : Data
  pub q : Data

abbrev pub ReadsJson : List ℕ → Data → Type 0
ReadsJson bytes value = IsUtf8 bytes × (read bytes ≡ Some value)

abbrev pub IsNotJson : List ℕ → Type 0
IsNotJson bytes = IsUtf8 bytes → read bytes ≡ None

unfoldable pub member_count : Members → ℕ
member_count no_members = 0
member_count (member key value rest) = suc (member_count rest)

pub record HasMemberValues (value : Data) (parts : MemberValues) : Type 0 where
  pub members : Members
  pub object : as_object value ≡ Some members
  pub four : member_count members ≡ 4
  pub vertices : get_member (codes "vertices") members ≡ Some parts.vertices
  pub edges : get_member (codes "edges") members ≡ Some parts.edges
  pub amounts : get_member (codes "amounts") members ≡ Some parts.amounts
  pub q : get_member (codes "q") members ≡ Some parts.q

abbrev pub cons_some : {A : Type 0} → Option A → Option (List A) → Option (List A)
cons_some first rest = option_and_then (λ a. option_map (λ more. a ∷ more) rest) first

unfoldable pub each : {A : Type 0} → (Data → Option A) → Items → Option (List A)
each read no_items = Some []
each read (item value rest) = cons_some (read value) (each read rest)

abbrev pub listed_in_json : {A : Type 0} → (Data → Option A) → Data → Option (List A)
listed_in_json read value = option_and_then (each read) (as_array value)

abbrev pub whole : Data → Option ℤ
whole value = option_and_then as_i64 (as_number value)

abbrev pub to_edge_count : ℤ → Option ℕ
to_edge_count (pos n) = cond (leb n 255) (Some n) None
to_edge_count (negsuc n) = None

abbrev pub count_in_json : Data → Option ℕ
count_in_json value = option_and_then to_edge_count (whole value)

abbrev pub edge_from_json : Option (List ℕ) → Option (List ℕ) → Option ℕ → Option FileEdge
edge_from_json None other count = None
edge_from_json (Some one) None count = None
edge_from_json (Some one) (Some other) None = None
edge_from_json (Some one) (Some other) (Some count) =
    Some (record { one = one; other = other; count = count })

unfoldable pub edge_of_items : Items → Option FileEdge
edge_of_items no_items = None
edge_of_items (item one no_items) = None
edge_of_items (item one (item other no_items)) = None
edge_of_items (item one (item other (item count no_items))) =
    edge_from_json (as_str one) (as_str other) (count_in_json count)
edge_of_items (item one (item other (item count (item more rest)))) = None

abbrev pub edge_in_json : Data → Option FileEdge
edge_in_json value = option_and_then edge_of_items (as_array value)

abbrev pub texts_in_json : Data → Option (List (List ℕ))
texts_in_json value = listed_in_json as_str value

abbrev pub edges_in_json : Data → Option (List FileEdge)
edges_in_json value = listed_in_json edge_in_json value

abbrev pub numbers_in_json : Data → Option (List ℤ)
numbers_in_json value = listed_in_json whole value

pub record IsContent (value : Data) (content : Content) : Type 0 where
  pub parts : MemberValues
  pub has : HasMemberValues value parts
  pub vertices : texts_in_json parts.vertices ≡ Some content.vertices
  pub edges : edges_in_json parts.edges ≡ Some content.edges
  pub amounts : numbers_in_json parts.amounts ≡ Some content.amounts
  pub q : as_str parts.q ≡ Some content.q
