-- Guest texts and host texts, over the rows of a table of bindings, of which the first is the root's. A row's
-- number is its place in the table; its index is a field.
use Rattle.std.specs.Prelude.{◌≡◌, ℕ, Bool, false, List, [], ◌∷◌, ◌++◌, map, reverse, position, slice_get, Option, Some, None, nat_eq, IfSome}
use Rattle.std.specs.List.{All, find, list_any}
use Rattle.std.specs.Option.{option_map, option_map_or, option_and_then}
use Rattle.pr_base.specs.MountText.{MountText, bound_of}
use Rattle.pr_base.specs.Paths.{AreParts, parts_of, text_of}
use Rattle.pr_base.specs.Texts.{Text, texts_eq, names_below}
use Rattle.pr_base.specs.declared.bind.Bound.{Bound}

-- whether a row is located at exactly a text
abbrev pub is_located : Text → MountText → Bool
is_located t row = texts_eq row.location t

-- the number of the row that is located at exactly a text
abbrev pub located : List MountText → Text → Option ℕ
located table t = position (is_located t) table

-- the host text of a row's source
abbrev pub source_of : List MountText → ℕ → Text
source_of table k = option_map_or (λ row. row.source) (slice_get table k) []

-- ---- extending a text by a component

abbrev pub number_at : Option ℕ → ℕ → ℕ
number_at (Some k) above = k
number_at None above = above

-- the number of the row to which a text belongs
abbrev pub owner : List MountText → Text → ℕ
owner table [] = 0
owner table (name ∷ t) = number_at (located table (name ∷ t)) (owner table t)

abbrev pub host_at : List MountText → Option ℕ → Text → Text
host_at table (Some k) below = source_of table k
host_at table None below = below

-- the host text of a text: that of the row located there, and else the name below the host text of what is above
abbrev pub host_of : List MountText → Text → Text
host_of table [] = source_of table 0
host_of table (name ∷ t) = host_at table (located table (name ∷ t)) (name ∷ host_of table t)

-- the index of the binding to which a text belongs
abbrev pub index_of : List MountText → Text → ℕ
index_of table t = option_map_or (λ row. row.index) (slice_get table (owner table t)) 0

-- ---- a tag, which is the index of a binding, and a host text give a guest text

abbrev pub guest_in : MountText → Text → Option Text
guest_in row host = option_map (λ rest. rest ++ row.location) (names_below row.source host)

-- none where the table has no binding of this index, or the host text isn't at or below its source
abbrev pub guest_of : List MountText → ℕ → Text → Option Text
guest_of table index host = option_and_then (λ row. guest_in row host) (find (λ row. nat_eq row.index index) table)

-- whether a host text is that of a mount point
abbrev pub is_point : List MountText → Text → Bool
is_point table host = list_any (λ row. option_map_or (texts_eq host) row.point false) table

-- ---- in bytes

-- bytes are those of a text
pub record IsWritten (bytes : List ℕ) : Type 0 where
  pub names : Text
  pub are_parts : AreParts names
  pub written : bytes ≡ text_of names

-- the text that bytes spell
unfoldable pub names_of : List ℕ → Text
names_of bytes = reverse (parts_of bytes)

-- no bytes stand for a mount point that isn't there
abbrev pub point_of : List ℕ → Option Text
point_of [] = None
point_of (b ∷ bytes) = Some (names_of (b ∷ bytes))

abbrev pub row_of : Bound → MountText
row_of bound = record {
  index = bound.index;
  location = names_of bound.location;
  source = names_of bound.source;
  point = point_of bound.point;
}

abbrev pub rows_of : List Bound → List MountText
rows_of bounds = map row_of bounds

-- ---- settled rows

pub record AreTexts (row : MountText) : Type 0 where
  pub location : AreParts row.location
  pub source : AreParts row.source
  pub point : IfSome row.point AreParts

-- the first row is the root's, and no two have the same location or the same index
pub record AreSettled (table : List MountText) : Type 0 where
  pub texts : All AreTexts table
  pub root : MountText
  pub others : List MountText
  pub first : table ≡ root ∷ others
  pub root_index : root.index ≡ 0
  pub root_location : root.location ≡ []
  pub root_point : root.point ≡ None
  pub own_location : (j k : ℕ) (q r : MountText) → slice_get table j ≡ Some q → slice_get table k ≡ Some r → q.location ≡ r.location → j ≡ k
  pub own_index : (j k : ℕ) (q r : MountText) → slice_get table j ≡ Some q → slice_get table k ≡ Some r → q.index ≡ r.index → j ≡ k

-- the same of bytes
pub record AreBounds (bounds : List Bound) : Type 0 where
  pub table : List MountText
  pub settled : AreSettled table
  pub written : bounds ≡ map bound_of table
