-- Paths, as path_resolution(7) reads them: bytes between slashes, and what each component is. Texts of names.
use Rattle.std.specs.Prelude.{◌≡◌, ◌≢◌, ℕ, ◌==◌, ◌&&◌, ◌≤◌, not, nat_lt, Bool, true, false, List, [], ◌∷◌, ◌++◌, ◌-◌, length, map, reverse, slice_index}
use Rattle.std.specs.Bool.{if◌then◌else◌}
use Rattle.std.specs.List.{All, slice_split}
use Rattle.std.specs.Str.{bytes_eq}
use Rattle.pr_base.specs.declared.path.Last.{Last}
use Rattle.pr_base.specs.declared.path.Last.TheVariants as last

abbrev pub slash : ℕ
slash = 47

abbrev pub is_slash : ℕ → Bool
is_slash b = b == slash

abbrev pub dot : List ℕ
dot = 46 ∷ []

abbrev pub dot_dot : List ℕ
dot_dot = 46 ∷ 46 ∷ []

-- the pieces that aren't empty
abbrev pub not_empty : List (List ℕ) → List (List ℕ)
not_empty [] = []
not_empty ([] ∷ pieces) = not_empty pieces
not_empty ((b ∷ piece) ∷ pieces) = (b ∷ piece) ∷ not_empty pieces

-- the components of a path as bytes: what stands between slashes, where there is anything
abbrev pub parts_of : List ℕ → List (List ℕ)
parts_of path = not_empty (slice_split is_slash path)

-- a component: the directory itself, the one above, or a name
pub data Component : Type 0 where
  Dot : Component
  DotDot : Component
  Name : List ℕ → Component

abbrev pub component_of : List ℕ → Component
component_of part = if bytes_eq part dot then Dot else if bytes_eq part dot_dot then DotDot else Name part

-- the components of a path
abbrev pub components_of : List ℕ → List Component
components_of path = map component_of (parts_of path)

-- a path from the root
abbrev pub is_absolute : List ℕ → Bool
is_absolute [] = false
is_absolute (b ∷ _) = is_slash b

-- a path or text has at most 4,096 bytes with its zero
abbrev pub text_limit : ℕ
text_limit = 4096

-- a path that is walked: it isn't empty, and isn't too long
abbrev pub is_walked : List ℕ → Bool
is_walked path = not (length path == 0) && nat_lt (length path) text_limit

abbrev pub kind_of : Component → Last
kind_of Dot = last.Dot
kind_of DotDot = last.DotDot
kind_of (Name _) = last.Name

-- what a path ends with: the kind of its last component, or the root where it has none
abbrev pub last_of : List Component → Last
last_of [] = last.Root
last_of (c ∷ []) = kind_of c
last_of (c ∷ d ∷ cs) = last_of (d ∷ cs)

abbrev pub last_kind : List ℕ → Last
last_kind path = last_of (components_of path)

abbrev pub has_parts : List (List ℕ) → Bool
has_parts [] = false
has_parts (_ ∷ _) = true

-- whether the last byte is a slash
abbrev pub ends_in_slash : List ℕ → Bool
ends_in_slash path = is_slash (slice_index path (length path - 1))

-- a component with a slash behind the last one
abbrev pub has_slash : List ℕ → Bool
has_slash path = if has_parts (parts_of path) then ends_in_slash path else false

-- what a name between slashes can be: also one that is too long for an entry or has a zero byte
pub record IsPart (name : List ℕ) : Type 0 where
  pub some : name ≢ []
  pub no_slash : All (λ b. b ≢ slash) name
  pub not_dot : name ≢ dot
  pub not_dot_dot : name ≢ dot_dot

-- what the component of a path can be
abbrev pub IsComponent : Component → Type 0
IsComponent Dot = Unit {0}
IsComponent DotDot = Unit {0}
IsComponent (Name name) = IsPart name

-- a well-formed name of an entry
pub record IsName (name : List ℕ) : Type 0 where
  pub some : name ≢ []
  pub short : length name ≤ 255
  pub no_slash : All (λ b. b ≢ slash) name
  pub no_zero : All (λ b. b ≢ 0) name
  pub not_dot : name ≢ dot
  pub not_dot_dot : name ≢ dot_dot

-- a text is a list of names, deepest first; the root is the empty list
abbrev pub AreNames : List (List ℕ) → Type 0
AreNames names = All IsName names

abbrev pub AreParts : List (List ℕ) → Type 0
AreParts names = All IsPart names

-- the bytes of a text below the root
abbrev pub below_root : List (List ℕ) → List ℕ
below_root [] = []
below_root (name ∷ names) = below_root names ++ slash ∷ name

-- the bytes of a text
abbrev pub text_of : List (List ℕ) → List ℕ
text_of [] = slash ∷ []
text_of (name ∷ names) = below_root (name ∷ names)

-- the path of a directory itself, looked up in it: who finds it may search the directory
abbrev pub itself_in : List (List ℕ) → List ℕ
itself_in names = below_root names ++ slash ∷ dot

-- the path of a name in front of which a text stands, with a slash behind it or without
abbrev pub name_path : List (List ℕ) → List ℕ → Bool → List ℕ
name_path names name behind = below_root names ++ slash ∷ (name ++ (if behind then slash ∷ [] else []))

-- ---- laws

-- whatever bytes a path has, each of its components is one
abbrev pub PathsHaveComponents : Type 0
PathsHaveComponents = (path : List ℕ) → All IsComponent (components_of path)

-- the components of the bytes of a text are its names
abbrev pub TextsHaveTheirNames : Type 0
TextsHaveTheirNames = (names : List (List ℕ)) → AreParts names → components_of (text_of names) ≡ map Name (reverse names)

-- paths that are put together have the components of their parts
pub record PathsJoin : Type 0 where
  pub joined : (path more : List ℕ) → components_of (path ++ slash ∷ more) ≡ components_of path ++ components_of more
  pub closed : (path : List ℕ) → components_of (path ++ slash ∷ []) ≡ components_of path
  pub named : (names : List (List ℕ)) (name : List ℕ) (behind : Bool) → AreParts (name ∷ names) → components_of (name_path names name behind) ≡ map Name (reverse (name ∷ names))

-- the bytes of a text are a path from the root without a slash behind, and so is a name in front of which
-- it stands, but for the slash that is put there
pub record TextsAreAbsolute : Type 0 where
  pub begun : (names : List (List ℕ)) → is_absolute (text_of names) ≡ true
  pub ended : (names : List (List ℕ)) → AreParts names → has_slash (text_of names) ≡ false
  pub name_begun : (names : List (List ℕ)) (name : List ℕ) (behind : Bool) → is_absolute (name_path names name behind) ≡ true
  pub name_ended : (names : List (List ℕ)) (name : List ℕ) (behind : Bool) → AreParts (name ∷ names) → has_slash (name_path names name behind) ≡ behind
