-- How a table of mounts keeps the places of mount points. No public clause cites this module.
use Rattle.std.specs.Prelude.{◌≡◌, ◌≤◌, ℕ, Bool, List, length, position, Vec, Option, Some, None, bytes_eq, if◌then◌else◌}
use Rattle.std.specs.BTreeMap.{BTreeMap, get, get_by}
use Rattle.std.specs.Cmp.Lexicographic.{slice_cmp}
use Rattle.std.specs.Option.{unwrap_or}
use Rattle.std.specs.Ordering.{is_eq, nat_cmp, ordering_then}
use Rattle.std.specs.declared.cmp.Ordering.{Ordering}
use Rattle.kr_walk.specs.kr_view.View.{Point, Row, is_name_at, is_point, stands_at}
use Rattle.pt_bind.specs.Kept.{IsNoted}
use Rattle.kr_mounts.specs.declared.mount.Mount.{Mount}
use Rattle.kr_mounts.specs.declared.mounted.PointKey.{PointKey}
use Rattle.kr_mounts.specs.declared.mounted.EntryKey.{EntryKey}
use Rattle.kr_mounts.specs.Stored.{table_of}

-- ---- keys

abbrev pub point_cmp : PointKey → PointKey → Ordering
point_cmp x y = ordering_then (nat_cmp x.mount y.mount) (ordering_then (nat_cmp x.dir y.dir) (nat_cmp x.name y.name))

abbrev pub entry_cmp : EntryKey → EntryKey → Ordering
entry_cmp x y = ordering_then (nat_cmp x.dir y.dir) (nat_cmp x.name y.name)

-- the number of a name
abbrev pub name_number : {Z : Type 0} → BTreeMap (Vec ℕ Z) ℕ → List ℕ → Option ℕ
name_number names name = get_by (λ key. slice_cmp nat_cmp name key.items) names

-- ---- what is kept

abbrev pub has_name : List ℕ → Point → Bool
has_name name p = bytes_eq p.name name

-- the number of a name is that of the first mount that stands at it, and by that the first mount is kept that stands
-- at the name in a directory, and in a directory of a mount
pub record IsIndexOf {Z : Type 0} (table : List Row) (names : BTreeMap (Vec ℕ Z) ℕ) (points : BTreeMap PointKey ℕ) (entries : BTreeMap EntryKey ℕ) : Type 0 where
  pub named : (name : List ℕ) → name_number names name ≡ position (stands_at (has_name name)) table
  pub pointed : (mount dir : ℕ) (name : List ℕ) (n : ℕ) → name_number names name ≡ Some n
      → get point_cmp points (record { mount = mount; dir = dir; name = n }) ≡ position (stands_at (is_point mount dir name)) table
  pub entered : (dir : ℕ) (name : List ℕ) (n : ℕ) → name_number names name ≡ Some n
      → get entry_cmp entries (record { dir = dir; name = n }) ≡ position (stands_at (is_name_at dir name)) table
  -- numbers that no name has are in no key
  pub no_point : (mount dir n : ℕ) → length table ≤ n → get point_cmp points (record { mount = mount; dir = dir; name = n }) ≡ None
  pub no_entry : (dir n : ℕ) → length table ≤ n → get entry_cmp entries (record { dir = dir; name = n }) ≡ None

abbrev pub IsIndex : {Z : Type 0} → List Mount → BTreeMap (Vec ℕ Z) ℕ → BTreeMap PointKey ℕ → BTreeMap EntryKey ℕ → Type 0
IsIndex mounts names points entries = IsIndexOf (table_of mounts) names points entries

-- ---- one mount more

-- a name has its number, or takes a new one
pub record IsNameNoted {Z : Type 0} (old : BTreeMap (Vec ℕ Z) ℕ) (name : List ℕ) (number : ℕ) (new : BTreeMap (Vec ℕ Z) ℕ) (n : ℕ) : Type 0 where
  pub noted : IsNoted old name number new
  pub given : n ≡ unwrap_or (name_number old name) number

-- a key has its value, or takes a new one, and all others stay
abbrev pub IsKeyNoted : {K : Type 0} → (K → K → Ordering) → BTreeMap K ℕ → K → ℕ → BTreeMap K ℕ → Type 0
IsKeyNoted cmp old key number new = (q : _) → get cmp new q ≡ (if is_eq (cmp key q) then Some (unwrap_or (get cmp old q) number) else get cmp old q)
