-- Laws of guest texts and host texts.
use Rattle.std.specs.Prelude.{ℕ, ◌≡◌, ◌≤◌, List, ◌++◌, map, length, slice_get, Some}
use Rattle.pr_base.specs.MountText.{MountText, bound_of}
use Rattle.pr_base.specs.Texts.{Text}
use Rattle.pt_bind.specs.Binding.{owner, host_of, index_of, guest_of, rows_of, AreSettled}

-- a text is what is left below the location of the row that owns it, and its host text is the same below that row's
-- source; no row has a longer location that the text begins with
pub record OwnedAt (table : List MountText) (t : Text) : Type 0 where
  pub row : MountText
  pub there : slice_get table (owner table t) ≡ Some row
  pub rest : Text
  pub parted : t ≡ rest ++ row.location
  pub host : host_of table t ≡ rest ++ row.source
  pub longest : (k : ℕ) (other : MountText) (more : Text) → slice_get table k ≡ Some other → t ≡ more ++ other.location → length other.location ≤ length row.location

abbrev pub OwnersAreLongest : Type 0
OwnersAreLongest = (table : List MountText) (t : Text) → AreSettled table → OwnedAt table t

-- a text's own index and its host text give the text back
abbrev pub HostTextsGoBack : Type 0
HostTextsGoBack = (table : List MountText) (t : Text) → AreSettled table → guest_of table (index_of table t) (host_of table t) ≡ Some t

-- settled rows are read back from their bytes
abbrev pub RowsAreRead : Type 0
RowsAreRead = (table : List MountText) → AreSettled table → rows_of (map bound_of table) ≡ table
