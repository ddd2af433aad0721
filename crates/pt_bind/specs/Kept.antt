-- How a table keeps its locations. No public clause cites this module.
use Rattle.std.specs.Prelude.{◌≡◌, ℕ, ◌<◌, Bool, List, ◌++◌, length, position, reverse, Vec, Some, if◌then◌else◌}
use Rattle.std.specs.BTreeMap.{BTreeMap, get_by}
use Rattle.std.specs.Cmp.Lexicographic.{slice_cmp}
use Rattle.std.specs.Option.{unwrap_or}
use Rattle.std.specs.Ordering.{nat_cmp}
use Rattle.std.specs.Str.{bytes_eq}
use Rattle.pr_base.specs.MountText.{MountText}
use Rattle.pr_base.specs.Paths.{below_root}
use Rattle.pr_base.specs.Texts.{Text}
use Rattle.pr_base.specs.declared.bind.Bound.{Bound}
use Rattle.pt_bind.specs.Binding.{owner, host_of, source_of}

abbrev pub is_at : List ℕ → Bound → Bool
is_at bytes bound = bytes_eq bound.location bytes

-- each location has the number of the first row that is there
abbrev pub IsIndex : {Z : Type 0} → List Bound → BTreeMap (Vec ℕ Z) ℕ → Type 0
IsIndex bounds index = (bytes : List ℕ) → get_by (λ key. slice_cmp nat_cmp bytes key.items) index ≡ position (is_at bytes) bounds

-- the row to which a text belongs, and where in the text's bytes its location ends
pub record IsOwned (table : List MountText) (t : Text) (number end : ℕ) : Type 0 where
  pub owned : number ≡ owner table t
  pub there : number < length table
  pub top : Text
  pub rest : Text
  pub parted : t ≡ rest ++ top
  pub ends : end ≡ length (below_root top)
  pub host : host_of table t ≡ rest ++ source_of table number

-- the parts of a text that were read, those that are left, which row owns what was read, and how long that is
pub record IsReadTo (table : List MountText) (whole left : List (List ℕ)) (number end at : ℕ) : Type 0 where
  pub done : Text
  pub parted : whole ≡ reverse done ++ left
  pub long : at ≡ length (below_root done)
  pub owned : IsOwned table done number end

-- the location has the number, if it had none, and all others stay
abbrev pub IsNoted : {Z : Type 0} → BTreeMap (Vec ℕ Z) ℕ → List ℕ → ℕ → BTreeMap (Vec ℕ Z) ℕ → Type 0
IsNoted old location number new =
    (bytes : List ℕ) → get_by (λ key. slice_cmp nat_cmp bytes key.items) new ≡
    (if bytes_eq location bytes then Some (unwrap_or (get_by (λ key. slice_cmp nat_cmp bytes key.items) old) number) else get_by (λ key. slice_cmp nat_cmp bytes key.items) old)
