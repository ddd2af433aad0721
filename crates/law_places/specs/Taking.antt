-- Changes that take something away: a name, the search of a directory, a process. All places stand after them, where they spare what
-- the table and the places in use need.
use Rattle.std.specs.Prelude.{◌≡◌, ◌≢◌, ℕ, true, false, List, Some, IsSome}
use Rattle.law_walks.specs.kr_inode.declared.user.Right.TheVariants.{Search}
use Rattle.law_walks.specs.kr_tree.Rights.{may}
use Rattle.law_walks.specs.kr_tree.Tree.{entry}
use Rattle.law_walks.specs.kr_tree.declared.place.Host.TheVariants.{Node, Proc}
use Rattle.law_walks.specs.kr_tree.declared.place.ProcAt.{ProcAt}
use Rattle.law_walks.specs.kr_view.View.{Row, row}
use Rattle.law_walks.specs.kr_model.Applied.{Mounts, applied, images}
use Rattle.law_walks.specs.kr_model.Change.{Change, End, RemoveName, SetMode, SetOwner}
use Rattle.law_walks.specs.kr_model.Conditions.{CanBeMade}
use Rattle.law_walks.specs.kr_model.ProcessDirectory.{space_of}
use Rattle.law_walks.specs.kr_model.State.{Image, State, process}
use Rattle.law_places.specs.Losses.{KeepsTable, KeepsUse, pid_of, search_of}
use Rattle.law_places.specs.Standing.{PlacesStand}
use Rattle.law_places.specs.Uses.{IsUse, Use}

-- ---- a name

-- no mount's source is the entry
abbrev pub SparesSources : List Row → ℕ → List ℕ → Type 0
SparesSources table dir name = (k : ℕ) (r : Row) → row table k ≡ Some r → r.source_dir ≡ dir → r.source_name ≢ name

-- no directory in use is the inode
abbrev pub SparesDirectories : State ℕ Image → ℕ → Type 0
SparesDirectories s i = (x : Use) → IsUse s x → x.is_directory ≡ true → x.place.host ≢ Node i

abbrev pub RemovalsKeepPlaces : Type 0
RemovalsKeepPlaces =
    (table : List Row) (mounts : Mounts ℕ) (pid dir : ℕ) (name : List ℕ) (s : State ℕ Image) → PlacesStand table s → IsSome (process pid s) → CanBeMade (λ m. m) table mounts pid s (RemoveName dir name)
    → SparesSources table dir name → ((i : ℕ) → entry s.tree dir name ≡ Some i → SparesDirectories s i) → PlacesStand table (applied images mounts pid (RemoveName dir name) s)

-- ---- search

-- nothing that has to be searched is the inode
pub record SparesSearch (table : List Row) (s : State ℕ Image) (i : ℕ) : Type 0 where
  pub mounts : KeepsTable (search_of i) (space_of table s)
  pub uses : (x : Use) → IsUse s x → KeepsUse (search_of i) (space_of table s) x

-- where a change of an inode's mode or owner takes search away, the inode is spared
abbrev pub SparesLostSearch : List Row → Mounts ℕ → ℕ → State ℕ Image → ℕ → Change → Type 0
SparesLostSearch table mounts pid s i c = may s.tree s.user i Search ≡ true → may (applied images mounts pid c s).tree s.user i Search ≡ false → SparesSearch table s i

pub record RightsKeepPlaces : Type 0 where
  pub modes : (table : List Row) (mounts : Mounts ℕ) (pid i mode : ℕ) (s : State ℕ Image) → PlacesStand table s → IsSome (process pid s) → CanBeMade (λ m. m) table mounts pid s (SetMode i mode) → SparesLostSearch table mounts pid s i (SetMode i mode)
      → PlacesStand table (applied images mounts pid (SetMode i mode) s)
  pub owners : (table : List Row) (mounts : Mounts ℕ) (pid i uid gid : ℕ) (s : State ℕ Image) → PlacesStand table s → IsSome (process pid s) → CanBeMade (λ m. m) table mounts pid s (SetOwner i uid gid) → SparesLostSearch table mounts pid s i (SetOwner i uid gid)
      → PlacesStand table (applied images mounts pid (SetOwner i uid gid) s)

-- ---- a process

-- nothing that is in use in a state belongs to a process
abbrev pub SparesProcess : State ℕ Image → ℕ → Type 0
SparesProcess s pid = (x : Use) (i : ℕ) (at : ProcAt) → IsUse s x → x.place.host ≡ Proc i at → pid_of at ≢ pid

abbrev pub EndsKeepPlaces : Type 0
EndsKeepPlaces =
    (table : List Row) (mounts : Mounts ℕ) (pid status : ℕ) (s : State ℕ Image) → PlacesStand table s → IsSome (process pid s) → SparesProcess (applied images mounts pid (End status) s) pid
    → PlacesStand table (applied images mounts pid (End status) s)
