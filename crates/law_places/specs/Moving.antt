-- A name that is moved: what calm asks of the move, and what the move leaves. What is open below a moved directory stands at another
-- guest text then, in the same mount.
use Rattle.std.specs.Prelude.{◌≡◌, ◌==◌, ◌&&◌, ◌||◌, ℕ, true, false, List, Some, IsSome, bytes_eq}
use Rattle.kr_calm.specs.pr_base.Texts.{Text}
use Rattle.law_walks.specs.kr_tree.Changes.{renamed}
use Rattle.law_walks.specs.kr_tree.Lawful.{IsBelow}
use Rattle.law_walks.specs.kr_tree.Tree.{Tree, entry}
use Rattle.law_walks.specs.kr_tree.declared.place.Host.TheVariants.{Node}
use Rattle.law_walks.specs.kr_view.Component.{Namespace, may_search}
use Rattle.law_walks.specs.kr_view.View.{Point, Row, row}
use Rattle.law_walks.specs.kr_model.Applied.{Mounts, applied, images}
use Rattle.law_walks.specs.kr_model.Change.{MoveName}
use Rattle.law_walks.specs.kr_model.Conditions.{CanBeMade, CanMove}
use Rattle.law_walks.specs.kr_model.ProcessDirectory.{space_of}
use Rattle.law_walks.specs.kr_model.State.{Image, State, inode_of, process}
use Rattle.law_walks.specs.Standing.{reached_in}
use Rattle.law_places.specs.Losses.{InodesStay, KeepsTable, KeepsUse, Losses}
use Rattle.law_places.specs.Standing.{PlacesStand}
use Rattle.law_places.specs.Taking.{SparesSources}
use Rattle.law_places.specs.Uses.{IsUse, Use}

-- the name that goes, and the one that leads elsewhere
abbrev pub names_of_move : ℕ → List ℕ → ℕ → List ℕ → Losses
names_of_move dir name to new = record { gone = λ d n. (d == dir && bytes_eq n name) || (d == to && bytes_eq n new); shut = λ d. false; over = λ pid. false }

-- an inode above nothing that is in use as a directory
abbrev pub IsAboveNoUse : State ℕ Image → ℕ → Type 0
IsAboveNoUse s i = (x : Use) → IsUse s x → x.is_directory ≡ true → ¬ IsBelow s.tree i (inode_of x.place.host)

-- an inode above no source and no mount point of a table
abbrev pub IsAboveNoRow : List Row → State ℕ Image → ℕ → Type 0
IsAboveNoRow table s i = (k : ℕ) (r : Row) → row table k ≡ Some r → (¬ IsBelow s.tree i r.source_dir) × ((p : Point) → r.point ≡ Some p → ¬ IsBelow s.tree i p.dir)

pub record SparesMove (table : List Row) (s : State ℕ Image) (dir : ℕ) (name : List ℕ) (to : ℕ) (new : List ℕ) : Type 0 where
  -- neither name is a source's, and what moves stands above no row
  pub old_source : SparesSources table dir name
  pub new_source : SparesSources table to new
  pub rows : (i : ℕ) → entry s.tree dir name ≡ Some i → IsAboveNoRow table s i
  -- no directory in use moves or is replaced
  pub moved : (i : ℕ) → entry s.tree dir name ≡ Some i → IsAboveNoUse s i
  pub replaced : (i : ℕ) → entry s.tree to new ≡ Some i → IsAboveNoUse s i

-- the tree loses two names, and neither the table nor a directory in use needs them, nor what is remembered elsewhere
pub record MoveLeaves (table : List Row) (s : State ℕ Image) (dir : ℕ) (name : List ℕ) (to : ℕ) (new : List ℕ) (own : ℕ) : Type 0 where
  pub inodes : InodesStay s.user (names_of_move dir name to new) s.tree.inodes (renamed dir name to new s.tree).inodes
  pub rows : KeepsTable (names_of_move dir name to new) (space_of table s)
  pub directories : (x : Use) → IsUse s x → x.is_directory ≡ true → KeepsUse (names_of_move dir name to new) (space_of table s) x
  pub files : (x : Use) → IsUse s x → x.is_directory ≡ false → ¬ ((x.dir ≡ dir) × (x.name ≡ name)) → ¬ ((x.dir ≡ to) × (x.name ≡ new)) → ¬ IsBelow s.tree own x.dir → KeepsUse (names_of_move dir name to new) (space_of table s) x

abbrev pub MovesLeaveMost : Type 0
MovesLeaveMost =
    (table : List Row) (s : State ℕ Image) (dir : ℕ) (name : List ℕ) (to : ℕ) (new : List ℕ) (own : ℕ) → PlacesStand table s → entry s.tree dir name ≡ Some own → CanMove table s.tree dir name to new → SparesMove table s dir name to new
    → MoveLeaves table s dir name to new own

-- ---- all places

-- whatever source of a table the directory of the old name lies below, that of the new one does; and whatever covered entry that of the
-- new one lies below, that of the old one does
pub record LieAlike (table : List Row) (t : Tree) (dir to : ℕ) : Type 0 where
  pub sources : (k : ℕ) (r : Row) → row table k ≡ Some r → IsBelow t r.source dir → IsBelow t r.source to
  pub points : (k : ℕ) (r : Row) (p : Point) (i : ℕ) → row table k ≡ Some r → r.point ≡ Some p → entry t p.dir p.name ≡ Some i → IsBelow t i to → IsBelow t i dir

-- the user comes to a directory by its host text, and may search it
pub record IsComeTo (space : Namespace) (dir : ℕ) : Type 0 where
  pub host : Text
  pub way : reached_in space host ≡ Some (Node dir)
  pub search : may_search space.tree space.user (Node dir) ≡ true

-- all places stand after a move between such directories that spares sources, mount points and directories in use
abbrev pub MovesKeepPlaces : Type 0
MovesKeepPlaces =
    (table : List Row) (mounts : Mounts ℕ) (pid dir : ℕ) (name : List ℕ) (to : ℕ) (new : List ℕ) (s : State ℕ Image) → PlacesStand table s → IsSome (process pid s) → CanBeMade (λ m. m) table mounts pid s (MoveName dir name to new)
    → SparesMove table s dir name to new → LieAlike table s.tree dir to → IsComeTo (space_of table s) to → PlacesStand table (applied images mounts pid (MoveName dir name to new) s)
