-- How often inodes and open files are held in a state where the holds are what its uses make of them.
use Rattle.std.specs.FinMap as map
use Rattle.std.specs.Prelude.{◌≡◌, ℕ, ◌+◌, ◌-◌, ◌≤◌, ◌<◌, ◌==◌, ◌^◌, List, Some, IsSome, if◌then◌else◌}
use Rattle.kr_model.specs.kr_tree.Tree.{Tree, inode}
use Rattle.kr_model.specs.kr_tree.Changes.{held, released}
use Rattle.kr_model.specs.kr_tree.Holds.{holds_at}
use Rattle.kr_model.specs.kr_tree.declared.place.Place.{Place}
use Rattle.kr_model.specs.kr_files.Files.{Counted}
use Rattle.kr_model.specs.kr_view.View.{Row}
use Rattle.kr_model.specs.Bare.{pins_of}
use Rattle.kr_model.specs.Lawful.{ArePids}
use Rattle.kr_model.specs.State.{Process, State, inode_of, process, place_of}
use Rattle.kr_model.specs.Uses.{AreUses, process_use, names_of_file}

-- ---- what a hold and a release do

-- 1 for this inode, and nothing for any other
abbrev pub one_at : ℕ → ℕ → ℕ
one_at i q = if i == q then 1 else 0

pub record HoldsChange (t : Tree) : Type 0 where
  pub held : (i : ℕ) → IsSome (inode t i) → (q : ℕ) → holds_at (held i t) q ≡ holds_at t q + one_at i q
  pub released : (i q : ℕ) → holds_at (released i t) q ≡ holds_at t q - one_at i q

-- ---- bounds

-- the mounts hold an inode once at most
abbrev pub PinsAreFew : Type 0
PinsAreFew = (table : List Row) (i : ℕ) → pins_of table i ≤ 1

module _ {M X : Type 0} where
  -- each inode and each open file has room for a copy of a process's descriptors and more
  pub record HaveRoom (s : State M X) : Type 0 where
    pub holds : (i : ℕ) → holds_at s.tree i + 2048 < 2 ^ 32
    pub counts : (n : ℕ) (h : Counted M) → map.get s.files.files n ≡ Some h → h.count + 2048 < 2 ^ 32

  -- what is used is held as often as it is used
  pub record AreHeld (pins : ℕ → ℕ) (s : State M X) : Type 0 where
    pub open_ : (n : ℕ) (p : Place M) → place_of s.files n ≡ Some p → 0 < holds_at s.tree (inode_of p.host)
    -- at least once for each descriptor that names the open file
    pub named : (n : ℕ) (p : Place M) → place_of s.files n ≡ Some p → names_of_file n s.living ≤ holds_at s.tree (inode_of p.host)
    -- a working directory and an executable that are the same inode hold it twice
    pub lives : (pid i : ℕ) (p : Process M X) → process pid s ≡ Some p → process_use i p ≤ holds_at s.tree i
    -- and beside all descriptors
    pub both : (n pid : ℕ) (place : Place M) (p : Process M X) → place_of s.files n ≡ Some place → process pid s ≡ Some p
        → names_of_file n s.living + process_use (inode_of place.host) p ≤ holds_at s.tree (inode_of place.host)
    pub pinned : (i : ℕ) → pins i ≤ holds_at s.tree i

-- there are at most 256 processes with at most 1,024 descriptors each
abbrev pub HoldsFit : Type 0 → Type 0 → Type 0
HoldsFit M X = (pins : ℕ → ℕ) (s : State M X) → AreUses pins s → ArePids s → ((i : ℕ) → pins i ≤ 1) → HaveRoom s

abbrev pub UsedIsHeld : Type 0 → Type 0 → Type 0
UsedIsHeld M X = (pins : ℕ → ℕ) (s : State M X) → AreUses pins s → AreHeld pins s

abbrev pub HoldsAreChanged : Type 0
HoldsAreChanged = (t : Tree) → HoldsChange t
