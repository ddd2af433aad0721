-- How often the inodes of a tree are held, and a tree with fewer holds.
use Rattle.std.specs.Prelude.{ℕ, ◌≡◌, ◌+◌, ◌-◌, ◌≤◌, ◌<◌, ◌^◌, List, IsSome}
use Rattle.std.specs.Option.{option_map, option_map_or}
use Rattle.kr_inode.specs.pr_base.Maps.{mapped}
use Rattle.kr_tree.specs.Tree.{Tree, Inode, Body, inode, node, nodes, entry, entries}
use Rattle.kr_tree.specs.Changes.{with_holds, new_tree, added, linked, removed, renamed, held, released, mode_set, owner_set, bytes_set, next_serial, has_no_room, has_no_name_left, has_no_room_for}
use Rattle.kr_tree.specs.Lawful.{IsSound, IsKept, total}

-- how many names an inode has, and how often it is held; none where it isn't there
abbrev pub names_at : Tree → ℕ → ℕ
names_at t i = option_map_or (λ x. x.names) (inode t i) 0

abbrev pub holds_at : Tree → ℕ → ℕ
holds_at t i = option_map_or (λ x. x.holds) (inode t i) 0

-- ---- a bound

-- the holds on all inodes
abbrev pub holds_in_all : Tree → ℕ
holds_in_all t = total (λ x. x.holds) t

-- what each change does to the holds in all, of which no inode has more: so where there is room for one more in
-- all, there is on each inode
pub record HoldsInAll (t : Tree) : Type 0 where
  pub most : (i : ℕ) → holds_at t i ≤ holds_in_all t
  pub fits : holds_in_all t + 1 < 2 ^ 32 → (i : ℕ) → holds_at t i + 1 < 2 ^ 32
  pub held : (i : ℕ) → IsSome (inode t i) → holds_in_all (held i t) ≡ holds_in_all t + 1
  pub released : (i : ℕ) → 0 < holds_at t i → holds_in_all (released i t) + 1 ≡ holds_in_all t
  pub added : (dir : ℕ) (name : List ℕ) (mode uid gid : ℕ) (body : Body) → holds_in_all (added dir name mode uid gid body t) ≡ holds_in_all t
  pub linked : (dir : ℕ) (name : List ℕ) (file : ℕ) → holds_in_all (linked dir name file t) ≡ holds_in_all t
  pub removed : (dir : ℕ) (name : List ℕ) → holds_in_all (removed dir name t) ≡ holds_in_all t
  pub renamed : (dir : ℕ) (name : List ℕ) (to : ℕ) (new : List ℕ) → holds_in_all (renamed dir name to new t) ≡ holds_in_all t
  pub mode_set : (i mode : ℕ) → holds_in_all (mode_set i mode t) ≡ holds_in_all t
  pub owner_set : (i uid gid : ℕ) → holds_in_all (owner_set i uid gid t) ≡ holds_in_all t
  pub bytes_set : (i : ℕ) (f : List ℕ → List ℕ) → holds_in_all (bytes_set i f t) ≡ holds_in_all t

pub record HoldsAreCounted : Type 0 where
  pub none : (mode uid gid : ℕ) → holds_in_all (new_tree mode uid gid) ≡ 0
  pub changed : (t : Tree) → IsSound t → HoldsInAll t

-- ---- fewer holds

-- an inode with n fewer holds
abbrev pub fewer : ℕ → Inode → Inode
fewer n x = with_holds (λ holds. holds - n) x

-- the tree with `less i` fewer holds on each inode i
abbrev pub with_fewer : (ℕ → ℕ) → Tree → Tree
with_fewer less t = record { inodes = mapped (λ i. fewer (less i)) t.inodes; next = t.next; names = t.names; bytes = t.bytes }

-- each change does on the tree with fewer holds what it does on the tree: all but three whatever holds are taken
-- off. A hold is put on where no more were taken off than there are; and what takes a hold or a name away drops
-- the same inodes, where those of which holds were taken off have a name: a release before it, the others
-- behind them
pub record ChangesWithFewerHolds (less : ℕ → ℕ) (t : Tree) : Type 0 where
  pub added : (dir : ℕ) (name : List ℕ) (mode uid gid : ℕ) (body : Body) → with_fewer less (added dir name mode uid gid body t) ≡ added dir name mode uid gid body (with_fewer less t)
  pub linked : (dir : ℕ) (name : List ℕ) (file : ℕ) → with_fewer less (linked dir name file t) ≡ linked dir name file (with_fewer less t)
  pub removed : (dir : ℕ) (name : List ℕ) → ((i : ℕ) → 0 < less i → 0 < names_at (removed dir name t) i) → with_fewer less (removed dir name t) ≡ removed dir name (with_fewer less t)
  pub renamed : (dir : ℕ) (name : List ℕ) (to : ℕ) (new : List ℕ) → ((i : ℕ) → 0 < less i → 0 < names_at (renamed dir name to new t) i) → with_fewer less (renamed dir name to new t) ≡ renamed dir name to new (with_fewer less t)
  pub held : (i : ℕ) → less i ≤ holds_at t i → with_fewer less (held i t) ≡ held i (with_fewer less t)
  pub released : (i : ℕ) → (0 < less i → 0 < names_at t i) → with_fewer less (released i t) ≡ released i (with_fewer less t)
  pub mode_set : (i mode : ℕ) → with_fewer less (mode_set i mode t) ≡ mode_set i mode (with_fewer less t)
  pub owner_set : (i uid gid : ℕ) → with_fewer less (owner_set i uid gid t) ≡ owner_set i uid gid (with_fewer less t)
  pub bytes_set : (i : ℕ) (f : List ℕ → List ℕ) → with_fewer less (bytes_set i f t) ≡ bytes_set i f (with_fewer less t)

-- what is looked up in a tree is the same with fewer holds, and so is whether a change passes a limit
pub record LooksWithFewerHolds (less : ℕ → ℕ) (t : Tree) : Type 0 where
  pub inode : (i : ℕ) → inode (with_fewer less t) i ≡ option_map (fewer (less i)) (inode t i)
  pub nodes : nodes (with_fewer less t) ≡ nodes t
  pub node : (i : ℕ) → node (with_fewer less t) i ≡ node t i
  pub entries : (dir : ℕ) → entries (with_fewer less t) dir ≡ entries t dir
  pub entry : (dir : ℕ) (name : List ℕ) → entry (with_fewer less t) dir name ≡ entry t dir name
  pub next_serial : (dir : ℕ) → next_serial (with_fewer less t) dir ≡ next_serial t dir
  pub names : (i : ℕ) → names_at (with_fewer less t) i ≡ names_at t i
  pub holds : (i : ℕ) → holds_at (with_fewer less t) i ≡ holds_at t i - less i
  pub room : (size : ℕ) → has_no_room size (with_fewer less t) ≡ has_no_room size t
  pub name_left : has_no_name_left (with_fewer less t) ≡ has_no_name_left t
  pub room_for : (file new : ℕ) → has_no_room_for file new (with_fewer less t) ≡ has_no_room_for file new t

abbrev pub ChangesAreAlikeWithFewerHolds : Type 0
ChangesAreAlikeWithFewerHolds = (less : ℕ → ℕ) (t : Tree) → ChangesWithFewerHolds less t

abbrev pub TreesLookAlikeWithFewerHolds : Type 0
TreesLookAlikeWithFewerHolds = (less : ℕ → ℕ) (t : Tree) → LooksWithFewerHolds less t

-- a tree that is kept is so with fewer holds, where what they were taken off has a name
abbrev pub TreesAreKeptWithFewerHolds : Type 0
TreesAreKeptWithFewerHolds = (less : ℕ → ℕ) (t : Tree) → IsKept t → ((i : ℕ) → 0 < less i → 0 < names_at t i) → IsKept (with_fewer less t)
