-- The tree of inodes, as path_resolution(7) and stat(2) speak of it, and its look-ups.
use Rattle.std.specs.Prelude.{ℕ, Bool, false, List, [], map as map_list, Option, refl}
use Rattle.std.specs.FinMap as map
use Rattle.std.specs.Option.{option_map, option_map_or, option_and_then}
use Rattle.std.specs.Ordering.{nat_cmp}
use Rattle.std.specs.Coded.{Coded, code_by, coded×, coded_ℕ}
use Rattle.kr_inode.specs.declared.standing.Standing.{Standing}
use Rattle.kr_inode.specs.Inode.{inode_code}
-- a node by itself
pub use Rattle.kr_inode.specs.Inode.{Entry, Body, Directory, RegularFile, SymbolicLink, ProcessDirectory, Node, Inode, entries_of, standing_of, is_directory, is_listed, takes_names, is_filled, is_file, may_be_linked, bytes_of, file_of, text_of, entry_named, entry_at, entry_after}

abbrev pub Inodes : Type 0
Inodes = map.FinMap nat_cmp Inode

-- the inodes by their numbers, the number that the next one takes, and how many names and bytes of
-- files and of links' texts there are in all
pub record Tree : Type 0 where
  pub inodes : Inodes
  pub next : ℕ
  pub names : ℕ
  pub bytes : ℕ

-- ---- how these values are told apart

abbrev pub inodes_code : Coded Inodes
inodes_code = map.code coded_ℕ inode_code

abbrev pub tree_code : Coded Tree
tree_code =
    code_by (Inodes × (ℕ × (ℕ × ℕ))) (coded× inodes_code (coded× coded_ℕ (coded× coded_ℕ coded_ℕ)))
    (λ t. (t.inodes, (t.next, (t.names, t.bytes))))
    (λ p. record { inodes = p.0; next = p.1.0; names = p.1.1.0; bytes = p.1.1.1 }) (λ _. refl)

-- ---- the tree

abbrev pub root : ℕ
root = 1

abbrev pub inode : Tree → ℕ → Option Inode
inode t i = map.get t.inodes i

abbrev pub node : Tree → ℕ → Option Node
node t i = option_map (λ x. x.node) (inode t i)

abbrev pub body : Tree → ℕ → Option Body
body t i = option_map (λ x. x.node.body) (inode t i)

-- whether the inode is there and its body passes a test
abbrev pub body_is : (Body → Bool) → Tree → ℕ → Bool
body_is test t i = option_map_or (λ x. test x.node.body) (inode t i) false

-- the entries of a directory, and none where there is no directory
abbrev pub entries : Tree → ℕ → List Entry
entries t dir = option_map_or (λ x. entries_of x.node.body) (inode t dir) []

-- the inode that a name in a directory stands for
abbrev pub entry : Tree → ℕ → List ℕ → Option ℕ
entry t dir name = option_map (λ e. e.inode) (entry_named name (entries t dir))

-- where a directory stands
abbrev pub standing : Tree → ℕ → Option Standing
standing t dir = option_and_then (λ x. standing_of x.node.body) (inode t dir)

-- the inode above a directory
abbrev pub above : Tree → ℕ → Option ℕ
above t dir = option_map (λ s. s.inode) (standing t dir)

-- ---- what is left where a part of the tree is forgotten

-- the map with each value changed by f
unfoldable pub with_values : {X Y : Type 0} → (X → Y) → map.FinMap nat_cmp X → map.FinMap nat_cmp Y
with_values f m = map.from_entries (map_list (λ e. (e.0, f e.1)) (map.entries m))

abbrev pub Nodes : Type 0
Nodes = map.FinMap nat_cmp Node

-- the nodes alone, without what is kept beside them
abbrev pub nodes : Tree → Nodes
nodes t = with_values (λ x. x.node) t.inodes

-- no bytes in place of those of a file
abbrev pub body_without_bytes : Body → Body
body_without_bytes (Directory entries standing) = Directory entries standing
body_without_bytes (RegularFile bytes) = RegularFile []
body_without_bytes (SymbolicLink text) = SymbolicLink text
body_without_bytes (ProcessDirectory standing) = ProcessDirectory standing

-- the nodes with no bytes in the files
abbrev pub nodes_without_bytes : Tree → Nodes
nodes_without_bytes t = with_values (λ x. record { mode = x.node.mode; uid = x.node.uid; gid = x.node.gid; body = body_without_bytes x.node.body }) t.inodes
