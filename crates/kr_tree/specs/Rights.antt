-- What the one user may do with what is in a tree.
use Rattle.std.specs.Prelude.{ℕ, Bool, false}
use Rattle.std.specs.Option.{option_map_or}
use Rattle.kr_inode.specs.declared.user.User.{User}
use Rattle.kr_inode.specs.declared.user.Right.{Right}
use Rattle.kr_tree.specs.Tree.{Tree, node}
-- what it may do with a node by itself
pub use Rattle.kr_inode.specs.Rights.{class_bits, right_bit, allows, is_kept_by_sticky}

-- whether the inode is there and the user has the right
abbrev pub may : Tree → User → ℕ → Right → Bool
may t user i right = option_map_or (λ n. allows user n right) (node t i) false
