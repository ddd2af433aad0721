-- What the code answers of a directory that is to be changed.
use Rattle.std.specs.Prelude.{ℕ, ◌≡◌, true, Some, Result, Ok, Err}
use Rattle.kr_ops.specs.pr_base.declared.errno.Errno.{Errno}
use Rattle.kr_ops.specs.kr_tree.declared.place.Host.{Host}
use Rattle.kr_ops.specs.kr_tree.declared.place.Host.TheVariants as host
use Rattle.kr_ops.specs.kr_tree.Tree.{Node, takes_names}
use Rattle.kr_ops.specs.kr_model.Asking.{writable}
use Rattle.kr_ops.specs.kr_model.Known.{Known, known_node}
use Rattle.kr_ops.specs.kr_model.Reply.{Replying, refuse}

-- a directory of the tree that takes names: what follows is told its inode and its node
pub record IsTaking (k : Known) (h : Host) (dir : ℕ) : Type 0 where
  pub node : Node
  pub host : h ≡ host.Node dir
  pub there : known_node k dir ≡ Some node
  pub takes : takes_names node.body ≡ true
  pub goes_on : (next : ℕ → Node → Replying) → writable k h next ≡ next dir node

-- such a directory, or the error that is answered whatever would follow
abbrev pub IsWritable : Known → Host → Result ℕ Errno → Type 0
IsWritable k h (Ok dir) = IsTaking k h dir
IsWritable k h (Err errno) = (next : ℕ → Node → Replying) → writable k h next ≡ refuse errno
