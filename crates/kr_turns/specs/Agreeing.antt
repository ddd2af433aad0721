-- What a watcher keeps agrees with the tree of a state, as its user walks it.
use Rattle.std.specs.Prelude.{ℕ}
use Rattle.kr_hostview.specs.kr_inode.declared.user.User.{User}
use Rattle.kr_execve.specs.kr_tree.Tree.{Tree}
use Rattle.kr_hostview.specs.kr_ops.declared.state.State.{State}

abbrev pub AgreesIn : {S T : Type 0} {M : ℕ} → (agrees : S → Tree → User → Type 0) → S → State T M → Type 0
AgreesIn agrees x s = agrees x s.tree s.user
