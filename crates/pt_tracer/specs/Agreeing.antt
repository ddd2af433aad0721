-- What a walker remembers agrees with a tree, as a user walks it.
use Rattle.std.specs.Prelude.{◌≡◌, ℕ}
use Rattle.law_steady.specs.kr_model.Judged.{HasShape}
use Rattle.law_steady.specs.kr_model.Peeks.{peeked_of}
use Rattle.law_steady.specs.kr_model.State.{Image, State}
use Rattle.law_steady.specs.kr_tree.Tree.{Tree}
use Rattle.pt_faker.specs.kr_inode.declared.user.User.{User}
use Rattle.pt_faker.specs.Stopping.{Stopped}
use Rattle.law_steady.specs.pt_canon.Remembering.{Agrees, Walking}

-- with what a kernel tells in every state of that user whose tree has that shape, whoever asks
pub record AgreesWith (w : Walking) (tree : Tree) (user : User) : Type 0 where
  pub everywhere : (s : State ℕ Image) (caller : ℕ) → HasShape tree s.tree → s.user ≡ user → Agrees w (peeked_of s caller)

-- what walks at a stop leave of a walker
pub record WalksAt (t : Stopped) (old new : Walking) : Type 0 where
  pub table : new.table ≡ old.table
  pub pauses : new.pauses ≡ old.pauses
  pub agrees : AgreesWith new t.state.tree t.state.user
