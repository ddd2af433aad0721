-- What is reached from the root of a tree, with the bytes of files, as far as execve(2) reads it at its first stop.
use Rattle.kr_loose.specs.kr_tree.Tree.{Tree}
use Rattle.kr_loose.specs.kr_model.Judged.{HasShape, IsReachedStill}
use Rattle.kr_loose.specs.law_steady.Bytes.{HasBytes}

-- a tree of the same shape whose files have the same bytes has the same nodes wherever a text leads
abbrev pub BytesAreReached : Type 0
BytesAreReached = (t u : Tree) → HasShape t u → HasBytes t u → IsReachedStill (λ n. n) t u

-- from tree to tree the shape is kept, and so are nodes. Bytes by themselves aren't: an inode may be missing in the tree between
pub record ReachesGoOn : Type 0 where
  pub shapes : (t u v : Tree) → HasShape t u → HasShape u v → HasShape t v
  pub nodes : (t u v : Tree) → IsReachedStill (λ n. n) t u → IsReachedStill (λ n. n) u v → IsReachedStill (λ n. n) t v
