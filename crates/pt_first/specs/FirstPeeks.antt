-- What a tracer is told before a process lives: what walks of the host's own view find then, where the process directory has no names and
-- a last link isn't followed.
use Rattle.std.specs.Prelude.{ℕ, Bool, List, None, Result, Err}
use Rattle.pr_words.specs.pr_base.Peeks.{Peeked}
use Rattle.pr_words.specs.pr_base.declared.errno.Errno.{Errno}
use Rattle.pr_words.specs.pr_base.declared.errno.Errno.TheVariants.{EINVAL}
use Rattle.pr_words.specs.pr_base.declared.path.WalkMode.TheVariants.{LookLink}
use Rattle.pr_words.specs.pr_base.declared.peeks.BaseKind.TheVariants as base_kind
use Rattle.pr_words.specs.pr_base.declared.peeks.PeekKind.{PeekKind}
use Rattle.kr_first.specs.kr_inode.declared.user.User.{User}
use Rattle.kr_first.specs.kr_tree.declared.place.Host.{Host}
use Rattle.kr_first.specs.kr_tree.declared.place.Host.TheVariants.{Node, Proc}
use Rattle.kr_first.specs.kr_tree.Tree.{Tree, body}
use Rattle.kr_first.specs.kr_view.Component.{seen_at}
use Rattle.kr_first.specs.kr_view.HostReach.{host_place}
use Rattle.kr_first.specs.kr_view.View.{plain, root_place}
use Rattle.kr_first.specs.kr_view.Walk.{PlaceTarget, PlaceTrail, place_walk}
use Rattle.kr_first.specs.kr_model.Peeks.{body_text, head_at, kind_along, kind_seen, read_of, steady_along}
use Rattle.kr_first.specs.Starting.{around}

-- a tree, in the name of a user, and whether the process directory is unmet so far
pub record Asked : Type 0 where
  pub tree : Tree
  pub user : User
  pub unmet : Bool

-- and what a peek leaves
pub record Left : Type 0 where
  pub tree : Tree
  pub user : User

-- nothing stands in the process directory, so no link of it is read
abbrev pub link_text_at : Tree → Host → Result (List ℕ) Errno
link_text_at tree (Node i) = body_text (body tree i)
link_text_at tree (Proc i at) = Err EINVAL

module _ (tree : Tree) (user : User) where
  -- the plain kernel's walk along a host path
  abbrev pub host_walk : List ℕ → PlaceTrail
  host_walk path = place_walk (around plain tree user) LookLink (root_place plain) path

  -- where it ends
  abbrev pub answer_along : List ℕ → Result PlaceTarget Errno
  answer_along path = (host_walk path).answer

  -- whether it looks up no name in the process directory
  abbrev pub is_steady_path : List ℕ → Bool
  is_steady_path path = steady_along (around plain tree user) LookLink path

  abbrev pub kind_at : Host → Result PeekKind Errno
  kind_at x = kind_seen (seen_at (around plain tree user) (host_place x) x)

  -- no process has anything
  abbrev pub first_peeked : Peeked
  first_peeked = record {
    kind = λ path. kind_along (around plain tree user) path;
    link_text = λ path. read_of (link_text_at tree) (answer_along path);
    head = λ path n. read_of (head_at tree user n) (answer_along path);
    steady = λ path. is_steady_path path;
    base_kind = λ pid fd. base_kind.Closed;
    base_name = λ pid fd. None;
    cwd_name = λ pid. None;
    exe_name = λ pid. None;
  }
