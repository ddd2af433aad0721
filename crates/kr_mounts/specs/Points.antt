-- Where mounts stand: the way of a location's names through the mounts before it, on which missing names are made.
use Rattle.std.specs.Prelude.{ℕ, Bool, true, false, ◌&&◌, not, List, [], ◌∷◌, Option, Some, None, Result, Ok, Err, if◌then◌else◌}
use Rattle.kr_walk.specs.kr_inode.declared.user.User.{User}
use Rattle.kr_walk.specs.kr_inode.declared.user.Right.TheVariants.{Write, Search}
use Rattle.kr_walk.specs.kr_tree.declared.place.Host.{Host}
use Rattle.kr_walk.specs.kr_tree.declared.place.Host.TheVariants.{Node, Proc}
use Rattle.kr_walk.specs.kr_tree.declared.place.Place.{Place}
use Rattle.kr_walk.specs.kr_tree.Changes.{added, has_no_room}
use Rattle.kr_walk.specs.kr_tree.Names.{is_name}
use Rattle.kr_walk.specs.kr_tree.Rights.{may}
use Rattle.kr_walk.specs.kr_tree.Tree.{Tree, Body, Directory, RegularFile, body_is, entry, is_directory, takes_names}
use Rattle.kr_walk.specs.kr_view.Laws.{is_link}
use Rattle.kr_walk.specs.kr_view.View.{Point, Row, down}
use Rattle.kr_mounts.specs.declared.fault.BindWhy.{BindWhy}
use Rattle.kr_mounts.specs.declared.fault.BindWhy.TheVariants.{Kind, LinkOnTheWay, NoPoint}

-- the tree that is left, and an answer
pub record Left (A : Type 0) : Type 0 where
  pub tree : Tree
  pub answer : Result A BindWhy

abbrev pub refused : {A : Type 0} → Tree → BindWhy → Left A
refused t why = record { tree = t; answer = Err why }

-- ---- names that are made

-- the user may write into the directory and search it, the name is one that an entry may have, and no limit is passed
abbrev pub may_make : Tree → User → ℕ → List ℕ → Bool
may_make t user dir name = is_name name && (may t user dir Write && (may t user dir Search && not (has_no_room 0 t)))

-- a directory without entries, or a file without bytes, of the user
abbrev pub new_mode : Bool → ℕ
new_mode true = 493
new_mode false = 420

abbrev pub new_body : Bool → Body
new_body true = Directory [] None
new_body false = RegularFile []

abbrev pub made : Tree → User → ℕ → List ℕ → Bool → Tree
made t user dir name is_dir = added dir name (new_mode is_dir) user.uid user.gid (new_body is_dir) t

-- a name that is made, and what comes behind it
abbrev pub making : {A : Type 0} → Tree → User → ℕ → List ℕ → Bool → (Tree → Left A) → Left A
making t user dir name is_dir go = if may_make t user dir name then go (made t user dir name is_dir) else refused t NoPoint

-- ---- the way

-- what is looked for: whether the source is a directory, and whether a last link is kept
pub record Wanted : Type 0 where
  pub is_dir : Bool
  pub keep : Bool

-- an object at a last name: a link must be kept, and else it must be a directory as the source is
abbrev pub fits : Tree → Wanted → ℕ → Option BindWhy
fits t wanted i =
    if body_is is_link t i then (if wanted.keep then None else Some LinkOnTheWay)
    else (if body_is is_directory t i then (if wanted.is_dir then None else Some Kind) else (if wanted.is_dir then Some Kind else None))

abbrev pub point_unless : Tree → Point → Option BindWhy → Left Point
point_unless t p None = record { tree = t; answer = Ok p }
point_unless t p (Some why) = refused t why

-- the last name, in a directory of a mount
abbrev pub at_last_name : Tree → User → Wanted → Point → Option ℕ → Left Point
at_last_name t user wanted p (Some i) = point_unless t p (fits t wanted i)
at_last_name t user wanted p None = making t user p.dir p.name wanted.is_dir (λ u. record { tree = u; answer = Ok p })

-- a name behind which others come, where no mount stands: a link is refused, and a directory made
abbrev pub at_entry : Tree → User → ℕ → ℕ → List ℕ → Option ℕ → (Tree → ℕ → ℕ → Left Point) → Left Point
at_entry t user mount dir name (Some i) go = if body_is is_link t i then refused t LinkOnTheWay else go t mount i
at_entry t user mount dir name None go = making t user dir name true (λ u. go u mount t.next)

-- an object that a mount's point leads to; all sources are inodes
abbrev pub at_host : Tree → ℕ → Host → (Tree → ℕ → ℕ → Left Point) → Left Point
at_host t mount (Node i) go = go t mount i
at_host t mount (Proc i at) go = refused t NoPoint

abbrev pub through : Tree → User → ℕ → ℕ → List ℕ → Option (Place ℕ) → (Tree → ℕ → ℕ → Left Point) → Left Point
through t user mount dir name (Some p) go = at_host t p.mount p.host go
through t user mount dir name None go = at_entry t user mount dir name (entry t dir name) go

-- the way from a directory of a mount by a name, behind which come others, the next first. Names are looked up in
-- directories proper alone
abbrev pub way : User → List Row → Wanted → Tree → ℕ → ℕ → List ℕ → List (List ℕ) → Left Point
way user table wanted t mount dir name [] =
    if body_is takes_names t dir then at_last_name t user wanted (record { mount = mount; dir = dir; name = name }) (entry t dir name) else refused t NoPoint
way user table wanted t mount dir name (next ∷ names) =
    if body_is takes_names t dir then through t user mount dir name (down table mount dir name) (λ u m d. way user table wanted u m d next names) else refused t NoPoint
