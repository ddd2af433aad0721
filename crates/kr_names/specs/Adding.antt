-- A new node under a name of a directory, whatever call makes it.
use Rattle.std.specs.Prelude.{ℕ, ◌≡◌, true, List, [], ◌∷◌, length, None, if◌then◌else◌}
use Rattle.kr_seen.specs.pr_base.declared.errno.Errno.TheVariants.{ENOSPC}
use Rattle.kr_seen.specs.kr_tree.declared.place.Host.{Host}
use Rattle.kr_seen.specs.kr_tree.declared.place.Host.TheVariants as host
use Rattle.kr_seen.specs.kr_tree.Names.{is_name}
use Rattle.kr_seen.specs.kr_tree.Tree.{Body, Node, Tree, body_is, bytes_of, entry, takes_names}
use Rattle.kr_seen.specs.kr_model.Asking.{has_no_room}
use Rattle.kr_seen.specs.kr_model.Change.{AddNode}
use Rattle.kr_seen.specs.kr_model.Known.{Known}
use Rattle.kr_seen.specs.kr_model.Reply.{Replying, done, refuse}

-- the node is the user's; ENOSPC where there is no room for it
abbrev pub adding : Known → List ℕ → ℕ → Body → ℕ → Node → Replying
adding k name mode body d n =
    if has_no_room (length (bytes_of body)) k then refuse ENOSPC
    else done 0 (AddNode d name mode k.user.uid k.user.gid body ∷ [])

-- a name is well-formed and free in a directory that takes names
abbrev pub IsFreeName : Tree → Host → List ℕ → Type 0
IsFreeName t h name = (dir : ℕ) → h ≡ host.Node dir → body_is takes_names t dir ≡ true → (is_name name ≡ true) × (entry t dir name ≡ None)
