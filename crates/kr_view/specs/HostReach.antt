-- What a host text reaches with search on each directory on the way, in the tree and in the process directory.
use Rattle.std.specs.Prelude.{ℕ, Bool, not, List, [], ◌∷◌, Option, Some, None, if◌then◌else◌}
use Rattle.std.specs.Option.{option_map, option_and_then}
use Rattle.kr_tree.specs.pr_base.Texts.{Text}
use Rattle.kr_tree.specs.kr_inode.declared.user.User.{User}
use Rattle.kr_tree.specs.declared.place.Host.{Host}
use Rattle.kr_tree.specs.declared.place.Host.TheVariants.{Node, Proc}
use Rattle.kr_tree.specs.declared.place.Place.{Place}
use Rattle.kr_tree.specs.Tree.{Tree, root, body_is, entry}
use Rattle.kr_view.specs.Laws.{is_link}
use Rattle.kr_view.specs.Component.{Finds, is_process_directory, is_processes, is_directory_at, may_search}

-- ---- objects of the host

-- whether an object is a link: all but the directories of the process directory are
abbrev pub is_link_at : Tree → Host → Bool
is_link_at t (Node i) = body_is is_link t i
is_link_at t (Proc i at) = not (is_process_directory at)

-- an object as the host's own view sees it
abbrev pub host_place : Host → Place ℕ
host_place x = record { mount = 0; host = x }

-- the object that a name stands for in a directory
abbrev pub object_in : Tree → Finds → List ℕ → Host → Option Host
object_in t finds name (Node i) =
    if body_is is_processes t i then option_map (λ at. Proc i at) (finds None name)
    else option_map (λ j. Node j) (entry t i name)
object_in t finds name (Proc i at) = option_map (λ found. Proc i found) (finds (Some at) name)

-- ---- texts

-- the object of a name in a directory that the user may search
abbrev pub object_searched : Tree → User → Finds → List ℕ → Host → Option Host
object_searched t user finds name dir =
    if is_directory_at t dir then (if may_search t user dir then object_in t finds name dir else None) else None

-- the object that a user reaches by a host text; no link is followed
abbrev pub reaches : Tree → User → Finds → Text → Option Host
reaches t user finds [] = Some (Node root)
reaches t user finds (name ∷ text) = option_and_then (object_searched t user finds name) (reaches t user finds text)
