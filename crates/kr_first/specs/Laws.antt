-- Where a working directory can always be.
use Rattle.std.specs.Prelude.{◌≡◌, ◌≢◌, ℕ, List, [], Some}
use Rattle.kr_start.specs.pr_base.Paths.{components_of}
use Rattle.kr_start.specs.kr_inode.declared.user.User.{User}
use Rattle.kr_start.specs.kr_tree.Tree.{Tree}
use Rattle.kr_execve.specs.kr_view.View.{Row, StandsIn, root_place}
use Rattle.kr_first.specs.Starting.{directory_at}

-- slashes alone lead to the root, which is a directory wherever the mounts stand
abbrev pub RootsAreDirectories : Type 0
RootsAreDirectories = (table : List Row) (tree : Tree) (user : User) (path : List ℕ) → StandsIn tree table → path ≢ [] → components_of path ≡ [] → directory_at table tree user path ≡ Some (root_place table)
