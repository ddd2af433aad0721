-- What walks go through before a process lives.
use Rattle.std.specs.Prelude.{List}
use Rattle.pr_start.specs.kr_inode.declared.user.User.{User}
use Rattle.pr_start.specs.kr_tree.Tree.{Tree}
use Rattle.pr_start.specs.kr_view.Component.{Namespace}
use Rattle.pr_start.specs.kr_view.Processes.{no_finds}
use Rattle.pr_start.specs.kr_view.View.{Row}

abbrev pub first_space : List Row → Tree → User → Namespace
first_space table tree user = record { table = table; tree = tree; user = user; finds = no_finds }
