-- What a walk keeps of where it stands.
use Rattle.std.specs.Prelude.{ℕ, ◌≡◌, Bool, false, not, List, Option}
use Rattle.std.specs.Option.{option_map}
use Rattle.kr_view.specs.kr_tree.pr_base.Paths.{below_root}
use Rattle.kr_view.specs.kr_tree.declared.place.Host.{Host}
use Rattle.kr_view.specs.kr_tree.declared.place.ProcAt.{ProcAt}
use Rattle.kr_view.specs.kr_tree.declared.place.ProcAt.TheVariants.{SelfLink, Dir, Cwd, Root, Exe, FdDir, Fd}
use Rattle.kr_view.specs.kr_tree.Tree.{Tree}
use Rattle.kr_view.specs.kr_tree.Names.{host_name}
use Rattle.kr_view.specs.Component.{Namespace, is_shown}
use Rattle.kr_view.specs.View.{ino_of}

-- the bytes below the root are those of the host name of an object's inode
abbrev pub IsNamed : Tree → Host → Option (List ℕ) → Type 0
IsNamed t host name = name ≡ option_map below_root (host_name t (ino_of host))

-- whether an object of the process directory is a directory of a process that ended
abbrev pub is_gone : Namespace → ProcAt → Bool
is_gone space SelfLink = false
is_gone space (Dir pid) = not (is_shown space pid)
is_gone space (Cwd pid) = false
is_gone space (Root pid) = false
is_gone space (Exe pid) = false
is_gone space (FdDir pid) = not (is_shown space pid)
is_gone space (Fd pid fd) = false
