-- Finding a program (execve(2)): a walk that follows a last link, and EACCES where it leads to what is no regular file, or to
-- one that the user may not execute.
use Rattle.std.specs.Prelude.{ℕ, Bool, false, ◌&&◌, List, Option, Result, Ok, Err, if◌then◌else◌}
use Rattle.std.specs.Option.{option_map, option_map_or}
use Rattle.elf_read.specs.pr_base.declared.errno.Errno.{Errno}
use Rattle.elf_read.specs.pr_base.declared.errno.Errno.TheVariants.{EACCES}
use Rattle.elf_read.specs.pr_base.declared.path.WalkMode.TheVariants.{Look}
use Rattle.kr_walk.specs.kr_inode.declared.user.User.{User}
use Rattle.kr_walk.specs.kr_inode.declared.user.Right.TheVariants.{Search}
use Rattle.kr_walk.specs.kr_tree.declared.place.Host.{Host}
use Rattle.kr_walk.specs.kr_tree.declared.place.Host.TheVariants.{Node, Proc}
use Rattle.kr_walk.specs.kr_tree.declared.place.Place.{Place}
use Rattle.kr_walk.specs.kr_tree.Tree.{Tree, body_is, is_file}
use Rattle.kr_walk.specs.kr_tree.Rights.{may}
use Rattle.kr_walk.specs.kr_view.Component.{Surroundings}
use Rattle.kr_walk.specs.kr_view.Walk.{PlaceTarget, PlaceTrail, place_walk}

-- a regular file that the user may execute. To execute a file is the right to search a directory; nothing in the
-- process directory is a file
abbrev pub is_program : Tree → User → Host → Bool
is_program tree user (Node i) = body_is is_file tree i && may tree user i Search
is_program tree user (Proc i at) = false

-- what a walk found, whatever the mounts are called
abbrev pub found_host : {M : Type 0} → Option (Place M) → Option Host
found_host found = option_map (λ p. p.host) found

abbrev pub is_program_found : {M : Type 0} → Tree → User → Option (Place M) → Bool
is_program_found tree user found = option_map_or (is_program tree user) (found_host found) false

abbrev pub if_program : Tree → User → Result PlaceTarget Errno → Result PlaceTarget Errno
if_program tree user (Ok target) = if is_program_found tree user target.found then Ok target else Err EACCES
if_program tree user (Err errno) = Err errno

-- the walk to a program
abbrev pub program_walk : Surroundings → Place ℕ → List ℕ → PlaceTrail
program_walk around base path = place_walk around Look base path

-- where a path leads from a base, if that is a program
abbrev pub program_at : Surroundings → Place ℕ → List ℕ → Result PlaceTarget Errno
program_at around base path = if_program around.space.tree around.space.user (program_walk around base path).answer
