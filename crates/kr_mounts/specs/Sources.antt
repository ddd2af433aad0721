-- The sources of bindings, as they are found on the host before a process lives.
use Rattle.std.specs.Prelude.{ℕ, Bool, true, false, List, Option, Some, None, Result, Ok, Err, if◌then◌else◌}
use Rattle.std.specs.Option.{option_map, option_map_or}
use Rattle.pt_bind.specs.pr_base.Paths.{is_walked}
use Rattle.pt_bind.specs.pr_base.Texts.{Text, below}
use Rattle.pt_bind.specs.pr_base.declared.errno.Errno.{Errno}
use Rattle.pt_bind.specs.pr_base.declared.path.WalkMode.TheVariants.{Look}
use Rattle.kr_walk.specs.kr_inode.declared.user.User.{User}
use Rattle.kr_walk.specs.kr_tree.declared.place.Host.{Host}
use Rattle.kr_walk.specs.kr_tree.declared.place.Host.TheVariants.{Node, Proc}
use Rattle.kr_walk.specs.kr_tree.declared.place.Place.{Place}
use Rattle.kr_walk.specs.kr_tree.Tree.{Tree, above, body_is, is_directory, is_listed}
use Rattle.kr_walk.specs.kr_tree.Names.{host_name}
use Rattle.kr_walk.specs.kr_view.Component.{Surroundings}
use Rattle.kr_walk.specs.kr_view.Processes.{no_finds, no_leads}
use Rattle.kr_walk.specs.kr_view.View.{Row, plain, root_place}
use Rattle.kr_walk.specs.kr_view.Walk.{PlaceTarget, place_walk}
use Rattle.kr_mounts.specs.declared.fault.BindWhy.{BindWhy}
use Rattle.kr_mounts.specs.declared.fault.BindWhy.TheVariants.{NoSource, RootNotDir}

-- a source as it was found: its inode, whether it is a directory, the directory in which it stands, and its host
-- text
pub record Source : Type 0 where
  pub inode : ℕ
  pub is_dir : Bool
  pub dir : ℕ
  pub text : Text

-- the host's own view, to the user, before a process lives
abbrev pub around_table : List Row → Tree → User → Surroundings
around_table table t user = record { space = record { table = table; tree = t; user = user; finds = no_finds }; leads = no_leads }

-- a directory has the host text that the tree gives it, and stands above that
abbrev pub directory_source : Tree → ℕ → Option Source
directory_source t i = option_map (λ text. record { inode = i; is_dir = true; dir = option_map_or (λ up. up) (above t i) 0; text = text }) (host_name t i)

-- another object has the name by which it was found in its directory
abbrev pub entry_source : Tree → Host → List ℕ → ℕ → Option Source
entry_source t (Node dir) name i = option_map (λ text. record { inode = i; is_dir = false; dir = dir; text = text }) (below name (host_name t dir))
entry_source t (Proc p at) name i = None

-- what a walk found under a name of a directory; before a process lives nothing is found in the process directory
abbrev pub source_at : Tree → Host → List ℕ → Option Host → Option Source
source_at t dir name (Some (Node i)) = if body_is is_directory t i then directory_source t i else entry_source t dir name i
source_at t dir name (Some (Proc i at)) = None
source_at t dir name None = None

abbrev pub source_of : Tree → Result PlaceTarget Errno → Option Source
source_of t (Ok target) = source_at t target.dir.host target.name (option_map (λ (p : Place ℕ). p.host) target.found)
source_of t (Err e) = None

-- where the walk of a host path leads, with links followed
abbrev pub source_walked : Tree → User → List ℕ → Option Source
source_walked t user path = source_of t (place_walk (around_table plain t user) Look (root_place plain) path).answer

-- the source at a host path: an empty one isn't walked, nor one that is too long
abbrev pub source_by : Tree → User → List ℕ → Option Source
source_by t user path = if is_walked path then source_walked t user path else None

-- the root's source must be a directory proper
abbrev pub as_root : Tree → Source → Result Source BindWhy
as_root t source = if body_is is_listed t source.inode then Ok source else Err RootNotDir

abbrev pub root_source_of : Tree → Option Source → Result Source BindWhy
root_source_of t None = Err NoSource
root_source_of t (Some source) = as_root t source

abbrev pub root_source_by : Tree → User → List ℕ → Result Source BindWhy
root_source_by t user path = root_source_of t (source_by t user path)
