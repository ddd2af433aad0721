-- The host names of what slots hold, in states of one shape and user.
use Rattle.std.specs.Prelude.{◌≡◌, ℕ, List, []}
use Rattle.law_lawful.specs.kr_tree.Lawful.{IsSound}
use Rattle.law_lawful.specs.kr_tree.Names.{host_name}
use Rattle.law_lawful.specs.kr_tree.Tree.{body_is, is_directory}
use Rattle.law_lawful.specs.kr_tree.declared.place.Host.TheVariants.{Node}
use Rattle.law_lawful.specs.kr_view.HostReach.{host_place}
use Rattle.law_lawful.specs.kr_model.HostView.{host_space}
use Rattle.law_lawful.specs.kr_model.ProcessDirectory.{name_text}
use Rattle.law_lawful.specs.kr_model.State.{State}
use Rattle.law_steady.specs.Steady.{HaveOneShape}

-- a directory has the same host name, if it has one. What a slot holds by itself, as a working directory, has the same name; what
-- remembers an entry does, where it is a directory in both or in neither: of what has no name the shape tells nothing
pub record NameLasts {M N X Y : Type 0} (s : State M X) (t : State N Y) (i : ℕ) : Type 0 where
  pub host : host_name t.tree i ≡ host_name s.tree i
  pub own : name_text (host_space t) (host_place (Node i)) 0 [] ≡ name_text (host_space s) (host_place (Node i)) 0 []
  pub entered : (dir : ℕ) (name : List ℕ) → body_is is_directory t.tree i ≡ body_is is_directory s.tree i
      → name_text (host_space t) (host_place (Node i)) dir name ≡ name_text (host_space s) (host_place (Node i)) dir name

abbrev pub HostNamesLast : Type 0 → Type 0 → Type 0 → Type 0 → Type 0
HostNamesLast M N X Y = (s : State M X) (t : State N Y) → HaveOneShape s t → IsSound t.tree → (i : ℕ) → NameLasts s t i
