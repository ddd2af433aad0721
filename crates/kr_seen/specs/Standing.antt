-- Places that have guest names, and what a link leads to in a lawful state.
use Rattle.std.specs.Prelude.{◌≡◌, ℕ, Bool, true, false, List}
use Rattle.kr_ops.specs.kr_tree.declared.place.Host.{Host}
use Rattle.kr_ops.specs.kr_tree.declared.place.Host.TheVariants.{Node, Proc}
use Rattle.kr_ops.specs.kr_tree.declared.place.Place.{Place}
use Rattle.kr_ops.specs.kr_tree.declared.place.ProcAt.{ProcAt}
use Rattle.kr_ops.specs.kr_tree.declared.place.ProcAt.TheVariants.{SelfLink, Dir, Cwd, Root, Exe, FdDir, Fd}
use Rattle.kr_ops.specs.kr_tree.Tree.{Tree}
use Rattle.kr_ops.specs.kr_view.Component.{Namespace, is_process_directory, is_shown}
use Rattle.kr_ops.specs.kr_view.InTree.{IsPlaceOf}
use Rattle.kr_ops.specs.kr_view.Leads.{numbered}
use Rattle.kr_ops.specs.kr_view.View.{Row}
use Rattle.kr_seen.specs.Shown.{Target, Nothing, Unplaced, At}

-- of what is in the process directory only directories have guest names
abbrev pub MayBeNamed : Host → Type 0
MayBeNamed (Node i) = Unit {0}
MayBeNamed (Proc i at) = is_process_directory at ≡ true

abbrev pub is_shown_directory : Namespace → ProcAt → Bool
is_shown_directory space (Dir pid) = is_shown space pid
is_shown_directory space (FdDir pid) = is_shown space pid
is_shown_directory space SelfLink = false
is_shown_directory space (Cwd pid) = false
is_shown_directory space (Root pid) = false
is_shown_directory space (Exe pid) = false
is_shown_directory space (Fd pid fd) = false

module _ {T : Type 0} (number : T → ℕ) (t : Tree) (table : List Row) where
  -- a place of the view in the tree that may have a guest name
  pub record IsNameable (p : Place T) : Type 0 where
    pub place : IsPlaceOf t table (numbered number p)
    pub named : MayBeNamed p.host

  abbrev pub IsStanding : Target T → Type 0
  IsStanding Nothing = Unit {0}
  IsStanding (Unplaced what) = Unit {0}
  IsStanding (At p dir name) = IsNameable p
