-- The first working directory: what a path leads to from the root, if the user may search it, and else the root.
use Rattle.std.specs.Prelude.{ℕ, List, codes, Option, Some, None, if◌then◌else◌}
use Rattle.std.specs.Option.{option_and_then}
use Rattle.pt_tracer.specs.pr_base.declared.path.WalkMode.TheVariants.{Look}
use Rattle.pt_tracer.specs.kr_inode.declared.user.User.{User}
use Rattle.kr_core.specs.kr_tree.declared.place.Place.{Place}
use Rattle.kr_core.specs.kr_tree.Tree.{Tree}
use Rattle.kr_core.specs.kr_view.declared.target.Reach.{Reach}
use Rattle.kr_core.specs.kr_view.Component.{may_search}
use Rattle.kr_core.specs.kr_view.Reach.{reach_after}
use Rattle.kr_core.specs.kr_view.View.{Row, root_place}
use Rattle.kr_core.specs.kr_first.Starting.{around, directory_at, directory_walk, is_walked}

-- a directory with a path that leads to it
pub record At : Type 0 where
  pub path : List ℕ
  pub place : Place ℕ

module _ (table : List Row) (tree : Tree) (user : User) where
  abbrev pub if_searchable : Place ℕ → Option (Place ℕ)
  if_searchable p = if may_search tree user p.host then Some p else None

  -- an empty path leads nowhere, nor does one that is too long
  abbrev pub searchable_at : List ℕ → Option (Place ℕ)
  searchable_at path = if is_walked path then option_and_then if_searchable (directory_at table tree user path) else None

  abbrev pub or_root : List ℕ → Option (Place ℕ) → At
  or_root path (Some p) = record { path = path; place = p }
  or_root path None = record { path = codes "/"; place = root_place table }

  abbrev pub working_directory : List ℕ → At
  working_directory path = or_root path (searchable_at path)

  -- what its walk reaches
  abbrev pub directory_reach : List ℕ → Reach → Reach
  directory_reach path r = if is_walked path then reach_after (around table tree user) Look (directory_walk table tree user path) r else r
