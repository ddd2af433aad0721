-- The command: a word with a slash is a path. Another one is searched in the directories of PATH, or in `/bin` and `/usr/bin`; the first
-- candidate that is a regular file which the user may execute is taken.
use Rattle.std.specs.Prelude.{ℕ, Bool, true, false, List, [], ◌∷◌, Option, Some, None, Result, Ok, Err, if◌then◌else◌}
use Rattle.pt_tracer.specs.pr_base.declared.errno.Errno.{Errno}
use Rattle.pt_tracer.specs.pr_base.declared.path.WalkMode.TheVariants.{Look}
use Rattle.pt_tracer.specs.kr_inode.declared.user.User.{User}
use Rattle.kr_core.specs.kr_tree.declared.place.Place.{Place}
use Rattle.kr_core.specs.kr_tree.Tree.{Tree}
use Rattle.kr_core.specs.kr_view.declared.target.Reach.{Reach}
use Rattle.kr_core.specs.kr_view.Reach.{reach_after}
use Rattle.kr_core.specs.kr_view.View.{Row}
use Rattle.kr_core.specs.kr_view.Walk.{PlaceTarget}
use Rattle.pt_tracer.specs.kr_exec.Finding.{program_walk}
use Rattle.kr_core.specs.kr_first.Starting.{around, found_from, is_walked}
use Rattle.pt_first.specs.pr_words.Command.{candidate, directories, has_slash, path_of}

abbrev pub is_found : Result PlaceTarget Errno → Bool
is_found (Ok target) = true
is_found (Err e) = false

-- the path that is taken, if there is one, and what was reached on the way
pub record Chosen : Type 0 where
  pub path : Option (List ℕ)
  pub reach : Reach

module _ (table : List Row) (tree : Tree) (user : User) (base : Place ℕ) where
  abbrev pub is_there : List ℕ → Bool
  is_there path = is_found (found_from table tree user base path)

  abbrev pub program_reach : List ℕ → Reach → Reach
  program_reach path r = if is_walked path then reach_after (around table tree user) Look (program_walk (around table tree user) base path) r else r

  unfoldable pub searched : List ℕ → List (List ℕ) → Reach → Chosen
  searched word [] r = record { path = None; reach = r }
  searched word (dir ∷ dirs) r =
      let path = candidate dir word in
      let reached = program_reach path r in
      if is_there path then record { path = Some path; reach = reached } else searched word dirs reached

  abbrev pub chosen : List (List ℕ) → List ℕ → Reach → Chosen
  chosen env word r = if has_slash word then record { path = Some word; reach = r } else searched word (directories (path_of env)) r
