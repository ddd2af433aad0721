-- An execve's path is walked as the path of any call: an absolute one from the root, another from the working directory.
use Rattle.std.proofs.Common.{◌≡◌, ℕ, Bool, true, false, cond, List, Some, refl}
use Rattle.std.specs.Prelude.{negsuc}
use Rattle.elf_load.specs.pr_base.Paths.{components_of, has_slash, is_absolute}
use Rattle.elf_load.specs.pr_base.WalkFrame.{most_links, walk_on}
use Rattle.elf_load.specs.pr_base.declared.path.WalkMode.TheVariants.{Look}
use Rattle.kr_exec.specs.kr_tree.declared.place.Place.{Place}
use Rattle.kr_exec.specs.kr_view.View.{Row, root_place}
use Rattle.kr_exec.specs.kr_view.Walk.{looking, place_walk}
use Rattle.kr_exec.specs.kr_calls.PathTable.{path_at}
use Rattle.kr_exec.specs.kr_calls.declared.request.Request.TheVariants as call
use Rattle.kr_perform.specs.kr_model.ProcessDirectory.{around_of}
use Rattle.kr_perform.specs.kr_model.State.{Image, State}

module _ (table : List Row) (pid : ℕ) (s : State ℕ Image) (path : List ℕ) (args env : ℕ) (base : Place ℕ) where
  -- its descriptor is the working directory, and its last link is followed
  pub path-is : path_at (call.Execve path args env) 0 ≡ Some (record { dirfd = negsuc 99; text = path; mode = Look; register = 10 })
  path-is = refl

  pub begins-alike : place_walk (around_of table pid s) Look (cond (is_absolute path) (root_place table) base) path ≡ place_walk (around_of table pid s) Look base path
  begins-alike = by (is_absolute path)
    where
      by : (b : Bool) → walk_on (looking (around_of table pid s)) Look most_links (cond b (root_place table) (cond b (root_place table) base)) (components_of path) (has_slash path)
          ≡ walk_on (looking (around_of table pid s)) Look most_links (cond b (root_place table) base) (components_of path) (has_slash path)
      by true = refl
      by false = refl
