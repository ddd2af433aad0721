-- How the host names of directories hang together.
use Rattle.std.specs.Prelude.{ℕ, ◌≡◌, true, false, List, Some, None, drop, IfSome}
use Rattle.std.specs.Option.{option_map}
use Rattle.kr_view.specs.kr_tree.pr_base.Paths.{AreNames}
use Rattle.kr_view.specs.kr_tree.Tree.{Tree, entry, above, body_is, is_directory}
use Rattle.kr_view.specs.kr_tree.Names.{host_name}
use Rattle.kr_view.specs.Names.{below}

pub record NamesHangTogether (t : Tree) : Type 0 where
  -- a directory is called by its entry
  pub down : (dir i : ℕ) (name : List ℕ) → entry t dir name ≡ Some i → body_is is_directory t i ≡ true → host_name t i ≡ below name (host_name t dir)
  -- the directory above is called without the last name
  pub up : (i dir : ℕ) → above t i ≡ Some dir → host_name t dir ≡ option_map (drop 1) (host_name t i)
  pub none : (i : ℕ) → body_is is_directory t i ≡ false → host_name t i ≡ None
  pub names : (i : ℕ) → IfSome (host_name t i) AreNames
