-- What rows rest on of their targets: what every walk over a lawful state gives.
use Rattle.std.specs.Prelude.{ℕ, ◌≡◌, true, false, List, Some, None}
use Rattle.kr_ops.specs.pr_base.declared.path.Last.TheVariants as last
use Rattle.kr_ops.specs.kr_tree.declared.place.Host.TheVariants.{Node}
use Rattle.kr_ops.specs.kr_tree.declared.place.Place.{Place}
use Rattle.kr_ops.specs.kr_tree.Tree.{Tree, body_is, entry, takes_names}
use Rattle.kr_ops.specs.kr_tree.Names.{is_name}
use Rattle.kr_ops.specs.kr_view.View.{Row, covered}
use Rattle.kr_ops.specs.kr_view.InTree.{IsObjectOf}
use Rattle.kr_ops.specs.kr_view.declared.target.Target.{Target}

module _ {T : Type 0} (t : Tree) where
  -- what was found is in the tree
  abbrev pub IsFoundIn : Target T → Type 0
  IsFoundIn target = (p : Place T) → target.found ≡ Some p → IsObjectOf t p.host

  -- a free name in a directory that takes names is well-formed, and no entry of that directory
  abbrev pub IsFreeIn : Target T → Type 0
  IsFreeIn target =
      (dir : ℕ) → target.last ≡ last.Name → target.found ≡ None → target.dir.host ≡ Node dir → body_is takes_names t dir ≡ true
      → (is_name target.name ≡ true) × (entry t dir target.name ≡ None)

  -- what a name found that no mount covers, in such a directory, is the entry of that name; so it is where the path's last
  -- component wasn't followed
  abbrev pub IsEntryIn : List Row → Target T → Type 0
  IsEntryIn table target =
      (dir : ℕ) (p : Place T) → target.last ≡ last.Name → target.found ≡ Some p → target.dir.host ≡ Node dir → body_is takes_names t dir ≡ true
      → covered table dir target.name ≡ false → (i : ℕ) × (p.host ≡ Node i) × (entry t dir target.name ≡ Some i)
