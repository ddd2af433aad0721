-- Where a link of the process directory leads.
use Rattle.std.proofs.Common.{◌≡◌, ℕ, Bool, true, false, cond, List, [], Some, Ok, refl}
use Rattle.kr_tree.specs.pr_base.WalkFrame.{ends, ends_landed, wants_directory}
use Rattle.kr_tree.specs.pr_base.declared.path.Last.TheVariants as last
use Rattle.kr_tree.specs.pr_base.declared.path.WalkMode.{WalkMode}
use Rattle.kr_tree.specs.declared.place.Place.{Place}
use Rattle.kr_tree.specs.Names.{host_name}
use Rattle.kr_view.specs.View.{node_in}
use Rattle.kr_view.specs.Walk.{PlaceTarget}
use Rattle.kr_view.specs.Component.{Surroundings, is_directory_at, landing}
use Rattle.kr_view.specs.Names.{below, landing_name}

-- a directory itself
abbrev pub landed_directory : Place ℕ → Bool → PlaceTarget
landed_directory p slash = record { dir = p; name = []; last = last.Name; slash = slash; found = Some p; jumped = true }

-- a file as its object remembers it
abbrev pub landed_file : Place ℕ → ℕ → List ℕ → Bool → PlaceTarget
landed_file p dir name slash = record { dir = node_in p.mount dir; name = name; last = last.Name; slash = slash; found = Some p; jumped = true }

module _ (around : Surroundings) (p : Place ℕ) (dir : ℕ) (name : List ℕ) where
  pub landing_of_file : is_directory_at around.space.tree p.host ≡ false → landing_name around.space (landing around.space p dir name) ≡ below name (host_name around.space.tree dir)
  landing_of_file h = rw h refl

  pub lands_in_directory : (mode : WalkMode) (slash : Bool) → is_directory_at around.space.tree p.host ≡ true → (ends_landed mode slash (landing around.space p dir name)).answer ≡ Ok (landed_directory p slash)
  lands_in_directory mode slash h =
      rw h (elim (wants_directory mode slash) as (λ w. (cond w (ends (landed_directory p slash)) (ends (landed_directory p slash))).answer ≡ Ok (landed_directory p slash)) [ true ↦ refl | false ↦ refl ])

  pub lands_at_file : (mode : WalkMode) (slash : Bool) → is_directory_at around.space.tree p.host ≡ false → wants_directory mode slash ≡ false → (ends_landed mode slash (landing around.space p dir name)).answer ≡ Ok (landed_file p dir name slash)
  lands_at_file mode slash h w = rw (h, w) refl
