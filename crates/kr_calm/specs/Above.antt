-- Which directories of the tree stand above others, by their host names: a directory is at or below another where the way up
-- from it comes to that.
use Rattle.std.specs.Prelude.{ℕ, zero, suc, Bool, false, ◌||◌, nat_eq, Option}
use Rattle.std.specs.Option.{option_map_or}
use Rattle.kr_seen.specs.kr_tree.Tree.{Tree, above}

-- in fewer than n steps, each to the inode above
unfoldable pub is_within : ℕ → (ℕ → Option ℕ) → ℕ → ℕ → Bool
is_within zero up top dir = false
is_within (suc n) up top dir = nat_eq top dir || option_map_or (is_within n up top) (up dir) false

-- no directory is met twice on the way up, so it has fewer steps than numbers were drawn
abbrev pub is_at_or_below : Tree → ℕ → ℕ → Bool
is_at_or_below t top dir = is_within t.next (above t) top dir
