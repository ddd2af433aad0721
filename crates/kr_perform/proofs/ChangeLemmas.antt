-- Whether changes alter the shape of a tree or the bytes of files, by what is there before them.
use Rattle.std.proofs.Common.{◌≡◌, ℕ, Bool, true, false, Option, Some, None, length, [], refl, sym, ap, ◌∙◌}
use Rattle.std.specs.Prelude.{◌==◌, ◌&&◌, not, nat_lt, if◌then◌else◌}
use Rattle.std.specs.Option.{option_map, option_map_or}
use Rattle.law_allowed.specs.kr_tree.Tree.{Inode, Node, Tree, bytes_of, inode}
use Rattle.law_allowed.specs.kr_model.AttributeRows.{or_old, unchanged}
use Rattle.law_allowed.specs.kr_model.Change.{SetMode}
use Rattle.law_allowed.specs.kr_model.Known.{Fact, known, known_node}
use Rattle.law_allowed.specs.kr_model.State.{Image, State, image_layout}
use Rattle.law_steady.specs.Ahead.{node_owner_alters}
use Rattle.law_steady.specs.Bytes.{bytes_at}
use Rattle.law_steady.specs.Exact.{alters_shape_of}

module _ (t : Tree) (i : ℕ) where
  -- ---- what isn't there

  pub size-gone : inode t i ≡ None → 0 ≡ length (bytes_at t i)
  size-gone is = sym (ap (λ (o : Option Inode). length (option_map_or (λ (x : Inode). bytes_of x.node.body) o [])) is)

  abbrev mode_in : ℕ → Option Inode → Bool
  mode_in mode o = nat_lt 0 (option_map_or (λ (x : Inode). x.names) o 0) && not (option_map_or (λ (n : Node). n.mode == mode) (option_map (λ (x : Inode). x.node) o) false)

  pub mode-gone : (mode : ℕ) → inode t i ≡ None → false ≡ alters_shape_of t (SetMode i mode)
  mode-gone mode is = sym (ap (mode_in mode) is)

  -- ---- what is

  module _ (x : Inode) (is : inode t i ≡ Some x) where
    pub size-there : length (bytes_of x.node.body) ≡ length (bytes_at t i)
    size-there = sym (ap (λ (o : Option Inode). length (option_map_or (λ (x : Inode). bytes_of x.node.body) o [])) is)

    pub mode-there : (mode : ℕ) → (nat_lt 0 x.names && not (x.node.mode == mode)) ≡ alters_shape_of t (SetMode i mode)
    mode-there mode = sym (ap (mode_in mode) is)

-- ---- owners, of what a call knows of them

module _ {T : Type 0} (pid : ℕ) (s : State T Image) (i uid gid : ℕ) where
  abbrev other_owner : (names u g : ℕ) → Bool
  other_owner names u g = if uid == unchanged && gid == unchanged then false else nat_lt 0 names && not ((u == or_old uid u) && (g == or_old gid g))

  abbrev owner_in : Option Inode → Bool
  owner_in o =
      option_map_or
      (λ (n : Node). if uid == unchanged && gid == unchanged then false
      else nat_lt 0 (option_map_or (λ (x : Inode). x.names) o 0)
      && not (option_map_or (λ (m : Node). (m.uid == or_old uid n.uid) && (m.gid == or_old gid n.gid)) (option_map (λ (x : Inode). x.node) o) false))
      (option_map (λ (f : Fact). f.node) (option_map (λ (x : Inode). record { node = x.node; names = x.names; directories = x.directories }) o)) false

  pub owner-gone : inode s.tree i ≡ None → false ≡ option_map_or (node_owner_alters s.tree uid gid i) (known_node (known image_layout pid s) i) false
  owner-gone is = sym (ap owner_in is)

  pub owner-there : (x : Inode) → inode s.tree i ≡ Some x → other_owner x.names x.node.uid x.node.gid ≡ option_map_or (node_owner_alters s.tree uid gid i) (known_node (known image_layout pid s) i) false
  owner-there x is = sym (ap owner_in is)
