-- Nodes as a call knows them and as the tree has them.
use Rattle.std.proofs.Common.{◌≡◌, ℕ, Bool, true, false, Option, Some, None, refl, ap, ◌∙◌}
use Rattle.std.specs.Bool.{if◌then◌else◌}
use Rattle.std.specs.Option.{option_map, option_map_or}
use Rattle.kr_seen.specs.kr_inode.Stored.{meta_of}
use Rattle.kr_seen.specs.kr_inode.declared.node.Meta.{Meta}
use Rattle.kr_seen.specs.kr_tree.Tree.{Body, Inode, Node, Tree, body_is, inode}
use Rattle.kr_seen.specs.kr_model.Asking.{body_passes}
use Rattle.kr_seen.specs.kr_model.Known.{Fact, known, known_node}
use Rattle.kr_seen.specs.kr_model.State.{Image, State, image_layout}

-- ---- tests

pub if-true : {A : Type 0} (b : Bool) (x y : A) → b ≡ true → (if b then x else y) ≡ x
if-true b x y e = ap (λ b. if b then x else y) e

pub if-false : {A : Type 0} (b : Bool) (x y : A) → b ≡ false → (if b then x else y) ≡ y
if-false b x y e = ap (λ b. if b then x else y) e

-- ---- nodes

pub meta-there : (t : Tree) (i : ℕ) (m : Meta) → Some m ≡ option_map meta_of (inode t i) → (x : Inode) × (inode t i ≡ Some x) × (m ≡ meta_of x)
meta-there t i m e = by (inode t i) refl e
  where
    by : (o : Option Inode) → inode t i ≡ o → Some m ≡ option_map meta_of o → (x : Inode) × (inode t i ≡ Some x) × (m ≡ meta_of x)
    by None is e = absurd cc
    by (Some x) is e = (x, is, cc)

pub meta-gone : (t : Tree) (i : ℕ) → ◌≡◌ {A = Option Meta} None (option_map meta_of (inode t i)) → inode t i ≡ None
meta-gone t i e = by (inode t i) e
  where
    by : (o : Option Inode) → ◌≡◌ {A = Option Meta} None (option_map meta_of o) → o ≡ None
    by None e = refl
    by (Some x) e = absurd cc

abbrev fact : Inode → Fact
fact x = record { node = x.node; names = x.names; directories = x.directories }

module _ {T : Type 0} (pid : ℕ) (s : State T Image) (i : ℕ) where
  pub node-known : (x : Inode) → inode s.tree i ≡ Some x → known_node (known image_layout pid s) i ≡ Some x.node
  node-known x is = ap (λ o. option_map (λ (f : Fact). f.node) (option_map fact o)) is

  pub node-unknown : inode s.tree i ≡ None → known_node (known image_layout pid s) i ≡ None
  node-unknown is = ap (λ o. option_map (λ (f : Fact). f.node) (option_map fact o)) is

  -- the inode of a known node
  pub inode-known : (n : Node) → known_node (known image_layout pid s) i ≡ Some n → (x : Inode) × (inode s.tree i ≡ Some x) × (x.node ≡ n)
  inode-known n e = by (inode s.tree i) refl e
    where
      by : (o : Option Inode) → inode s.tree i ≡ o → option_map (λ (f : Fact). f.node) (option_map fact o) ≡ Some n → (x : Inode) × (inode s.tree i ≡ Some x) × (x.node ≡ n)
      by None is e = absurd cc
      by (Some x) is e = (x, is, cc)

  pub known-tested : (test : Body → Bool) (n : Node) → known_node (known image_layout pid s) i ≡ Some n → body_is test s.tree i ≡ test n.body
  known-tested test n e = let x = inode-known n e in ap (λ o. option_map_or (λ (x : Inode). test x.node.body) o false) x.1 ∙ ap (λ n. test n.body) x.2

pub known-body : {T : Type 0} (pid : ℕ) (s : State T Image) (test : Body → Bool) (i : ℕ) → body_passes test (known image_layout pid s) i ≡ body_is test s.tree i
known-body pid s test i = by (inode s.tree i)
  where
    by : (o : Option Inode) → option_map_or (λ (n : Node). test n.body) (option_map (λ (f : Fact). f.node) (option_map fact o)) false ≡ option_map_or (λ (x : Inode). test x.node.body) o false
    by None = refl
    by (Some x) = refl
