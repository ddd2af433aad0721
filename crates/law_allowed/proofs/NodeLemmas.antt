-- What a row knows of the nodes of a tree.
use Rattle.std.proofs.Common.{◌≡◌, true, inl, inr, subst, List, [], ◌∷◌, ℕ, Bool, false, refl, sym, ap, ◌∙◌, Some, None, Option}
use Rattle.std.specs.List.{AllByRecursion}
use Rattle.std.specs.Option.{option_map, option_map_or}
use Rattle.law_lawful.specs.kr_tree.Lawful.{IsKept, IsIn, AreBytes, IsOfBytes}
use Rattle.law_lawful.specs.kr_tree.Names.{is_name}
use Rattle.law_lawful.specs.kr_tree.Tree.{Tree, Inode, Node, Entry, Body, Directory, RegularFile, SymbolicLink, ProcessDirectory, inode, entry, entries_of, body_is, is_directory}
use Rattle.law_lawful.specs.kr_tree.declared.place.Host.{Host}
use Rattle.law_lawful.specs.kr_tree.declared.place.Host.TheVariants as host
use Rattle.law_lawful.proofs.kr_inode.NameLemmas.{name_decides}
use Rattle.law_lawful.proofs.kr_tree.EntryLemmas.{entered, entry_named_well}
use Rattle.law_lawful.proofs.kr_tree.NameLemmas.{some_is}
use Rattle.law_lawful.specs.kr_view.Component.{is_directory_at}
use Rattle.law_lawful.specs.kr_model.Asking.{body_passes, is_directory_host}
use Rattle.law_lawful.specs.kr_model.Known.{Known, Fact, known, known_node}
use Rattle.law_lawful.specs.kr_model.State.{Image, image_layout, State}

module _ {M : Type 0} (pid : ℕ) (s : State M Image) where
  abbrev k : Known
  k = known image_layout pid s

  -- a node that is known is there
  pub known-inode : (i : ℕ) (n : Node) → known_node k i ≡ Some n → (x : Inode) × (inode s.tree i ≡ Some x) × (x.node ≡ n)
  known-inode i n e = by (inode s.tree i) refl e
    where
      by : (o : Option Inode) → inode s.tree i ≡ o → option_map (λ (f : Fact). f.node) (option_map (λ (x : Inode). record { node = x.node; names = x.names; directories = x.directories }) o) ≡ Some n
          → (x : Inode) × (inode s.tree i ≡ Some x) × (x.node ≡ n)
      by None is e = absurd cc
      by (Some x) is e = (x, is, some_is x.node n e)

  -- a test of bodies passes where it does in the tree
  pub known-test : (test : Body → Bool) (i : ℕ) → body_passes test k i ≡ body_is test s.tree i
  known-test test i = by (inode s.tree i)
    where
      by : (o : Option Inode) → option_map_or (λ (n : Node). test n.body) (option_map (λ (f : Fact). f.node) (option_map (λ (x : Inode). record { node = x.node; names = x.names; directories = x.directories }) o)) false
          ≡ option_map_or (λ (x : Inode). test x.node.body) o false
      by None = refl
      by (Some x) = refl

  -- what a test says of a node that is known, it says in the tree
  pub test-known : (test : Body → Bool) (i : ℕ) (n : Node) → known_node k i ≡ Some n → body_is test s.tree i ≡ test n.body
  test-known test i n e = sym (known-test test i) ∙ ap (λ (o : Option Node). option_map_or (λ n. test n.body) o false) e

  pub known-directory : (at : Host) → is_directory_host k at ≡ is_directory_at s.tree at
  known-directory (host.Node i) = known-test is_directory i
  known-directory (host.Proc i at) = refl

-- ---- names of entries

all-inside : (es : List Entry) (e : Entry) → AllByRecursion (λ (e : Entry). AreBytes e.name) es → IsIn e es → AreBytes e.name
all-inside [] e all inside = absurd inside
all-inside (x ∷ es) e all (inl same) = subst (λ (e : Entry). AreBytes e.name) same all.0
all-inside (x ∷ es) e all (inr inside) = all-inside es e all.1 inside

-- the name of an entry is well-formed, and of bytes
pub entry-name : (t : Tree) → IsKept t → (dir : ℕ) (name : List ℕ) (i : ℕ) → entry t dir name ≡ Some i → (is_name name ≡ true) × AreBytes name
entry-name t kept dir name i e =
    let own = entered t dir name i e in
    ((name_decides name).1 (entry_named_well t kept.sound dir name i e), subst AreBytes (sym own.called) (by own.own (inode t dir) (kept.bytes dir) own.inside))
  where
    of-body : (own : Entry) (b : Body) → IsOfBytes b → IsIn own (entries_of b) → AreBytes own.name
    of-body own (Directory es st) all inside = all-inside es own all inside
    of-body own (RegularFile bytes) all inside = absurd inside
    of-body own (SymbolicLink text) all inside = absurd inside
    of-body own (ProcessDirectory st) all inside = absurd inside

    by : (own : Entry) (o : Option Inode) → ((x : Inode) → o ≡ Some x → IsOfBytes x.node.body) → IsIn own (option_map_or (λ (x : Inode). entries_of x.node.body) o []) → AreBytes own.name
    by own None all inside = absurd inside
    by own (Some x) all inside = of-body own x.node.body (all x refl) inside
