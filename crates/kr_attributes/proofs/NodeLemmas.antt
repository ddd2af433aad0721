-- Inodes as a call knows them and as the tree has them.
use Rattle.std.proofs.Common.{◌≡◌, ℕ, ◌+◌, ◌<◌, ◌^◌, Bool, false, [], ◌∷◌, length, Option, Some, None, refl, sym, ap, ◌∙◌, arith}
use Rattle.std.specs.Prelude.{◌%◌, ◌==◌, ◌||◌, not}
use Rattle.std.proofs.lemmas.Option.{same_Some}
use Rattle.std.specs.Bool.{if◌then◌else◌}
use Rattle.std.specs.Option.{option_map, option_map_or}
use Rattle.kr_seen.specs.pr_base.declared.errno.Errno.TheVariants.{EPERM, ENOENT}
use Rattle.kr_seen.specs.kr_inode.Stored.{kind_of, meta_of}
use Rattle.kr_seen.specs.kr_inode.declared.node.Kind.{Kind}
use Rattle.kr_seen.specs.kr_inode.declared.node.Meta.{Meta}
use Rattle.kr_seen.specs.kr_calls.declared.stat.Stat.{Stat}
use Rattle.kr_seen.specs.kr_tree.Lawful.{IsKept}
use Rattle.kr_seen.specs.kr_tree.Tree.{Body, Directory, Inode, ProcessDirectory, RegularFile, SymbolicLink, Tree, body, body_is, bytes_of, inode, takes_names}
use Rattle.kr_seen.proofs.kr_tree.CountLemmas.{directories_few}
use Rattle.kr_seen.specs.kr_tree.declared.place.Host.TheVariants.{Node}
use Rattle.kr_seen.specs.kr_model.Asking.{is_processes, is_processes_host}
use Rattle.kr_seen.specs.kr_model.AttributeRows.{chmod_host, chmod_node, chown_by, chown_host, chown_node, kind_bits, links_of, node_stat, or_old, size_of, stat_of}
use Rattle.kr_seen.specs.kr_model.Change.{SetMode, SetOwner}
use Rattle.kr_seen.specs.kr_model.Known.{Fact, known}
use Rattle.kr_seen.specs.kr_model.Reply.{done, refuse}
use Rattle.kr_seen.specs.kr_model.State.{Image, State, image_layout}
use Rattle.kr_attributes.specs.Facts.{bits_by, fact, links_by, size_by}

pub meta-there : (t : Tree) (i : ℕ) (m : Meta) → Some m ≡ option_map meta_of (inode t i) → (x : Inode) × (inode t i ≡ Some x) × (m ≡ meta_of x)
meta-there t i m e = by (inode t i) refl e
  where
    by : (o : Option Inode) → inode t i ≡ o → Some m ≡ option_map meta_of o → (x : Inode) × (inode t i ≡ Some x) × (m ≡ meta_of x)
    by None is e = absurd cc
    by (Some x) is e = (x, is, cc)

pub meta-gone : (t : Tree) (i : ℕ) → ◌≡◌ {A = Option Meta} None (option_map meta_of (inode t i)) → inode t i ≡ None
meta-gone t i e = by (inode t i) e
  where
    by : (o : Option Inode) → ◌≡◌ {A = Option Meta} None (option_map meta_of o) → o ≡ None
    by None e = refl
    by (Some x) e = absurd cc

module _ {T : Type 0} (pid : ℕ) (s : State T Image) (i : ℕ) where
  pub fact-known : (x : Inode) → inode s.tree i ≡ Some x → (known image_layout pid s).fact i ≡ Some (fact x)
  fact-known x is = ap (option_map fact) is

  pub fact-unknown : inode s.tree i ≡ None → (known image_layout pid s).fact i ≡ None
  fact-unknown is = ap (option_map fact) is

  -- ---- the mode

  pub chmod-gone : (mode : ℕ) → inode s.tree i ≡ None → chmod_host (known image_layout pid s) mode (Node i) ≡ refuse ENOENT
  chmod-gone mode is =
      let k = known image_layout pid s in
      ap (λ (o : Option Fact). option_map_or (chmod_node k mode i) (option_map (λ (f : Fact). f.node) o) (refuse ENOENT)) (fact-unknown is)

  pub chmod-there : (mode : ℕ) (x : Inode) (p o : Bool) → inode s.tree i ≡ Some x → p ≡ is_processes_host (known image_layout pid s) (Node i) → o ≡ (s.user.uid == x.node.uid)
      → chmod_host (known image_layout pid s) mode (Node i) ≡ if p || not o then refuse EPERM else done 0 (SetMode i (mode % 4096) ∷ [])
  chmod-there mode x p o is processes owner =
      let k = known image_layout pid s in
      let there = fact-known x is in
      let test : p ≡ is_processes x.node.body = processes ∙ ap (λ (o : Option Fact). option_map_or (λ n. is_processes n.body) (option_map (λ (f : Fact). f.node) o) false) there in
      ap (λ (o : Option Fact). option_map_or (chmod_node k mode i) (option_map (λ (f : Fact). f.node) o) (refuse ENOENT)) there
      ∙ ap (λ p. if p || not (s.user.uid == x.node.uid) then refuse EPERM else done 0 (SetMode i (mode % 4096) ∷ [])) (sym test)
      ∙ ap (λ o. if p || not o then refuse EPERM else done 0 (SetMode i (mode % 4096) ∷ [])) (sym owner)

  -- ---- the owner

  pub chown-gone : (uid gid : ℕ) → inode s.tree i ≡ None → chown_host (known image_layout pid s) uid gid (Node i) ≡ refuse ENOENT
  chown-gone uid gid is =
      let k = known image_layout pid s in
      ap (λ (o : Option Fact). option_map_or (chown_node k uid gid i) (option_map (λ (f : Fact). f.node) o) (refuse ENOENT)) (fact-unknown is)

  pub chown-there : (uid gid : ℕ) (x : Inode) → inode s.tree i ≡ Some x
      → chown_host (known image_layout pid s) uid gid (Node i) ≡ chown_by s.user (record { uid = x.node.uid; gid = x.node.gid }) uid gid (SetOwner i (or_old uid x.node.uid) (or_old gid x.node.gid) ∷ [])
  chown-there uid gid x is =
      let k = known image_layout pid s in
      ap (λ (o : Option Fact). option_map_or (chown_node k uid gid i) (option_map (λ (f : Fact). f.node) o) (refuse ENOENT)) (fact-known x is)

  -- ---- stat(2)

  bits-same : (b : Body) → bits_by (kind_of b) ≡ kind_bits b
  bits-same (Directory entries standing) = refl
  bits-same (RegularFile bytes) = refl
  bits-same (SymbolicLink text) = refl
  bits-same (ProcessDirectory standing) = refl

  size-same : (b : Body) → size_by (kind_of b) (length (bytes_of b)) ≡ size_of b
  size-same (Directory entries standing) = refl
  size-same (RegularFile bytes) = refl
  size-same (SymbolicLink text) = refl
  size-same (ProcessDirectory standing) = refl

  links-same : (f : Fact) (b : Body) → links_by (kind_of b) (takes_names b) f.names f.directories (length (known image_layout pid s).living) ≡ links_of (known image_layout pid s) f b
  links-same f (Directory entries None) = refl
  links-same f (Directory entries (Some standing)) = refl
  links-same f (RegularFile bytes) = refl
  links-same f (SymbolicLink text) = refl
  links-same f (ProcessDirectory standing) = refl

  -- what is told of an inode that is there
  pub node-told : (x : Inode) (kind : Kind) (m : Meta) (mode links size : ℕ) → inode s.tree i ≡ Some x → Some kind ≡ option_map kind_of (body s.tree i) → m ≡ meta_of x
      → mode ≡ bits_by kind + m.mode
      → links ≡ links_by kind (body_is takes_names s.tree i) m.names (option_map_or (λ x. x.directories) (inode s.tree i) 0) (length (known image_layout pid s).living)
      → size ≡ size_by kind m.size
      → Some (stat_of 1 i mode links m.uid m.gid size) ≡ option_map (node_stat (known image_layout pid s) i) ((known image_layout pid s).fact i)
  node-told x kind m mode links size is kinds meta modes linked sizes =
      let k = known image_layout pid s in
      let b = x.node.body in
      let same : kind ≡ kind_of b = same_Some kind (kind_of b) (kinds ∙ ap (λ o. option_map kind_of (option_map (λ (x : Inode). x.node.body) o)) is) in
      let mode_is : mode ≡ kind_bits b + x.node.mode = modes ∙ ap (λ kind. bits_by kind + m.mode) same ∙ ap (λ bits. bits + m.mode) (bits-same b) ∙ ap (λ (m : Meta). kind_bits b + m.mode) meta in
      let size_is : size ≡ size_of b = sizes ∙ ap (λ kind. size_by kind m.size) same ∙ ap (λ (m : Meta). size_by (kind_of b) m.size) meta ∙ size-same b in
      let links_is : links ≡ links_of k (fact x) b =
      linked ∙ ap (λ kind. links_by kind (body_is takes_names s.tree i) m.names (option_map_or (λ x. x.directories) (inode s.tree i) 0) (length k.living)) same
      ∙ ap (λ (m : Meta). links_by (kind_of b) (body_is takes_names s.tree i) m.names (option_map_or (λ x. x.directories) (inode s.tree i) 0) (length k.living)) meta
      ∙ ap (λ (o : Option Inode). links_by (kind_of b) (option_map_or (λ x. takes_names x.node.body) o false) x.names (option_map_or (λ x. x.directories) o 0) (length k.living)) is
      ∙ links-same (fact x) b in
      ap (λ mode. Some (stat_of 1 i mode links m.uid m.gid size)) mode_is
      ∙ ap (λ links. Some (stat_of 1 i (kind_bits b + x.node.mode) links m.uid m.gid size)) links_is
      ∙ ap (λ size. Some (stat_of 1 i (kind_bits b + x.node.mode) (links_of k (fact x) b) m.uid m.gid size)) size_is
      ∙ ap (λ (m : Meta). Some (stat_of 1 i (kind_bits b + x.node.mode) (links_of k (fact x) b) m.uid m.gid (size_of b))) meta
      ∙ sym (ap (option_map (node_stat k i)) (fact-known x is))

  pub none-told : inode s.tree i ≡ None → ◌≡◌ {A = Option Stat} None (option_map (node_stat (known image_layout pid s) i) ((known image_layout pid s).fact i))
  none-told is = sym (ap (option_map (node_stat (known image_layout pid s) i)) (fact-unknown is))

pub kind-gone : (t : Tree) (i : ℕ) → ◌≡◌ {A = Option Kind} None (option_map kind_of (body t i)) → inode t i ≡ None
kind-gone t i e = by (inode t i) e
  where
    by : (o : Option Inode) → ◌≡◌ {A = Option Kind} None (option_map kind_of (option_map (λ (x : Inode). x.node.body) o)) → o ≡ None
    by None e = refl
    by (Some x) e = absurd cc

-- so few that two more are counted
pub few-directories : (t : Tree) → IsKept t → (i n : ℕ) → n ≡ option_map_or (λ x. x.directories) (inode t i) 0 → n + 2 < 2 ^ 32
few-directories t kept i n e = by (inode t i) refl e
  where
    by : (o : Option Inode) → inode t i ≡ o → n ≡ option_map_or (λ x. x.directories) o 0 → n + 2 < 2 ^ 32
    by None is e = omega arith
    by (Some x) is e = let few = directories_few t kept.sound kept.counted i x is in omega arith
