-- Another name of what is there.
use Rattle.std.proofs.Common.{◌≡◌, ℕ, Bool, true, false, nat_eq, List, [], ◌∷◌, Option, Some, None, refl, sym, ap, subst, ◌∙◌}
use Rattle.std.specs.Prelude.{◌↔◌, IsTrue}
use Rattle.std.specs.Option.{option_map, option_map_or}
use Rattle.kr_seen.specs.pr_base.declared.errno.Errno.TheVariants.{EPERM, ENOENT, ENOSPC}
use Rattle.kr_seen.specs.kr_tree.Tree.{Body, Directory, RegularFile, SymbolicLink, ProcessDirectory, Inode, Tree, body_is, inode, is_directory, may_be_linked}
use Rattle.kr_seen.specs.kr_tree.declared.place.Host.{Host}
use Rattle.kr_seen.specs.kr_tree.declared.place.Host.TheVariants as host
use Rattle.kr_seen.specs.kr_tree.declared.place.Place.{Place}
use Rattle.kr_seen.specs.kr_view.InTree.{IsObjectOf}
use Rattle.kr_seen.specs.kr_view.Leads.{numbered}
use Rattle.kr_seen.specs.kr_view.View.{Row, is_there}
use Rattle.kr_seen.specs.kr_view.declared.target.Target.{Target}
use Rattle.kr_seen.specs.kr_model.Asking.{body_passes, has_no_name_left, writable}
use Rattle.kr_seen.specs.kr_model.Change.{LinkNode}
use Rattle.kr_seen.specs.kr_model.Known.{Known}
use Rattle.kr_seen.specs.kr_model.NameRows.{link_host, link_node}
use Rattle.kr_seen.specs.kr_model.Reply.{done, refuse}
use Rattle.kr_seen.specs.kr_model.Seen.{Links, Looked, Made, WalkFails}
use Rattle.kr_seen.specs.kr_model.State.{Image, State}
use Rattle.kr_seen.specs.kr_model.Walks.{linked_at, looked_at, made_at, mount_found}
use Rattle.kr_seen.specs.Asked.{IsTaking}
use Rattle.kr_seen.specs.Placed.{placed_in}
use Rattle.kr_seen.specs.Resolved.{IsFoundIn}
use Rattle.kr_names.proofs.NodeLemmas.{if-true, if-false}

-- what is there and is no directory may have several names
pub linkable : (t : Tree) (i : ℕ) → is_there (inode t i) ≡ true → body_is is_directory t i ≡ false → body_is may_be_linked t i ≡ true
linkable t i there other = by (inode t i) there other
  where
    kinds : (b : Body) → is_directory b ≡ false → may_be_linked b ≡ true
    kinds (Directory entries standing) e = absurd cc
    kinds (RegularFile bytes) e = refl
    kinds (SymbolicLink text) e = refl
    kinds (ProcessDirectory standing) e = absurd cc

    by : (o : Option Inode) → is_there o ≡ true → option_map_or (λ (x : Inode). is_directory x.node.body) o false ≡ false → option_map_or (λ (x : Inode). may_be_linked x.node.body) o false ≡ true
    by None e d = absurd cc
    by (Some x) e d = kinds x.node.body d

-- ---- the tests

module _ (k : Known) (i : ℕ) (at : Host) (name : List ℕ) where
  pub directory-unlinked : body_passes is_directory k i ≡ true → link_host k (host.Node i) at name ≡ refuse EPERM
  directory-unlinked e = if-true (body_passes is_directory k i) (refuse EPERM) (writable k at (link_node k i name)) e

  pub links-in : body_passes is_directory k i ≡ false → link_host k (host.Node i) at name ≡ writable k at (link_node k i name)
  links-in e = if-false (body_passes is_directory k i) (refuse EPERM) (writable k at (link_node k i name)) e

  module _ (dir : ℕ) (t : IsTaking k at dir) (other : body_passes is_directory k i ≡ false) where
    pub links-full : has_no_name_left k ≡ true → link_host k (host.Node i) at name ≡ refuse ENOSPC
    links-full full = links-in other ∙ t.goes_on _ ∙ if-true _ _ _ full

    pub links-goes : has_no_name_left k ≡ false → link_host k (host.Node i) at name ≡ done 0 (LinkNode dir name i ∷ [])
    links-goes room = links-in other ∙ t.goes_on _ ∙ if-false _ _ _ room

pub whether : (P : Type 0) (full : Bool) → (P ↔ IsTrue full) → (P → ⊥) → full ≡ false
whether P true when none = absurd (none (when.1 refl))
whether P false when none = refl

-- ---- targets

linked-by : (found : Option (Place ℕ)) (look : Place ℕ → Looked) (made : Made) (same : Bool) (l : Looked) (m : Made) (b : Bool) → ((p : Place ℕ) → (look p).host ≡ p.host)
    → Links l m b ≡ option_map_or (λ p. Links (look p) made same) found (WalkFails ENOENT) → (p : Place ℕ) × (found ≡ Some p) × (l.host ≡ p.host) × (m ≡ made)
linked-by None look made same l m b hosts e = absurd cc
linked-by (Some p) look made same l m b hosts e = let one : l ≡ look p = cc in (p, refl, ap (λ (l : Looked). l.host) one ∙ hosts p, cc)

placed-object : {T : Type 0} (number : T → ℕ) (o : Option (Place T)) (p : Place ℕ) → option_map (numbered number) o ≡ Some p → (q : Place T) × (o ≡ Some q) × (p.host ≡ q.host)
placed-object number None p e = absurd cc
placed-object number (Some q) p e = let same : numbered number q ≡ p = cc in (q, refl, ap (λ (p : Place ℕ). p.host) (sym same))

module _ {T : Type 0} (number : T → ℕ) (table : List Row) (pid : ℕ) (s : State ℕ Image) (old new : Target T) (l : Looked) (m : Made) (b : Bool)
    (told : Links l m b ≡ linked_at table pid s (placed_in number old) (placed_in number new)) where
  parts : (p : Place ℕ) × (option_map (numbered number) old.found ≡ Some p) × (l.host ≡ p.host) × (m ≡ made_at table pid s (placed_in number new))
  parts =
      linked-by (option_map (numbered number) old.found) (looked_at table pid s (placed_in number old)) (made_at table pid s (placed_in number new))
      (option_map_or (λ n. nat_eq n (number new.dir.mount)) (mount_found (placed_in number old)) false) l m b (λ p. refl) told

  pub linked-object : (t : Tree) → IsFoundIn t old → IsObjectOf t l.host
  linked-object t found =
      let q = placed-object number old.found parts.0 parts.1 in
      let P : Host → Type 0 = λ h. IsObjectOf t h in subst P (sym (parts.2 ∙ q.2)) (found q.0 q.1)

  pub linked-made : m ≡ made_at table pid s (placed_in number new)
  linked-made = parts.3
