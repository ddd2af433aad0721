-- What is open under a descriptor, and what a path led to, as rows are told of them.
use Rattle.std.proofs.Common.{◌≡◌, ℕ, ℤ, List, Option, Some, None, IsSome, get_or, refl, sym, ap, ◌∙◌}
use Rattle.std.specs.Option.{option_map, option_map_or, option_and_then}
use Rattle.std.proofs.lemmas.Option.{none-some}
use Rattle.kr_seen.specs.pr_base.declared.errno.Errno.TheVariants.{ENOENT, EBADF}
use Rattle.kr_seen.specs.kr_tree.Tree.{inode}
use Rattle.kr_seen.specs.kr_tree.declared.place.Host.{Host}
use Rattle.kr_seen.specs.kr_tree.declared.place.Place.{Place}
use Rattle.kr_seen.specs.kr_view.Leads.{numbered}
use Rattle.kr_seen.specs.kr_view.View.{Row}
use Rattle.kr_seen.specs.kr_view.declared.target.Target.{Target}
use Rattle.kr_seen.specs.kr_files.Descriptors.{Named}
use Rattle.kr_seen.specs.kr_files.Files.{file_at}
use Rattle.kr_seen.specs.kr_files.WithoutMounts.{without_mount}
use Rattle.kr_seen.specs.kr_files.declared.opened.Opened.{Opened}
use Rattle.kr_seen.specs.kr_model.Asking.{descriptor_number, of_number, or_badf, or_closed}
use Rattle.kr_seen.specs.kr_model.Applied.{Mounts, mount_of}
use Rattle.kr_seen.specs.kr_model.Change.{OfDescriptor}
use Rattle.kr_seen.specs.kr_model.Known.{Known, caller_of, known, no_caller}
use Rattle.kr_seen.specs.kr_model.Operation.{link_read, looked_up}
use Rattle.kr_seen.specs.kr_model.Reply.{Replying, refuse}
use Rattle.kr_seen.specs.kr_model.Seen.{Looked, LooksUp, ReadsLink, Seen, WalkFails}
use Rattle.kr_seen.specs.kr_model.State as model
use Rattle.kr_seen.specs.kr_model.Walks.{looked_at, text_at}
use Rattle.kr_seen.specs.kr_ops.declared.state.Process.{Process}
use Rattle.kr_seen.specs.kr_ops.declared.state.State.{State}
use Rattle.kr_seen.specs.kr_ops.Living.{HasPid}
use Rattle.kr_seen.specs.kr_ops.Meaning.{meaning, process_meaning}
use Rattle.kr_seen.specs.kr_ops.Sound.{IsSound}
use Rattle.kr_seen.proofs.kr_ops.OpeningLemmas.{found, is-there}
use Rattle.kr_seen.proofs.kr_ops.UseLemmas.{open-held}
use Rattle.kr_seen.specs.Numbered.{state_numbered}
use Rattle.kr_seen.specs.Performing.{seen_found}
use Rattle.kr_seen.specs.Placed.{placed_in}
use Rattle.kr_attributes.specs.Found.{IsOpenAs}
use Rattle.kr_attributes.specs.Named.{seen_link}
use Rattle.kr_attributes.specs.declared.found.OpenObject.{OpenObject}

-- ---- descriptors

module _ {T : Type 0} (pid : ℕ) (s : model.State T model.Image) (fd : ℤ) (next : ℕ → Opened (Unit {0}) → Replying) where
  pub negative : descriptor_number fd ≡ None → or_badf (known model.image_layout pid s) fd next ≡ refuse EBADF
  negative number = ap (λ d. of_number (known model.image_layout pid s) d next) number

  module _ (n : ℕ) (number : descriptor_number fd ≡ Some n) where
    pub not-open : model.opened pid n s ≡ None → or_badf (known model.image_layout pid s) fd next ≡ refuse EBADF
    not-open there = ap (λ d. of_number (known model.image_layout pid s) d next) number ∙ ap (λ o. or_closed (option_map without_mount o) (next n)) there

    pub is-open : (o : Opened T) → model.opened pid n s ≡ Some o → or_badf (known model.image_layout pid s) fd next ≡ next n (without_mount o)
    is-open o there = ap (λ d. of_number (known model.image_layout pid s) d next) number ∙ ap (λ o. or_closed (option_map without_mount o) (next n)) there

-- the object is the same without its mount
pub same-object : {T : Type 0} (place : Option (Place T)) → option_map (λ p. p.host) place ≡ option_map (λ (p : Place (Unit {0})). p.host) (option_map (λ (p : Place T). record { mount = tt; host = p.host }) place)
same-object None = refl
same-object (Some p) = refl

-- what follows for the object at a place
pub of-object : {A : Type 0} (place : Option (Place (Unit {0}))) (next : Host → A) (other : A) → option_map_or (λ p. next p.host) place other ≡ option_map_or next (option_map (λ p. p.host) place) other
of-object None next other = refl
of-object (Some p) next other = refl

-- ---- what a descriptor is open on

module _ {T : Type 0} (pid : ℕ) (s : model.State T model.Image) (fd : ℤ) (row : ℕ → Host → Replying) (other : Replying) (n : ℕ) (number : descriptor_number fd ≡ Some n) (o : Opened T)
    (there : model.opened pid n s ≡ Some o) where
  abbrev placed_row : ℕ → Opened (Unit {0}) → Replying
  placed_row n o = option_map_or (λ p. row n p.host) o.place other

  abbrev placed_at : Option (Place T) → Replying
  placed_at place = option_map_or (λ (p : Place (Unit {0})). row n p.host) (option_map (λ (p : Place T). record { mount = tt; host = p.host }) place) other

  pub is-placed : (p : Place T) → o.place ≡ Some p → or_badf (known model.image_layout pid s) fd placed_row ≡ row n p.host
  is-placed p place = is-open pid s fd placed_row n number o there ∙ ap placed_at place

  pub is-unplaced : o.place ≡ None → or_badf (known model.image_layout pid s) fd placed_row ≡ other
  is-unplaced place = is-open pid s fd placed_row n number o there ∙ ap placed_at place

pub mount-of-open : {T : Type 0} (pid : ℕ) (s : model.State T model.Image) (n : ℕ) (o : Opened T) (p : Place T) (mounts : Mounts T) → model.opened pid n s ≡ Some o → o.place ≡ Some p
    → mount_of mounts pid s (OfDescriptor n) ≡ Some p.mount
mount-of-open {T} pid s n o p mounts there place =
    ap (λ o. option_map (λ (p : Place T). p.mount) (option_and_then (λ (o : Opened T). o.place) o)) there ∙ ap (option_map (λ (p : Place T). p.mount)) place

-- the same of what the code was told of a descriptor
module _ (k : Known) (fd : ℤ) {z : ℤ} (same : fd ≡ z) (row : Host → Replying) (other : Opened (Unit {0}) → Replying) where
  abbrev object_row : ℕ → Opened (Unit {0}) → Replying
  object_row n o = option_map_or (λ p. row p.host) o.place (other o)

  pub closed : ((next : ℕ → Opened (Unit {0}) → Replying) → or_badf k z next ≡ refuse EBADF) → or_badf k fd object_row ≡ refuse EBADF
  closed none = ap (λ z. or_badf k z object_row) same ∙ none object_row

  module _ (object : OpenObject) (open_ : IsOpenAs k z object) where
    on-open : or_badf k fd object_row ≡ option_map_or row object.host (other open_.opened)
    on-open =
        ap (λ z. or_badf k z object_row) same ∙ open_.goes_on object_row ∙ of-object open_.opened.place row (other open_.opened)
        ∙ ap (λ h. option_map_or row h (other open_.opened)) (sym open_.host)

    pub on-object : (h : Host) → object.host ≡ Some h → or_badf k fd object_row ≡ row h
    on-object h e = on-open ∙ ap (λ h. option_map_or row h (other open_.opened)) e

    pub on-none : object.host ≡ None → or_badf k fd object_row ≡ other open_.opened
    on-none e = on-open ∙ ap (λ h. option_map_or row h (other open_.opened)) e

-- what a descriptor is open on is there, since it is held
pub place-there : {T : Type 0} {M : ℕ} (s : State T M) → IsSound s → (pid fd : ℕ) (o : Opened T) (p : Place T) → model.opened pid fd (meaning s) ≡ Some o → o.place ≡ Some p → IsSome (inode s.tree (model.inode_of p.host))
place-there {T} s sound pid fd o p there place = by (model.named pid fd (meaning s)) there
  where
    by : (x : Option Named) → option_and_then (λ (x : Named). file_at s.files.table x.number) x ≡ Some o → IsSome (inode s.tree (model.inode_of p.host))
    by None e = absurd (none-some o e)
    by (Some x) e = is-there (inode s.tree (model.inode_of p.host)) (open-held s sound x.number p (ap (option_and_then (λ (o : Opened T). o.place)) e ∙ place))

-- ---- the caller

pub known-caller : {T : Type 0} {M : ℕ} (s : State T M) (pid k : ℕ) (p : Process T M) → IsSound s → HasPid pid k s.living.items → p ≡ get_or s.living.items k p
    → (known model.image_layout pid (meaning s)).caller ≡ caller_of model.image_layout (process_meaning p)
known-caller s pid k p sound at e = ap (λ o. option_map_or (caller_of model.image_layout) o no_caller) (found s pid k p sound at e)

-- ---- what was found

module _ {T : Type 0} {M : ℕ} (n : T → ℕ) (table : List Row) (pid : ℕ) (s : State T M) (target : Target T) where
  -- what is told of what was found
  abbrev pub seen_at : (Looked → Seen) → Option (Place T) → Seen
  seen_at next found = option_map_or (λ p. next (looked_at table pid (state_numbered n (meaning s)) (placed_in n target) p)) (option_map (numbered n) found) (WalkFails ENOENT)

  module _ (row : Looked → Replying) where
    pub not-found : target.found ≡ None → looked_up (seen_found n table pid s target LooksUp) row ≡ refuse ENOENT
    not-found e = ap (λ o. looked_up (seen_at LooksUp o) row) e

    pub was-found : (p : Place T) → target.found ≡ Some p → looked_up (seen_found n table pid s target LooksUp) row ≡ row (looked_at table pid (state_numbered n (meaning s)) (placed_in n target) (numbered n p))
    was-found p e = ap (λ o. looked_up (seen_at LooksUp o) row) e

  -- the same of a link that is read
  module _ (row : Looked → Option (List ℕ) → Replying) where
    pub no-link-found : target.found ≡ None → link_read (seen_link n table pid s target) row ≡ refuse ENOENT
    no-link-found e = ap (λ o. link_read (seen_at (λ l. ReadsLink l (text_at table pid (state_numbered n (meaning s)) l.host)) o) row) e

    pub link-found : (p : Place T) → target.found ≡ Some p
        → link_read (seen_link n table pid s target) row ≡ row (looked_at table pid (state_numbered n (meaning s)) (placed_in n target) (numbered n p)) (text_at table pid (state_numbered n (meaning s)) p.host)
    link-found p e = ap (λ o. link_read (seen_at (λ l. ReadsLink l (text_at table pid (state_numbered n (meaning s)) l.host)) o) row) e
