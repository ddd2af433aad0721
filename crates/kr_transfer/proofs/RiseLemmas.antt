-- The serials of what a directory shows rise.
use Rattle.std.proofs.Common.{◌≡◌, ℕ, suc, ◌+◌, ◌<◌, Bool, true, false, cond, List, [], ◌∷◌, Option, Some, None, refl, arith}
use Rattle.std.specs.Prelude.{map as map_list}
use Rattle.std.specs.Option.{option_map, option_map_or}
use Rattle.kr_seen.specs.kr_inode.Entries.{RisesWithin}
use Rattle.kr_seen.specs.kr_tree.Tree.{Body, Directory, RegularFile, SymbolicLink, ProcessDirectory, Entry, Inode, entries_of, inode}
use Rattle.kr_seen.specs.kr_tree.declared.place.Host.{Host}
use Rattle.kr_seen.specs.kr_tree.declared.place.Host.TheVariants.{Node, Proc}
use Rattle.kr_seen.specs.kr_tree.declared.place.ProcAt.{ProcAt}
use Rattle.kr_seen.specs.kr_tree.declared.place.ProcAt.TheVariants.{SelfLink, Dir, Cwd, Root, Exe, FdDir, Fd}
use Rattle.kr_seen.specs.kr_procfs.Objects.{inode_number}
use Rattle.kr_seen.specs.kr_model.Asking.{is_over}
use Rattle.kr_seen.specs.kr_model.DirectoryRows as model
use Rattle.kr_seen.specs.kr_model.DirectoryRows.{listed_entry, listed_process, of_descriptors, of_process, shown_by_body, shown_by_process, with_dots}
use Rattle.kr_seen.specs.kr_model.Known.{Fact, Family, Known, family_of, known}
use Rattle.kr_seen.specs.kr_model.Lawful.{RiseFrom}
use Rattle.kr_seen.specs.kr_model.State as state
use Rattle.kr_seen.specs.kr_model.State.{Image, image_layout}
use Rattle.kr_seen.specs.kr_ops.declared.state.State.{State}
use Rattle.kr_seen.specs.kr_ops.Meaning.{meaning}
use Rattle.kr_seen.specs.kr_ops.Sound.{IsOfView}
use Rattle.kr_transfer.specs.Listing.{all_shown}
use Rattle.kr_transfer.proofs.DescriptorLemmas.{descriptors-rise}
use Rattle.kr_transfer.proofs.ListingLemmas.{RiseBehind}

-- those of a list of the tree
rise-entries : (k : Known) (low next : ℕ) (es : List Entry) → RisesWithin low next es → RiseBehind low (map_list (listed_entry k) es)
rise-entries k low next [] rise = tt
rise-entries k low next (e ∷ es) rise = (rise.0, rise-entries k e.serial next es rise.1)

module _ {M : Type 0} (next : ℕ) where
  -- those of processes in the order of their numbers
  rise-living : (low before : ℕ) (ps : List (state.Process M Image)) → before < 8 + low → RiseFrom low next (map_list (λ (p : state.Process M Image). p.pid) ps)
      → RiseBehind before (map_list (λ (p : Family). listed_process (Dir p.pid)) (map_list (family_of image_layout) ps))
  rise-living low before [] behind rise = tt
  rise-living low before (p ∷ ps) behind rise = let first = rise.0 in (omega arith, rise-living (suc p.pid) (8 + p.pid) ps (omega arith) rise.2)

module _ {T : Type 0} {M : ℕ} (s : State T M) (view : IsOfView s) (pid : ℕ) where
  abbrev k : Known
  k = known image_layout pid (meaning s)

  rise-body : (i next : ℕ) (b : Body) → RisesWithin 2 next (entries_of b) → RiseBehind 0 (option_map_or (λ (es : List model.Listed). es) (shown_by_body k i b) [])
  rise-body i next (Directory es None) rise = tt
  rise-body i next (Directory es (Some st)) rise = (omega arith, (omega arith, rise-entries k 2 next es rise))
  rise-body i next (ProcessDirectory None) rise = tt
  rise-body i next (ProcessDirectory (Some st)) rise = (omega arith, (omega arith, (omega arith, rise-living (meaning s).next_pid 2 3 (meaning s).living (omega arith) view.lawful.pids.living)))
  rise-body i next (RegularFile bytes) rise = tt
  rise-body i next (SymbolicLink text) rise = tt

  rise-node : (i : ℕ) → RiseBehind 0 (all_shown k (Node i))
  rise-node i = by (inode s.tree i) refl
    where
      by : (q : Option Inode) → inode s.tree i ≡ q
          → RiseBehind 0 (option_map_or (λ (es : List model.Listed). es) (option_map_or (λ n. shown_by_body k i n.body) (option_map (λ (f : Fact). f.node) (option_map (λ (x : Inode). record { node = x.node; names = x.names; directories = x.directories }) q)) None) [])
      by None is = tt
      by (Some x) is = rise-body i _ x.node.body (view.lawful.tree.sound.listed i x is).rises

  rise-process : (i : ℕ) (at : ProcAt) → RiseBehind 0 (option_map_or (λ (es : List model.Listed). es) (shown_by_process k i at) [])
  rise-process i SelfLink = tt
  rise-process i (Cwd q) = tt
  rise-process i (Root q) = tt
  rise-process i (Exe q) = tt
  rise-process i (Fd q fd) = tt
  rise-process i (Dir q) = by (is_over k (Dir q))
    where
      by : (b : Bool) → RiseBehind 0 (option_map_or (λ (es : List model.Listed). es) (cond b None (Some (with_dots (inode_number (Dir q)) i (of_process q)))) [])
      by true = tt
      by false = (omega arith, (omega arith, (omega arith, (omega arith, (omega arith, (omega arith, tt))))))
  rise-process i (FdDir q) = by (is_over k (FdDir q))
    where
      by : (b : Bool) → RiseBehind 0 (option_map_or (λ (es : List model.Listed). es) (cond b None (Some (with_dots (inode_number (FdDir q)) (inode_number (Dir q)) (of_descriptors k q)))) [])
      by true = tt
      by false = (omega arith, (omega arith, descriptors-rise (meaning s) pid q))

  -- whatever a directory shows
  pub shown-rise : (host : Host) → RiseBehind 0 (all_shown k host)
  shown-rise (Node i) = rise-node i
  shown-rise (Proc i at) = rise-process i at
