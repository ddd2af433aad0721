-- What rows rest on beside a lawful state: the bounds of a machine's numbers, and what the walks of a call's paths give.
use Rattle.std.specs.Prelude.{ℕ, ◌≡◌, ◌≤◌, ◌<◌, ◌^◌, true, false, List, Option, Some, None}
use Rattle.law_lawful.specs.kr_tree.Lawful.{AreBytes, IsIn}
use Rattle.law_lawful.specs.kr_tree.Names.{is_name}
use Rattle.law_lawful.specs.kr_tree.Tree.{Tree, Inode, Entry, inode, entry, entries, body_is, takes_names}
use Rattle.law_lawful.specs.kr_tree.declared.place.Host.{Host}
use Rattle.law_lawful.specs.kr_tree.declared.place.Host.TheVariants.{Node}
use Rattle.law_lawful.specs.kr_view.View.{Row, covered}
use Rattle.law_lawful.specs.kr_view.InTree.{IsPlaceOf}
use Rattle.law_lawful.specs.kr_view.Leads.{numbered}
use Rattle.law_lawful.specs.kr_model.Applied.{Mounts}
use Rattle.law_lawful.specs.kr_model.Lawful.{IsNameOrNone}
use Rattle.law_lawful.specs.kr_model.Seen.{Looked, Entered, Taken, TakesNoName, TakesCovered, Takes, Made, MakesNoName, MakesOver, Makes, Opening, OpensNoName, OpensSlashed, OpensFound, OpensNew}

-- owners and processes have numbers of 32 bits, and serials of entries have 63
pub record HasSmallNumbers (t : Tree) (next : ℕ) : Type 0 where
  pub owners : (i : ℕ) (x : Inode) → inode t i ≡ Some x → (x.node.uid < 2 ^ 32) × (x.node.gid < 2 ^ 32)
  pub serials : (i : ℕ) (e : Entry) → IsIn e (entries t i) → e.serial < 2 ^ 63
  pub pids : next ≤ 2 ^ 32

-- an object of the tree, in a mount of the view
pub record IsSeenIn {M : Type 0} (number : M → ℕ) (table : List Row) (t : Tree) (from : Option M) (host : Host) : Type 0 where
  pub mount : M
  pub taken : from ≡ Some mount
  pub stands : IsPlaceOf t table (numbered number (record { mount = mount; host = host }))

-- a name that was free in a directory that takes names is well-formed, and no entry of it
abbrev pub IsFreeIn : Tree → Host → List ℕ → Type 0
IsFreeIn t dir name = (i : ℕ) → dir ≡ Node i → body_is takes_names t i ≡ true → (is_name name ≡ true) × AreBytes name × (entry t i name ≡ None)

-- an entry of such a directory, at which no mount stands: it is there where something was found, and free where nothing was
pub record IsEntryIn (t : Tree) (table : List Row) (e : Entered) : Type 0 where
  pub uncovered : (i : ℕ) → e.dir ≡ Node i → body_is takes_names t i ≡ true → covered table i e.name ≡ false
  pub found : (i : ℕ) (host : Host) → e.dir ≡ Node i → body_is takes_names t i ≡ true → e.found ≡ Some host → (own : ℕ) × (host ≡ Node own) × (entry t i e.name ≡ Some own)
  pub free : e.found ≡ None → IsFreeIn t e.dir e.name

-- ---- what is told of paths, over a view's mounts

module _ {M : Type 0} (number : M → ℕ) (table : List Row) (mounts : Mounts M) (t : Tree) where
  -- what was looked up is in the first path's mount; an entry that is remembered has a well-formed name
  pub record IsLookedIn (l : Looked) : Type 0 where
    pub found : IsSeenIn number table t mounts.found l.host
    pub entry : (e : ℕ × List ℕ) → l.entry ≡ Some e → IsNameOrNone e.1

  abbrev pub IsTakenIn : Taken → Type 0
  IsTakenIn (TakesNoName last) = Unit {0}
  IsTakenIn TakesCovered = Unit {0}
  IsTakenIn (Takes e) = IsEntryIn t table e

  abbrev pub IsMadeIn : Made → Type 0
  IsMadeIn (MakesNoName last) = Unit {0}
  IsMadeIn MakesOver = Unit {0}
  IsMadeIn (Makes dir name slash) = IsFreeIn t dir name

  -- a file to be made is in the mount of its directory
  abbrev pub IsOpeningIn : Opening → Type 0
  IsOpeningIn (OpensNoName last) = Unit {0}
  IsOpeningIn OpensSlashed = Unit {0}
  IsOpeningIn (OpensFound l) = IsLookedIn l
  IsOpeningIn (OpensNew dir name) = IsSeenIn number table t mounts.directory dir × IsFreeIn t dir name
