-- Whatever the process directory shows later, what stands at guest texts before a process lives stands then.
use Rattle.std.proofs.Common.{◌≡◌, ℕ, List, [], ◌∷◌, Some, None}
use Rattle.pr_start.specs.pr_base.Texts.{Text}
use Rattle.pr_start.specs.kr_inode.declared.user.User.{User}
use Rattle.pr_start.specs.kr_tree.Tree.{Tree}
use Rattle.pr_start.specs.kr_tree.declared.place.Host.{Host}
use Rattle.pr_start.specs.kr_tree.declared.place.Host.TheVariants.{Node, Proc}
use Rattle.pr_start.specs.kr_tree.declared.place.Place.{Place}
use Rattle.pr_start.specs.kr_tree.declared.place.ProcAt.{ProcAt}
use Rattle.pr_start.specs.kr_view.Component.{Finds, Namespace}
use Rattle.pr_start.specs.kr_view.Processes.{no_finds}
use Rattle.pr_start.specs.kr_view.View.{Row}
use Rattle.pr_start.proofs.kr_view.HostReachLemmas.{IsFoundIn, at_top, below_top, found_in, inode_reached, last_object, reached_inode}
use Rattle.law_turns.specs.law_walks.Settled.{IsSettled, host_text}
use Rattle.law_turns.specs.law_walks.Standing.{IsEntryAt, IsOpen, IsSearched, Stands, StandsOn, reached_in}
use Rattle.law_starts.specs.Spaces.{first_space}

-- whatever it shows later, what is reached before a process lives is reached then
module _ (table : List Row) (tree : Tree) (user : User) (shows : Finds) where
  abbrev now : Namespace
  now = first_space table tree user

  abbrev later : Namespace
  later = record { table = table; tree = tree; user = user; finds = shows }

  pub nothing-reached : (h : Text) (i : ℕ) (at : ProcAt) → reached_in now h ≡ Some (Proc i at) → ⊥
  nothing-reached [] i at way = cc
  nothing-reached (name ∷ h) i at way =
      let s = last_object tree user no_finds h name (Proc i at) way in
      by s.dir (found_in tree no_finds name s.dir i at s.there)
    where
      by : (dir : Host) → IsFoundIn tree no_finds name i at dir → ⊥
      by _ (at_top is found) = let clash : None ≡ Some at = found in cc
      by _ (below_top up found) = let clash : None ≡ Some at = found in cc

  pub reached-later : (h : Text) (x : Host) → reached_in now h ≡ Some x → reached_in later h ≡ Some x
  reached-later h (Node i) way = inode_reached tree user shows h i (reached_inode tree user no_finds h i way)
  reached-later h (Proc i at) way = absurd (nothing-reached h i at way)

  searched-later : (h : Text) → IsSearched now h → IsSearched later h
  searched-later h s = record { dir = s.dir; way = reached-later h s.dir s.way; is_dir = s.is_dir; search = s.search }

  open-later : (t : Text) → IsOpen now t → IsOpen later t
  open-later [] o = tt
  open-later (name ∷ t) o = (searched-later (host_text now t) o.0, open-later t o.1)

  stands-later : (p : Place ℕ) (t : Text) → Stands now p t → Stands later p t
  stands-later p t s = record { mount = s.mount; way = reached-later (host_text now t) p.host s.way; above = λ dir. open-later t (s.above dir) }

  pub on-later : (p : Place ℕ) (t : Text) → StandsOn now p t → StandsOn later p t
  on-later p t s = record { stands = stands-later p t s.stands; firm = s.firm }

  pub entry-later : (h : Text) (dir : Host) (name : List ℕ) → IsEntryAt now h dir name → IsEntryAt later h dir name
  entry-later h dir name e = record { up = e.up; text = e.text; way = reached-later e.up dir e.way }

  pub settled-later : IsSettled now → IsSettled later
  settled-later set = record {
    sound = set.sound;
    inodes = set.inodes;
    mounts = set.mounts;
    sources = set.sources;
    entries = λ k r at file. let e = set.entries k r at file in record { up = e.up; text = e.text; way = e.way };
    points = λ k r p at stands. let e = set.points k r p at stands in record { up = e.up; location = e.location; mount = e.mount; dir = e.dir; text = e.text };
  }
