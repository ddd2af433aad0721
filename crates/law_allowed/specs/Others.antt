-- What a call leaves of the processes other than its caller.
use Rattle.std.specs.Prelude.{◌≡◌, ◌≢◌, ℕ, Bool, List, Some}
use Rattle.law_lawful.specs.kr_tree.declared.place.Place.{Place}
use Rattle.law_lawful.specs.kr_files.Descriptors.{Meanings}
use Rattle.law_lawful.specs.kr_model.State.{Process, State, process, with_process}
use Rattle.law_lawful.specs.kr_model.Change.{Change}
use Rattle.law_lawful.specs.kr_model.Applied.{Computing, Mounts, applied, all_applied, with_living}

-- what is a process's own: what it computes on, its descriptors, and where it stands. Two things aren't: its parent,
-- since the children of a process that ends come to belong to 1, and the entry that its executable was opened by, which
-- follows a rename and is forgotten with its name
pub record Own (M X : Type 0) : Type 0 where
  pub pid : ℕ
  pub image : X
  pub brk_start : ℕ
  pub brk : ℕ
  pub descs : Meanings
  pub cwd : Place M
  pub exe : Place M
  pub umask : ℕ
  pub waits : Bool

module _ {M X : Type 0} where
  abbrev pub own : Process M X → Own M X
  own p = record {
    pid = p.pid;
    image = p.image;
    brk_start = p.brk_start;
    brk = p.brk;
    descs = p.descs;
    cwd = p.cwd;
    exe = p.exe;
    umask = p.umask;
    waits = p.waits;
  }

  -- if the process of a number lives, it lives on, with all that is its own
  abbrev pub LivesOn : ℕ → State M X → State M X → Type 0
  LivesOn q s t = (p : Process M X) → process q s ≡ Some p → (after : Process M X) × (process q t ≡ Some after) × (own after ≡ own p)

-- a change of a caller's call leaves each other process so, whatever it is: a child that is born comes behind those that
-- live, and takes no one's place
abbrev pub OthersLiveOn : Type 0 → Type 0 → Type 0
OthersLiveOn M X =
    (computing : Computing X) (mounts : Mounts M) (pid : ℕ) (c : Change) (s : State M X) (q : ℕ) → q ≢ pid
    → LivesOn q s (applied computing mounts pid c s)

-- and so do all changes of a call
abbrev pub AllOthersLiveOn : Type 0 → Type 0 → Type 0
AllOthersLiveOn M X =
    (computing : Computing X) (mounts : Mounts M) (pid : ℕ) (cs : List Change) (s : State M X) (q : ℕ) → q ≢ pid
    → LivesOn q s (all_applied computing mounts pid cs s)

-- what is done to the process of a number, which keeps it, leaves the others just as they are, and lets none come or go
abbrev pub OthersStay : Type 0 → Type 0 → Type 0
OthersStay M X =
    (pid : ℕ) (f : Process M X → Process M X) → ((p : Process M X) → (f p).pid ≡ p.pid)
    → (s : State M X) (q : ℕ) → q ≢ pid → process q (with_living (with_process pid f) s) ≡ process q s
