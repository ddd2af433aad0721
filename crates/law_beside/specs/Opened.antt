-- What is open, and where processes stand: that others leave what a process has open, and that places stay inodes behind calls whose walks look up no
-- name in the process directory.
use Rattle.std.specs.Prelude.{◌≡◌, ◌≢◌, ◌≤◌, ℕ, Bool, false, List, Option, Some, IfSome, IsSome}
use Rattle.std.specs.List.{AllByRecursion}
use Rattle.std.specs.Option.{option_map}
use Rattle.kr_core.specs.rv_mem.Memory.{Memory}
use Rattle.kr_core.specs.rv_mem.declared.regs.Regs.{Regs}
use Rattle.kr_core.specs.kr_tree.declared.place.Host.{Host}
use Rattle.kr_core.specs.kr_tree.declared.place.Host.TheVariants.{Node}
use Rattle.kr_core.specs.kr_tree.declared.place.Place.{Place}
use Rattle.kr_core.specs.kr_files.Descriptors.{Named}
use Rattle.kr_core.specs.kr_files.Files.{file_at}
use Rattle.kr_core.specs.kr_files.declared.opened.Opened.{Opened}
use Rattle.kr_core.specs.kr_view.View.{Row}
use Rattle.kr_core.specs.kr_model.Applied.{Mounts, all_applied, images}
use Rattle.kr_core.specs.kr_model.Change.{Change, ChangeDirectory, OpenFile}
use Rattle.kr_core.specs.kr_model.FileRows.{is_dir}
use Rattle.kr_core.specs.kr_model.Lawful.{IsLawful}
use Rattle.kr_core.specs.kr_model.State.{Image, State, named, opened, process}
use Rattle.kr_core.specs.kr_stops.Stopped.{computed}
use Rattle.kr_core.specs.kr_turns.Breaking.{nothing_reached}
use Rattle.kr_core.specs.kr_turns.PlainCall.{plain_call, plain_reach}
use Rattle.kr_core.specs.kr_turns.Turn.{killed}

-- ---- what others leave

-- whether it is a directory, and its place
abbrev pub open_of : {M : Type 0} → Opened M → Bool × Option (Place M)
open_of o = (is_dir o.what, o.place)

-- each descriptor names an open file, and no open file has a number that wasn't given yet
pub record NamesOpen {M X : Type 0} (s : State M X) : Type 0 where
  pub there : (pid fd : ℕ) (x : Named) → named pid fd s ≡ Some x → IsSome (file_at s.files x.number)
  pub given : (n : ℕ) (o : Opened M) → file_at s.files n ≡ Some o → n ≤ s.files.last_file

-- who lives has open what it had open, as far as paths begin there, whatever another one does, where this holds before and behind it. It holds of
-- every lawful state
pub record OthersStayOpen : Type 0 where
  pub changes : (mounts : Mounts ℕ) (pid q fd : ℕ) (cs : List Change) (s : State ℕ Image) → q ≢ pid → IsSome (process q s) → NamesOpen s → NamesOpen (all_applied images mounts pid cs s)
      → option_map open_of (opened q fd (all_applied images mounts pid cs s)) ≡ option_map open_of (opened q fd s)
  pub call : (table : List Row) (pid q fd : ℕ) (s : State ℕ Image) → q ≢ pid → IsSome (process q s) → NamesOpen s → NamesOpen (plain_call table pid s).state
      → option_map open_of (opened q fd (plain_call table pid s).state) ≡ option_map open_of (opened q fd s)
  pub killed : (pid q fd signal : ℕ) (s : State ℕ Image) → q ≢ pid → IsSome (process q s) → NamesOpen s → NamesOpen (killed pid signal s)
      → option_map open_of (opened q fd (killed pid signal s)) ≡ option_map open_of (opened q fd s)
  -- registers and memories are nothing to it, whosever they are
  pub computed : (pid q fd : ℕ) (regs : Regs) (memory : Memory) (s : State ℕ Image) → opened q fd (computed pid regs memory s) ≡ opened q fd s
  pub lawful : (number : ℕ → ℕ) (table : List Row) (s : State ℕ Image) → IsLawful number table s → NamesOpen s

-- ---- places

abbrev pub IsNode : Host → Type 0
IsNode host = (i : ℕ) × (host ≡ Node i)

-- processes stand at inodes, and all that is open at a place is one: nothing of the process directory below its root is in use
pub record StandOnNodes {M X : Type 0} (s : State M X) : Type 0 where
  pub working : AllByRecursion (λ p. IsNode p.cwd.host) s.living
  pub open_files : (n : ℕ) (o : Opened M) → file_at s.files n ≡ Some o → IfSome o.place (λ p. IsNode p.host)

-- what a change brings into use is an inode
abbrev pub BringsNodes : Change → Type 0
BringsNodes (OpenFile fd cloexec from o) = IfSome o.place (λ p. IsNode p.host)
BringsNodes (ChangeDirectory from host) = IsNode host
BringsNodes _ = Unit {0}

pub record NodesStay : Type 0 where
  pub changes : (mounts : Mounts ℕ) (pid : ℕ) (cs : List Change) (s : State ℕ Image) → AllByRecursion BringsNodes cs → StandOnNodes s → StandOnNodes (all_applied images mounts pid cs s)
  -- behind a call whose walks look up no name in the process directory
  pub call : (table : List Row) (pid : ℕ) (s : State ℕ Image) → (plain_reach table pid s nothing_reached).met_proc ≡ false → StandOnNodes s → StandOnNodes (plain_call table pid s).state
  pub killed : (pid signal : ℕ) (s : State ℕ Image) → StandOnNodes s → StandOnNodes (killed pid signal s)
  pub computed : (pid : ℕ) (regs : Regs) (memory : Memory) (s : State ℕ Image) → StandOnNodes s → StandOnNodes (computed pid regs memory s)
