-- The contract of the call that takes any request: which requests go which way, what is asked of numbers that are counted on, and
-- what is left of the state.
use Rattle.std.specs.Prelude.{◌+◌, ◌<◌, ◌^◌, ℕ, List, Option}
use Rattle.std.specs.Option.{option_map, option_and_then}
use Rattle.law_allowed.specs.kr_calls.declared.request.Request.{Request}
use Rattle.law_allowed.specs.kr_calls.declared.request.Request.TheVariants as call
use Rattle.law_allowed.specs.kr_tree.Changes.{next_serial}
use Rattle.law_allowed.specs.kr_view.View.{Row}
use Rattle.law_allowed.specs.kr_view.declared.target.Target.{Target}
use Rattle.law_allowed.specs.kr_model.Applied.{Mounts}
pub use Rattle.law_allowed.specs.kr_model.Operation.{IsNoExec}
use Rattle.law_allowed.specs.kr_model.Operation.{operation}
use Rattle.law_allowed.specs.kr_model.Seen.{Seen}
use Rattle.law_allowed.specs.kr_model.Walks.{Targets, told}
use Rattle.law_allowed.specs.kr_model.declared.outcome.Outcome.{Outcome}
use Rattle.kr_rows.specs.kr_ops.declared.state.State.{State}
use Rattle.kr_rows.specs.kr_ops.Meaning.{meaning}
use Rattle.kr_transfer.specs.kr_seen.Numbered.{state_numbered}
use Rattle.kr_transfer.specs.kr_seen.Carrying.{CarriesOut}
use Rattle.kr_transfer.specs.kr_seen.Placed.{placed_in}
use Rattle.kr_transfer.specs.kr_seen.PerformedRows.{Performs}

-- ---- kinds of requests

-- on the caller, its pages and its user: all that name neither a path nor a descriptor
abbrev pub IsOfProcess : Request → Type 0
IsOfProcess (call.Brk a) = Unit {0}
IsOfProcess (call.Munmap a len) = Unit {0}
IsOfProcess (call.Mmap a len prot flags) = Unit {0}
IsOfProcess (call.Mprotect a len prot) = Unit {0}
IsOfProcess (call.Exit code) = Unit {0}
IsOfProcess (call.ExitGroup code) = Unit {0}
IsOfProcess call.SetTidAddress = Unit {0}
IsOfProcess call.RtSigaction = Unit {0}
IsOfProcess call.RtSigprocmask = Unit {0}
IsOfProcess (call.Uname buf) = Unit {0}
IsOfProcess (call.Umask m) = Unit {0}
IsOfProcess call.Getpid = Unit {0}
IsOfProcess call.Getppid = Unit {0}
IsOfProcess call.Gettid = Unit {0}
IsOfProcess (call.Clone flags sp ctid) = Unit {0}
IsOfProcess (call.Wait4 child status options usage) = Unit {0}
IsOfProcess (call.Setregid rgid egid) = Unit {0}
IsOfProcess (call.Setgid gid) = Unit {0}
IsOfProcess (call.Setreuid ruid euid) = Unit {0}
IsOfProcess (call.Setuid uid) = Unit {0}
IsOfProcess (call.Setresuid ruid euid suid) = Unit {0}
IsOfProcess (call.Getresuid ruid euid suid) = Unit {0}
IsOfProcess (call.Setresgid rgid egid sgid) = Unit {0}
IsOfProcess (call.Getresgid rgid egid sgid) = Unit {0}
IsOfProcess (call.Getgroups size list) = Unit {0}
IsOfProcess (call.Setgroups size list) = Unit {0}
IsOfProcess call.Getuid = Unit {0}
IsOfProcess call.Geteuid = Unit {0}
IsOfProcess call.Getgid = Unit {0}
IsOfProcess call.Getegid = Unit {0}
IsOfProcess _ = ⊥

-- without a path, and without a name that is told
abbrev pub IsAlone : Request → Type 0
IsAlone (call.Dup fd) = Unit {0}
IsAlone (call.Dup3 old new flags) = Unit {0}
IsAlone (call.Fcntl fd cmd arg) = Unit {0}
IsAlone (call.Ioctl fd) = Unit {0}
IsAlone (call.Close fd) = Unit {0}
IsAlone (call.Pipe2 buf flags) = Unit {0}
IsAlone (call.Lseek fd off whence) = Unit {0}
IsAlone (call.Read fd buf n) = Unit {0}
IsAlone (call.Readv fd list count) = Unit {0}
IsAlone (call.Write fd buf n) = Unit {0}
IsAlone (call.Writev fd list count) = Unit {0}
IsAlone (call.Ftruncate fd len) = Unit {0}
IsAlone (call.Getdents64 fd buf n) = Unit {0}
IsAlone (call.Fchdir fd) = Unit {0}
IsAlone (call.Fchmod fd mode) = Unit {0}
IsAlone (call.Fchown fd uid gid) = Unit {0}
IsAlone (call.Fstat fd buf) = Unit {0}
IsAlone request = IsOfProcess request

-- ---- what is asked

module _ {T : Type 0} {M : ℕ} where
  -- numbers that are counted on haven't run out: a call takes at most these many of each
  pub record HasNumbers (s : State T M) : Type 0 where
    pub inodes : s.tree.next + 1 < 2 ^ 32
    pub serials : (dir : ℕ) → next_serial s.tree dir + 1 < 2 ^ 64
    pub files : s.files.table.last_file + 2 < 2 ^ 64
    pub pipes : s.files.table.last_pipe + 1 < 2 ^ 32
    pub pids : s.next_pid + 1 < 2 ^ 32

  -- ---- what is left

  -- a request without a path: what is told of targets makes no difference
  abbrev pub OperatesAlone : ℕ → Request → State T M → State T M → Outcome → Type 0
  OperatesAlone pid request old new result = (seen : Seen) → Performs pid (operation pid request seen) old new result

-- ---- targets

module _ {T : Type 0} where
  -- the targets of a call by the numbers of their mounts
  abbrev pub placed_targets : (T → ℕ) → Option (Target T) → Option (Target T) → Targets
  placed_targets number first second = record { first = option_map (placed_in number) first; second = option_map (placed_in number) second }

  -- the mounts that the changes of a call may name: those of its first path
  abbrev pub mounts_at : Option (Target T) → Mounts T
  mounts_at first = record { found = option_and_then (λ t. option_map (λ p. p.mount) t.found) first; directory = option_map (λ t. t.dir.mount) first }

-- a request was carried out, of what it is told of these targets
abbrev pub OperatesAt : {T : Type 0} {M : ℕ} → (T → ℕ) → List Row → ℕ → Request → Option (Target T) → Option (Target T) → State T M → State T M → Outcome → Type 0
OperatesAt number table pid request first second old new result =
    CarriesOut (mounts_at first) pid (λ k. operation pid request (told table pid (state_numbered number (meaning old)) request (placed_targets number first second)) k) old new result
