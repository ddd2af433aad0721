-- The table of the calls, one line for each request: the number of its call, what it is told and along which paths, which kinds of changes it
-- can make, whether it writes into its caller's memory, whether it can wait, by which word it can end its caller, and who answers it beneath a
-- tracer.
use Rattle.std.specs.Prelude.{ℕ, ◌*◌, ◌==◌, Bool, true, false, ℤ, pos, unsigned_abs, List, [], ◌∷◌, Option, Some, None}
use Rattle.std.specs.Int.{int_rem_euclid}
use Rattle.std.specs.List.{list_any}
use Rattle.rv_mem.specs.pr_base.declared.path.WalkMode.{WalkMode}
use Rattle.rv_mem.specs.pr_base.declared.path.WalkMode.TheVariants as mode
use Rattle.kr_calls.specs.declared.request.Request.{Request}
use Rattle.kr_calls.specs.declared.request.Request.TheVariants as call
use Rattle.kr_calls.specs.Kinds.{Kind, AddsNode, LinksNode, RemovesName, MovesName, SetsMode, SetsOwner, SetsSize, WritesFile, OpensPath, CopiesDescriptor, ClosesDescriptor, SetsCloexec, Seeks, SetsAppend, MakesPipe, TakesFromPipe, PutsIntoPipe, TakesInput, WritesOut, WritesErr, ChangesPages, SetsBreak, SetsUmask, EntersPath, EntersOpen, Forks, Ends, Reaps}
use Rattle.kr_calls.specs.PathUses.{PathUse, link_mode, look_mode, open_mode, working_directory}

-- ---- what a call is told

-- a text that a call gives, the descriptor from whose directory it is taken, and the register that holds its address
pub record TextAt : Type 0 where
  pub dirfd : ℤ
  pub text : List ℕ
  pub register : ℕ

-- nothing; what is at a path; that and the text of a link; a file to be opened with these flags; an entry that goes, or one that comes; what
-- linkat(2) and renameat2(2) are told of two paths; or the name of the working directory
pub data Told : Type 0 where
  ToldNothing : Told
  LooksAt : WalkMode → TextAt → Told
  ReadsLinkAt : TextAt → Told
  OpensAt : (flags : ℕ) → TextAt → Told
  TakesAt : TextAt → Told
  MakesAt : TextAt → Told
  LinksTwo : WalkMode → (old new : TextAt) → Told
  MovesTwo : (old new : TextAt) → Told
  NamesHere : Told

abbrev pub walked_for : WalkMode → TextAt → PathUse
walked_for mode at = record { dirfd = at.dirfd; text = at.text; mode = mode; register = at.register }

-- what is told says what each walk is for
abbrev pub paths_of : Told → List PathUse
paths_of ToldNothing = []
paths_of (LooksAt how at) = walked_for how at ∷ []
paths_of (ReadsLinkAt at) = walked_for mode.LookLink at ∷ []
paths_of (OpensAt flags at) = walked_for (open_mode flags) at ∷ []
paths_of (TakesAt at) = walked_for mode.Name at ∷ []
paths_of (MakesAt at) = walked_for mode.Name at ∷ []
paths_of (LinksTwo how old new) = walked_for how old ∷ walked_for mode.Name new ∷ []
paths_of (MovesTwo old new) = walked_for mode.Name old ∷ walked_for mode.Name new ∷ []
paths_of NamesHere = []

-- ---- what a call does

-- the kinds of its changes where it is answered, whether it writes into its caller's memory, whether it can wait, and the word by which it can
-- end its caller
pub record Doing : Type 0 where
  pub makes : List Kind
  pub writes_memory : Bool
  pub can_wait : Bool
  pub ends_by : Option ℕ

-- the end of its caller is the only change of a call that ends it
abbrev pub ending_too : Option ℕ → List Kind → List Kind
ending_too None kinds = kinds
ending_too (Some word) kinds = Ends ∷ kinds

abbrev pub makes_at_all : Doing → List Kind
makes_at_all does = ending_too does.ends_by does.makes

abbrev pub making : List Kind → Doing
making kinds = record { makes = kinds; writes_memory = false; can_wait = false; ends_by = None }

-- changes, and bytes for its caller
abbrev pub telling : List Kind → Doing
telling kinds = record { makes = kinds; writes_memory = true; can_wait = false; ends_by = None }

-- SIGPIPE
abbrev pub sigpipe : ℕ
sigpipe = 13

abbrev pub reading : Doing
reading = record { makes = Seeks ∷ TakesFromPipe ∷ TakesInput ∷ []; writes_memory = true; can_wait = true; ends_by = None }

abbrev pub writing : Doing
writing =
    record { makes = WritesFile ∷ Seeks ∷ WritesOut ∷ WritesErr ∷ PutsIntoPipe ∷ []; writes_memory = false; can_wait = true; ends_by = Some sigpipe }

-- a file that is there, cut or not, or a new one
abbrev pub opening : Doing
opening = making (OpensPath ∷ SetsSize ∷ AddsNode ∷ [])

abbrev pub copying : Doing
copying = making (CopiesDescriptor ∷ [])

abbrev pub controlling : Doing
controlling = making (CopiesDescriptor ∷ SetsCloexec ∷ SetsAppend ∷ [])

abbrev pub changing_pages : Doing
changing_pages = making (ChangesPages ∷ [])

-- by its code, as wait4(2) tells it
abbrev pub exiting : ℤ → Doing
exiting code = record { makes = []; writes_memory = false; can_wait = false; ends_by = Some (unsigned_abs (int_rem_euclid code (pos 256)) * 256) }

abbrev pub reaping : Doing
reaping = record { makes = Reaps ∷ []; writes_memory = true; can_wait = true; ends_by = None }

-- ---- who answers a call beneath a tracer

-- the kernel; the kernel, with a text that the tracer puts in place of its own; or the tracer alone
pub data Teller : Type 0 where
  ByKernel : Teller
  WithText : Teller
  ByTracer : Teller

-- ---- lines

pub record Line : Type 0 where
  pub number : ℕ
  pub told : Told
  pub does : Doing
  pub teller : Teller

abbrev pub plain : ℕ → Doing → Line
plain number does = record { number = number; told = ToldNothing; does = does; teller = ByKernel }

-- nothing that shows
abbrev pub quiet : ℕ → Line
quiet number = plain number (making [])

abbrev pub faked : ℕ → Doing → Line
faked number does = record { number = number; told = ToldNothing; does = does; teller = ByTracer }

abbrev pub along : ℕ → Told → Doing → Line
along number told does = record { number = number; told = told; does = does; teller = ByKernel }

-- a text of the kernel's, which a tracer tells in guest terms
abbrev pub texted : ℕ → Told → Line
texted number told = record { number = number; told = told; does = telling []; teller = WithText }

abbrev pub text_in : ℕ → ℤ → List ℕ → TextAt
text_in register dirfd text = record { dirfd = dirfd; text = text; register = register }

-- mostly a1 holds its address
abbrev pub at : ℤ → List ℕ → TextAt
at dirfd text = text_in 11 dirfd text

-- and a0 that of a call without a descriptor
abbrev pub here : List ℕ → TextAt
here text = text_in 10 working_directory text

abbrev pub line : Request → Line
-- descriptors
line (call.Dup fd) = plain 23 copying
line (call.Dup3 old new flags) = plain 24 copying
line (call.Fcntl fd cmd arg) = plain 25 controlling
line (call.Ioctl fd) = quiet 29
line (call.Close fd) = plain 57 (making (ClosesDescriptor ∷ []))
line (call.Pipe2 buf flags) = plain 59 (telling (MakesPipe ∷ []))
line (call.Lseek fd off whence) = plain 62 (making (Seeks ∷ []))
-- files
line (call.Read fd buf n) = plain 63 reading
line (call.Write fd buf n) = plain 64 writing
line (call.Readv fd list count) = plain 65 reading
line (call.Writev fd list count) = plain 66 writing
line (call.Ftruncate fd len) = plain 46 (making (SetsSize ∷ []))
line (call.Openat dirfd path flags permissions) = along 56 (OpensAt flags (at dirfd path)) opening
-- names
line (call.Mkdirat dirfd path permissions) = along 34 (MakesAt (at dirfd path)) (making (AddsNode ∷ []))
line (call.Unlinkat dirfd path flags) = along 35 (TakesAt (at dirfd path)) (making (RemovesName ∷ []))
line (call.Symlinkat text dirfd path) = along 36 (MakesAt (text_in 12 dirfd path)) (making (AddsNode ∷ []))
line (call.Linkat olddir old newdir new flags) = along 37 (LinksTwo (link_mode flags) (at olddir old) (text_in 13 newdir new)) (making (LinksNode ∷ []))
line (call.Renameat2 olddir old newdir new) = along 276 (MovesTwo (at olddir old) (text_in 13 newdir new)) (making (MovesName ∷ []))
-- attributes
line (call.Faccessat dirfd path rights) = along 48 (LooksAt mode.Look (at dirfd path)) (making [])
line (call.Fchmod fd permissions) = plain 52 (making (SetsMode ∷ []))
line (call.Fchmodat dirfd path permissions) = along 53 (LooksAt mode.Look (at dirfd path)) (making (SetsMode ∷ []))
line (call.Fchown fd uid gid) = plain 55 (making (SetsOwner ∷ []))
line (call.Fchownat dirfd path uid gid flags) = along 54 (LooksAt (look_mode flags) (at dirfd path)) (making (SetsOwner ∷ []))
line (call.Fstat fd buf) = plain 80 (telling [])
line (call.Newfstatat dirfd path buf flags) = along 79 (LooksAt (look_mode flags) (at dirfd path)) (telling [])
line (call.Readlinkat dirfd path buf size) = texted 78 (ReadsLinkAt (at dirfd path))
-- directories
line (call.Getdents64 fd buf n) = plain 61 (telling (Seeks ∷ []))
line (call.Chdir path) = along 49 (LooksAt mode.Look (here path)) (making (EntersPath ∷ []))
line (call.Fchdir fd) = plain 50 (making (EntersOpen ∷ []))
line (call.Chroot path) = along 51 (LooksAt mode.Look (here path)) (making [])
line (call.Getcwd buf size) = texted 17 NamesHere
-- memory
line (call.Brk a) = plain 214 (making (ChangesPages ∷ SetsBreak ∷ []))
line (call.Munmap a len) = plain 215 changing_pages
line (call.Mmap a len prot flags) = plain 222 changing_pages
line (call.Mprotect a len prot) = plain 226 changing_pages
-- processes
line (call.Exit code) = plain 93 (exiting code)
line (call.ExitGroup code) = plain 94 (exiting code)
line call.SetTidAddress = quiet 96
line call.RtSigaction = quiet 134
line call.RtSigprocmask = quiet 135
line (call.Uname buf) = plain 160 (telling [])
line (call.Umask m) = plain 166 (making (SetsUmask ∷ []))
line call.Getpid = quiet 172
line call.Getppid = quiet 173
line call.Gettid = quiet 178
line (call.Clone flags sp ctid) = plain 220 (making (Forks ∷ []))
line (call.Wait4 child status options usage) = plain 260 reaping
line (call.Execve path args env) = along 221 (LooksAt mode.Look (here path)) (making [])
-- identity
line (call.Setregid rgid egid) = faked 143 (making [])
line (call.Setgid gid) = faked 144 (making [])
line (call.Setreuid ruid euid) = faked 145 (making [])
line (call.Setuid uid) = faked 146 (making [])
line (call.Setresuid ruid euid suid) = faked 147 (making [])
line (call.Getresuid ruid euid suid) = faked 148 (telling [])
line (call.Setresgid rgid egid sgid) = faked 149 (making [])
line (call.Getresgid rgid egid sgid) = faked 150 (telling [])
line (call.Getgroups size list) = faked 158 (telling [])
line (call.Setgroups size list) = faked 159 (making [])
line call.Getuid = faked 174 (making [])
line call.Geteuid = faked 175 (making [])
line call.Getgid = faked 176 (making [])
line call.Getegid = faked 177 (making [])

-- ---- the same request of other paths

-- another text in place of the first path
abbrev pub with_first : List ℕ → Request → Request
with_first text (call.Mkdirat dirfd path permissions) = call.Mkdirat dirfd text permissions
with_first text (call.Unlinkat dirfd path flags) = call.Unlinkat dirfd text flags
with_first text (call.Symlinkat shown dirfd path) = call.Symlinkat shown dirfd text
with_first text (call.Linkat olddir old newdir new flags) = call.Linkat olddir text newdir new flags
with_first text (call.Renameat2 olddir old newdir new) = call.Renameat2 olddir text newdir new
with_first text (call.Faccessat dirfd path rights) = call.Faccessat dirfd text rights
with_first text (call.Chdir path) = call.Chdir text
with_first text (call.Chroot path) = call.Chroot text
with_first text (call.Execve path args env) = call.Execve text args env
with_first text (call.Fchmodat dirfd path permissions) = call.Fchmodat dirfd text permissions
with_first text (call.Fchownat dirfd path uid gid flags) = call.Fchownat dirfd text uid gid flags
with_first text (call.Openat dirfd path flags permissions) = call.Openat dirfd text flags permissions
with_first text (call.Readlinkat dirfd path buf size) = call.Readlinkat dirfd text buf size
with_first text (call.Newfstatat dirfd path buf flags) = call.Newfstatat dirfd text buf flags
with_first text r = r

-- another text in place of the second one
abbrev pub with_second : List ℕ → Request → Request
with_second text (call.Linkat olddir old newdir new flags) = call.Linkat olddir old newdir text flags
with_second text (call.Renameat2 olddir old newdir new) = call.Renameat2 olddir old newdir text
with_second text r = r

-- ---- which numbers are those of calls with a path

-- mkdirat, unlinkat, symlinkat, linkat; faccessat, chdir, chroot; fchmodat, fchownat, openat; readlinkat, newfstatat; execve,
-- renameat2
abbrev pub path_calls : List ℕ
path_calls = 34 ∷ 35 ∷ 36 ∷ 37 ∷ 48 ∷ 49 ∷ 51 ∷ 53 ∷ 54 ∷ 56 ∷ 78 ∷ 79 ∷ 221 ∷ 276 ∷ []

-- by its number alone, also where the call isn't decoded. A number that is none of a call has no path
abbrev pub has_path : ℕ → Bool
has_path n = list_any (λ m. n == m) path_calls
