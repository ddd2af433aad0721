-- When a change can be made: what a call's row tested before it, and what every lawful state gives. Made then, it leaves
-- a lawful state, which law_lawful proves of each.
use Rattle.std.specs.FinMap as map
use Rattle.std.specs.Prelude.{◌≡◌, ◌≢◌, ℕ, ◌+◌, ◌≤◌, ◌<◌, ◌^◌, Bool, true, false, List, [], length, Some, None, IsSome}
use Rattle.std.specs.Option.{IfSome}
use Rattle.kr_calls.specs.rv_mem.Pages.{IsWhole, IsPlaced}
use Rattle.kr_files.specs.kr_tree.Tree.{Tree, Body, Directory, RegularFile, SymbolicLink, inode, entry, body_is, takes_names, is_file, is_filled, may_be_linked, bytes_of}
use Rattle.kr_files.specs.kr_tree.Changes.{file_limit, has_no_room, has_no_name_left, has_no_room_for}
use Rattle.kr_files.specs.kr_tree.Lawful.{AreBytes, IsOfBytes, IsLawfulMove}
use Rattle.kr_files.specs.kr_tree.Names.{is_name}
use Rattle.kr_files.specs.kr_tree.declared.place.Host.{Host}
use Rattle.kr_procfs.specs.kr_view.View.{Row, covered, is_there}
use Rattle.kr_procfs.specs.kr_view.Component.{is_processes, is_directory_at}
use Rattle.kr_procfs.specs.kr_view.InTree.{IsPlaceOf}
use Rattle.kr_procfs.specs.kr_view.Leads.{numbered}
use Rattle.kr_files.specs.declared.opened.Opened.{Opened}
use Rattle.kr_model.specs.Applied.{Mounts, applied, images, in_mount, mount_of, pages_after}
use Rattle.kr_model.specs.Change.{Change, AddNode, LinkNode, RemoveName, MoveName, SetMode, SetOwner, SetSize, WriteFile, OpenFile, CopyDescriptor, CloseDescriptor, SetCloexec, Seek, SetAppend, MakePipe, TakeFromPipe, PutIntoPipe, TakeInput, WriteOut, WriteErr, ChangePages, SetBreak, SetUmask, ChangeDirectory, Fork, End, Reap, ReplaceImage, ReplaceExecutable, CloseOnExec, MountOf, Birth, PageChange}
use Rattle.kr_model.specs.DescriptorRows.{most_pipes}
use Rattle.kr_model.specs.Lawful.{IsLawful, IsOpenIn, IsNameOrNone, is_file_at}
use Rattle.kr_model.specs.MemoryRows.{pages_end, process_pages, all_pages}
use Rattle.kr_model.specs.ProcessRows.{most_processes}
use Rattle.kr_model.specs.Known.{pages_in_all}
use Rattle.kr_model.specs.State.{Image, image_layout, Process, State, process, named}

-- ---- names and nodes

-- a free well-formed name of a directory that wasn't removed
pub record IsFreeName (t : Tree) (dir : ℕ) (name : List ℕ) : Type 0 where
  pub takes : body_is takes_names t dir ≡ true
  pub well_formed : is_name name ≡ true
  pub bytes : AreBytes name
  pub free : entry t dir name ≡ None

-- what a call makes: a file without bytes, a directory without entries, or a link
abbrev pub is_new : Body → Bool
is_new (Directory [] None) = true
is_new (RegularFile []) = true
is_new (SymbolicLink text) = true
is_new _ = false

pub record CanAdd (t : Tree) (dir : ℕ) (name : List ℕ) (mode : ℕ) (body : Body) : Type 0 where
  pub named : IsFreeName t dir name
  pub small : mode < 4096
  pub new : is_new body ≡ true
  pub bytes : IsOfBytes body
  pub room : has_no_room (length (bytes_of body)) t ≡ false

pub record CanLink (t : Tree) (dir : ℕ) (name : List ℕ) (i : ℕ) : Type 0 where
  pub named : IsFreeName t dir name
  pub linked : body_is may_be_linked t i ≡ true
  pub room : has_no_name_left t ≡ false

-- an entry that isn't a mount point, nor the process directory, nor a directory with entries
pub record CanRemove (table : List Row) (t : Tree) (dir : ℕ) (name : List ℕ) : Type 0 where
  pub uncovered : covered table dir name ≡ false
  pub own : ℕ
  pub there : entry t dir name ≡ Some own
  pub empty : body_is is_filled t own ≡ false
  pub no_processes : body_is is_processes t own ≡ false

pub record CanMove (table : List Row) (t : Tree) (dir : ℕ) (name : List ℕ) (to : ℕ) (new : List ℕ) : Type 0 where
  pub move : IsLawfulMove t dir name to new
  pub bytes : AreBytes new
  pub uncovered : covered table dir name ≡ false
  pub free : covered table to new ≡ false
  pub no_processes : (i : ℕ) → entry t to new ≡ Some i → body_is is_processes t i ≡ false

pub record CanResize (t : Tree) (i size : ℕ) : Type 0 where
  pub file : body_is is_file t i ≡ true
  pub small : size ≤ file_limit
  pub room : has_no_room_for i size t ≡ false

pub record CanWrite (t : Tree) (i at : ℕ) (bytes : List ℕ) : Type 0 where
  pub sized : CanResize t i (at + length bytes)
  pub are_bytes : AreBytes bytes

-- ---- descriptors

-- a number of a descriptor that isn't open
pub record IsFreeDescriptor {M X : Type 0} (pid fd : ℕ) (s : State M X) : Type 0 where
  pub small : fd < 1024
  pub free : named pid fd s ≡ None

abbrev pub IsOpen : {M X : Type 0} → ℕ → ℕ → State M X → Type 0
IsOpen pid fd s = IsSome (named pid fd s)

-- a mount of the view, and a place of it in the tree
pub record CanStand {M X : Type 0} (number : M → ℕ) (table : List Row) (mounts : Mounts M) (pid : ℕ) (from : MountOf) (s : State M X) (host : Host) : Type 0 where
  pub mount : M
  pub taken : mount_of mounts pid s from ≡ Some mount
  pub stands : IsPlaceOf s.tree table (numbered number (record { mount = mount; host = host }))

pub record CanOpen {M X : Type 0} (number : M → ℕ) (table : List Row) (mounts : Mounts M) (pid fd : ℕ) (from : MountOf) (o : Opened (Unit {0})) (s : State M X) : Type 0 where
  pub free : IsFreeDescriptor pid fd s
  pub mount : M
  pub taken : mount_of mounts pid s from ≡ Some mount
  -- a file or a directory: an end of a pipe is opened with its pipe alone
  pub placed : is_there o.place ≡ true
  pub opens : IsOpenIn number s.tree table (in_mount mount o)

pub record CanCopy {M X : Type 0} (pid fd to : ℕ) (s : State M X) : Type 0 where
  pub old : IsOpen pid fd s
  pub small : to < 1024
  pub apart : to ≢ fd

pub record CanPipe {M X : Type 0} (pid first second : ℕ) (s : State M X) : Type 0 where
  pub reader : IsFreeDescriptor pid first s
  pub writer : IsFreeDescriptor pid second s
  pub apart : first ≢ second
  pub few : map.len s.files.pipes < most_pipes

-- ---- memory and processes

-- the caller's pages after a change are placed, and pass no limit
pub record CanPage {M : Type 0} (pid : ℕ) (c : PageChange) (s : State M Image) (p : Process M Image) : Type 0 where
  pub placed : IsPlaced (pages_after c p.image.memory.pages)
  pub few : map.len (pages_after c p.image.memory.pages) ≤ process_pages
  pub room : pages_in_all image_layout s.living + map.len (pages_after c p.image.memory.pages) ≤ all_pages + map.len p.image.memory.pages

pub record CanFork {M : Type 0} (b : Birth) (s : State M Image) (p : Process M Image) : Type 0 where
  pub next : b.pid ≡ s.next_pid
  pub few : length s.living + length s.ended < most_processes
  pub room : pages_in_all image_layout s.living + map.len p.image.memory.pages ≤ all_pages

pub record CanLoad {M : Type 0} (image : Image) (brk : ℕ) (s : State M Image) (p : Process M Image) : Type 0 where
  pub whole : IsWhole image.memory.pages
  pub placed : IsPlaced image.memory.pages
  pub few : map.len image.memory.pages ≤ process_pages
  pub room : pages_in_all image_layout s.living + map.len image.memory.pages ≤ all_pages + map.len p.image.memory.pages
  pub break : brk ≤ pages_end

-- of the caller, which lives
abbrev pub OfCaller : {M : Type 0} → ℕ → State M Image → (Process M Image → Type 0) → Type 0
OfCaller pid s holds = IfSome (process pid s) holds

-- ---- each change

abbrev pub CanBeMade : {M : Type 0} → (M → ℕ) → List Row → Mounts M → ℕ → State M Image → Change → Type 0
CanBeMade number table mounts pid s (AddNode dir name mode uid gid body) = CanAdd s.tree dir name mode body
CanBeMade number table mounts pid s (LinkNode dir name i) = CanLink s.tree dir name i
CanBeMade number table mounts pid s (RemoveName dir name) = CanRemove table s.tree dir name
CanBeMade number table mounts pid s (MoveName dir name to new) = CanMove table s.tree dir name to new
CanBeMade number table mounts pid s (SetMode i mode) = IsSome (inode s.tree i) × (mode < 4096)
CanBeMade number table mounts pid s (SetOwner i uid gid) = IsSome (inode s.tree i) × (uid < 2 ^ 32) × (gid < 2 ^ 32)
CanBeMade number table mounts pid s (SetSize i size) = CanResize s.tree i size
CanBeMade number table mounts pid s (WriteFile i at bytes) = CanWrite s.tree i at bytes
CanBeMade number table mounts pid s (OpenFile fd cloexec from o) = CanOpen number table mounts pid fd from o s
CanBeMade number table mounts pid s (CopyDescriptor fd to cloexec) = CanCopy pid fd to s
CanBeMade number table mounts pid s (CloseDescriptor fd) = IsOpen pid fd s
CanBeMade number table mounts pid s (SetCloexec fd on) = IsOpen pid fd s
CanBeMade number table mounts pid s (Seek fd at) = IsOpen pid fd s × (at < 2 ^ 63)
CanBeMade number table mounts pid s (SetAppend fd on) = IsOpen pid fd s
CanBeMade number table mounts pid s (MakePipe first second cloexec) = CanPipe pid first second s
CanBeMade number table mounts pid s (TakeFromPipe pipe count) = IsSome (map.get s.files.pipes pipe)
CanBeMade number table mounts pid s (PutIntoPipe pipe bytes) = IsSome (map.get s.files.pipes pipe)
CanBeMade number table mounts pid s (TakeInput count) = s.taken + count ≤ length s.input
CanBeMade number table mounts pid s (WriteOut bytes) = AreBytes bytes
CanBeMade number table mounts pid s (WriteErr bytes) = AreBytes bytes
CanBeMade number table mounts pid s (ChangePages c) = OfCaller pid s (CanPage pid c s)
CanBeMade number table mounts pid s (SetBreak brk) = OfCaller pid s (λ p. (p.brk_start ≤ brk) × (brk ≤ pages_end))
CanBeMade number table mounts pid s (SetUmask umask) = umask < 512
CanBeMade number table mounts pid s (ChangeDirectory from host) = CanStand number table mounts pid from s host × (is_directory_at s.tree host ≡ true)
CanBeMade number table mounts pid s (Fork b) = OfCaller pid s (CanFork b s)
CanBeMade number table mounts pid s (End status) = IsSome (process pid s)
CanBeMade number table mounts pid s (Reap child) = Unit {0}
CanBeMade number table mounts pid s (ReplaceImage image brk) = OfCaller pid s (CanLoad image brk s)
CanBeMade number table mounts pid s (ReplaceExecutable from host dir name) = CanStand number table mounts pid from s host × (is_file_at s.tree host ≡ true) × IsNameOrNone name
CanBeMade number table mounts pid s CloseOnExec = Unit {0}

-- a change of a living caller that can be made keeps a lawful state: the tree is kept, the mounts stand in it, and their
-- sources are held
abbrev pub KeepsLawful : {M : Type 0} → (M → ℕ) → List Row → Mounts M → ℕ → Change → Type 0
KeepsLawful {M} number table mounts pid c =
    (s : State M Image) → IsLawful number table s → IsSome (process pid s) → CanBeMade number table mounts pid s c → IsLawful number table (applied images mounts pid c s)
