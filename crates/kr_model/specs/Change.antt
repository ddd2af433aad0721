-- What a call can change: a small vocabulary, in which every call says what it does. A change names no
-- mount: it says of what the mount is to be taken.
use Rattle.std.specs.Prelude.{ℕ, Bool, List, Option}
use Rattle.kr_calls.specs.rv_mem.declared.rights.Rights.{Rights}
use Rattle.kr_files.specs.kr_tree.declared.place.Host.{Host}
use Rattle.kr_files.specs.kr_tree.Tree.{Body}
use Rattle.kr_files.specs.declared.opened.Opened.{Opened}
use Rattle.kr_model.specs.State.{Image}

-- of what a mount is taken: of what the first path led to, of that path's directory, or of what a
-- descriptor of the caller leads to
pub data MountOf : Type 0 where
  OfFound : MountOf
  OfDirectory : MountOf
  OfDescriptor : ℕ → MountOf

-- pages by the number of the first one and their count
pub data PageChange : Type 0 where
  MapPages : (first count : ℕ) → Rights → PageChange
  UnmapPages : (first count : ℕ) → PageChange
  ProtectPages : (first count : ℕ) → Rights → PageChange

-- a child: its number, its stack pointer where that isn't the parent's (0), and the address at which its
-- number is written in its own memory, if at one
pub record Birth : Type 0 where
  pub pid : ℕ
  pub sp : ℕ
  pub told_at : Option ℕ

pub data Change : Type 0 where
  -- names and nodes
  AddNode : (dir : ℕ) → List ℕ → (mode uid gid : ℕ) → Body → Change
  LinkNode : (dir : ℕ) → List ℕ → (inode : ℕ) → Change
  RemoveName : (dir : ℕ) → List ℕ → Change
  MoveName : (dir : ℕ) → List ℕ → (to : ℕ) → List ℕ → Change
  SetMode : (inode mode : ℕ) → Change
  SetOwner : (inode uid gid : ℕ) → Change
  SetSize : (inode size : ℕ) → Change
  WriteFile : (inode at : ℕ) → List ℕ → Change
  -- descriptors of the caller
  OpenFile : (fd : ℕ) → Bool → MountOf → Opened (Unit {0}) → Change
  CopyDescriptor : (fd to : ℕ) → Bool → Change
  CloseDescriptor : (fd : ℕ) → Change
  SetCloexec : (fd : ℕ) → Bool → Change
  Seek : (fd at : ℕ) → Change
  SetAppend : (fd : ℕ) → Bool → Change
  -- pipes and the console
  MakePipe : (first second : ℕ) → Bool → Change
  TakeFromPipe : (pipe count : ℕ) → Change
  PutIntoPipe : (pipe : ℕ) → List ℕ → Change
  TakeInput : (count : ℕ) → Change
  WriteOut : List ℕ → Change
  WriteErr : List ℕ → Change
  -- the caller itself, and processes
  ChangePages : PageChange → Change
  SetBreak : ℕ → Change
  SetUmask : ℕ → Change
  ChangeDirectory : MountOf → Host → Change
  Fork : Birth → Change
  End : (status : ℕ) → Change
  Reap : (pid : ℕ) → Change
  -- a new program in the caller: its image with its break, the executable with the entry that it remembers, and the
  -- descriptors that a new program doesn't get
  ReplaceImage : Image → (brk : ℕ) → Change
  ReplaceExecutable : MountOf → Host → (dir : ℕ) → List ℕ → Change
  CloseOnExec : Change
