-- Each change of a call keeps a lawful state, of every machine.
use Rattle.std.specs.Prelude.{ℕ, Bool, List, [], ◌∷◌, IsSome}
use Rattle.kr_model.specs.kr_tree.Tree.{Body}
use Rattle.kr_model.specs.kr_tree.declared.place.Host.{Host}
use Rattle.kr_model.specs.kr_view.View.{Row}
use Rattle.kr_model.specs.kr_files.declared.opened.Opened.{Opened}
use Rattle.kr_model.specs.Applied.{Mounts, applied, all_applied, images}
use Rattle.kr_model.specs.Change.{Change, AddNode, LinkNode, RemoveName, MoveName, SetMode, SetOwner, SetSize, WriteFile, OpenFile, CopyDescriptor, CloseDescriptor, SetCloexec, Seek, SetAppend, MakePipe, TakeFromPipe, PutIntoPipe, TakeInput, WriteOut, WriteErr, ChangePages, SetBreak, SetUmask, ChangeDirectory, Fork, End, Reap, ReplaceImage, ReplaceExecutable, CloseOnExec, MountOf, PageChange, Birth}
use Rattle.kr_model.specs.Conditions.{CanBeMade, KeepsLawful}
use Rattle.kr_model.specs.Lawful.{IsLawful}
use Rattle.kr_model.specs.State.{Image, State, process}

-- each change of a caller's call, over a view's mounts
pub record EachKeepsLawful {M : Type 0} (number : M → ℕ) (table : List Row) (mounts : Mounts M) (pid : ℕ) : Type 0 where
  -- names and nodes
  pub add_node : (dir : ℕ) (name : List ℕ) (mode uid gid : ℕ) (body : Body) → KeepsLawful number table mounts pid (AddNode dir name mode uid gid body)
  pub link_node : (dir : ℕ) (name : List ℕ) (i : ℕ) → KeepsLawful number table mounts pid (LinkNode dir name i)
  pub remove_name : (dir : ℕ) (name : List ℕ) → KeepsLawful number table mounts pid (RemoveName dir name)
  pub move_name : (dir : ℕ) (name : List ℕ) (to : ℕ) (new : List ℕ) → KeepsLawful number table mounts pid (MoveName dir name to new)
  pub set_mode : (i mode : ℕ) → KeepsLawful number table mounts pid (SetMode i mode)
  pub set_owner : (i uid gid : ℕ) → KeepsLawful number table mounts pid (SetOwner i uid gid)
  pub set_size : (i size : ℕ) → KeepsLawful number table mounts pid (SetSize i size)
  pub write_file : (i at : ℕ) (bytes : List ℕ) → KeepsLawful number table mounts pid (WriteFile i at bytes)
  -- descriptors of the caller
  pub open_file : (fd : ℕ) (cloexec : Bool) (from : MountOf) (o : Opened (Unit {0})) → KeepsLawful number table mounts pid (OpenFile fd cloexec from o)
  pub copy_descriptor : (fd to : ℕ) (cloexec : Bool) → KeepsLawful number table mounts pid (CopyDescriptor fd to cloexec)
  pub close_descriptor : (fd : ℕ) → KeepsLawful number table mounts pid (CloseDescriptor fd)
  pub set_cloexec : (fd : ℕ) (on : Bool) → KeepsLawful number table mounts pid (SetCloexec fd on)
  pub seek : (fd at : ℕ) → KeepsLawful number table mounts pid (Seek fd at)
  pub set_append : (fd : ℕ) (on : Bool) → KeepsLawful number table mounts pid (SetAppend fd on)
  -- pipes and the console
  pub make_pipe : (first second : ℕ) (cloexec : Bool) → KeepsLawful number table mounts pid (MakePipe first second cloexec)
  pub take_from_pipe : (pipe count : ℕ) → KeepsLawful number table mounts pid (TakeFromPipe pipe count)
  pub put_into_pipe : (pipe : ℕ) (bytes : List ℕ) → KeepsLawful number table mounts pid (PutIntoPipe pipe bytes)
  pub take_input : (count : ℕ) → KeepsLawful number table mounts pid (TakeInput count)
  pub write_out : (bytes : List ℕ) → KeepsLawful number table mounts pid (WriteOut bytes)
  pub write_err : (bytes : List ℕ) → KeepsLawful number table mounts pid (WriteErr bytes)
  -- the caller itself, and processes
  pub change_pages : (c : PageChange) → KeepsLawful number table mounts pid (ChangePages c)
  pub set_break : (brk : ℕ) → KeepsLawful number table mounts pid (SetBreak brk)
  pub set_umask : (umask : ℕ) → KeepsLawful number table mounts pid (SetUmask umask)
  pub change_directory : (from : MountOf) (host : Host) → KeepsLawful number table mounts pid (ChangeDirectory from host)
  pub fork : (b : Birth) → KeepsLawful number table mounts pid (Fork b)
  pub end_ : (status : ℕ) → KeepsLawful number table mounts pid (End status)
  pub reap : (child : ℕ) → KeepsLawful number table mounts pid (Reap child)
  pub replace_image : (image : Image) (brk : ℕ) → KeepsLawful number table mounts pid (ReplaceImage image brk)
  pub replace_executable : (from : MountOf) (host : Host) (dir : ℕ) (name : List ℕ) → KeepsLawful number table mounts pid (ReplaceExecutable from host dir name)
  pub close_on_exec : KeepsLawful number table mounts pid CloseOnExec

abbrev pub ChangesKeepLawful : Type 0 → Type 0
ChangesKeepLawful M = (number : M → ℕ) (table : List Row) (mounts : Mounts M) (pid : ℕ) → EachKeepsLawful number table mounts pid

-- so whatever the change is
abbrev pub EveryChangeKeepsLawful : Type 0 → Type 0
EveryChangeKeepsLawful M = (number : M → ℕ) (table : List Row) (mounts : Mounts M) (pid : ℕ) (c : Change) → KeepsLawful number table mounts pid c

-- some changes can be made one behind the other
abbrev pub CanAllBeMade : {M : Type 0} → (M → ℕ) → List Row → Mounts M → ℕ → State M Image → List Change → Type 0
CanAllBeMade number table mounts pid s [] = Unit {0}
CanAllBeMade number table mounts pid s (c ∷ cs) = IsSome (process pid s) × CanBeMade number table mounts pid s c × CanAllBeMade number table mounts pid (applied images mounts pid c s) cs

-- and so do all changes of a call, in their order
abbrev pub AllChangesKeepLawful : Type 0 → Type 0
AllChangesKeepLawful M =
    (number : M → ℕ) (table : List Row) (mounts : Mounts M) (pid : ℕ) (cs : List Change) (s : State M Image) → IsLawful number table s → CanAllBeMade number table mounts pid s cs
    → IsLawful number table (all_applied images mounts pid cs s)
