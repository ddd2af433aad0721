-- What a call is told of its paths and of the view: of each path what its call uses, and no mount. So the call of
-- which a walk failed, or that a tracer cancels, is told an error and nothing else, as any other call whose walk failed.
use Rattle.std.specs.Prelude.{ℕ, Bool, List, Option}
use Rattle.kr_calls.specs.pr_base.declared.errno.Errno.{Errno}
use Rattle.kr_calls.specs.pr_base.declared.path.Last.{Last}
use Rattle.kr_files.specs.kr_tree.declared.place.Host.{Host}

-- a path that is looked up: what was found, and of what is no directory the entry that an opening remembers, which
-- for the source of a mount is the one at which it was settled
pub record Looked : Type 0 where
  pub host : Host
  pub entry : Option (ℕ × List ℕ)

-- an entry that is there or free: its directory and name, whether a slash stands behind it, and what was found
pub record Entered : Type 0 where
  pub dir : Host
  pub name : List ℕ
  pub slash : Bool
  pub found : Option Host

-- an entry to be taken away or moved (unlinkat, renameat2): the path's end where that is no name, or that a mount
-- stands there
pub data Taken : Type 0 where
  TakesNoName : Last → Taken
  TakesCovered : Taken
  Takes : Entered → Taken

-- an entry to be made (mkdirat, symlinkat, the new path of linkat): the path's end where that is no name, or that an
-- entry is there, or the directory and name, and whether a slash stands behind it
pub data Made : Type 0 where
  MakesNoName : Last → Made
  MakesOver : Made
  Makes : (dir : Host) → List ℕ → (slash : Bool) → Made

-- a file to be opened. What is there is told to each openat; the others are told to those with O_CREAT alone: the
-- path's end where that is no name, that a slash stands behind a name, or the directory and name of a file to be made
pub data Opening : Type 0 where
  OpensNoName : Last → Opening
  OpensSlashed : Opening
  OpensFound : Looked → Opening
  OpensNew : (dir : Host) → List ℕ → Opening

pub data Seen : Type 0 where
  -- a call that has no path, or an empty one in place of a descriptor
  NoPath : Seen
  -- the error of the first walk that fails
  WalkFails : Errno → Seen
  LooksUp : Looked → Seen
  -- readlinkat: what was found, and the text of a link of the process directory, nothing for what has no name
  ReadsLink : Looked → Option (List ℕ) → Seen
  Opens : Opening → Seen
  TakesEntry : Taken → Seen
  MakesEntry : Made → Seen
  -- linkat: what the old path led to, the new entry, and whether both are in one mount
  Links : Looked → Made → (same_mount : Bool) → Seen
  -- renameat2: both entries, and whether both directories are in one mount
  Moves : Taken → Taken → (same_mount : Bool) → Seen
  -- getcwd: the guest name of the working directory, nothing where it has none
  NamesDirectory : Option (List ℕ) → Seen
