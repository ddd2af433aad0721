-- What a kernel tells a tracer of a state, in the name of a caller: what the walks of the host's own view find, where a last link
-- isn't followed, and whether they are steady.
use Rattle.std.specs.Prelude.{◌≡◌, ℕ, Bool, true, false, List, [], take, Option, Some, None, Result, Ok, Err, if◌then◌else◌}
use Rattle.std.specs.Fmt.{decimal}
use Rattle.kr_calls.specs.pr_base.Peeks.{Peeked, NamesAreTexts}
use Rattle.kr_calls.specs.pr_base.WalkFrame.{Fails, Missing, Leads, Links, Jumps}
use Rattle.kr_calls.specs.pr_base.declared.errno.Errno.{Errno}
use Rattle.kr_calls.specs.pr_base.declared.errno.Errno.TheVariants.{EACCES, EINVAL, ENOENT}
use Rattle.kr_calls.specs.pr_base.declared.path.WalkMode.{WalkMode}
use Rattle.kr_calls.specs.pr_base.declared.path.WalkMode.TheVariants.{LookLink}
use Rattle.kr_calls.specs.pr_base.declared.peeks.BaseKind.{BaseKind}
use Rattle.kr_calls.specs.pr_base.declared.peeks.BaseKind.TheVariants as base_kind
use Rattle.kr_calls.specs.pr_base.declared.peeks.PeekKind.{PeekKind}
use Rattle.kr_calls.specs.pr_base.declared.peeks.PeekKind.TheVariants as kind
use Rattle.kr_files.specs.kr_inode.declared.user.User.{User}
use Rattle.kr_files.specs.kr_inode.declared.user.Right.TheVariants.{Search}
use Rattle.kr_files.specs.kr_tree.declared.place.Host.{Host}
use Rattle.kr_files.specs.kr_tree.declared.place.Host.TheVariants.{Node, Proc}
use Rattle.kr_files.specs.kr_tree.declared.place.Place.{Place}
use Rattle.kr_files.specs.kr_tree.declared.place.ProcAt.TheVariants.{SelfLink, Dir, Cwd, Root, Exe, FdDir, Fd}
use Rattle.kr_files.specs.kr_tree.Lawful.{IsSound}
use Rattle.kr_files.specs.kr_tree.Rights.{may}
use Rattle.kr_files.specs.kr_tree.Tree.{Body, Directory, RegularFile, SymbolicLink, ProcessDirectory, Tree, body}
use Rattle.kr_procfs.specs.kr_view.Component.{SeenPlace, Surroundings, seen_at}
use Rattle.kr_procfs.specs.kr_view.Living.{Each, HasSmallNumbers}
use Rattle.kr_procfs.specs.kr_view.Reach.{is_steady}
use Rattle.kr_procfs.specs.kr_view.View.{plain, root_place}
use Rattle.kr_procfs.specs.kr_view.Walk.{PlaceTarget, PlaceTrail, place_walk}
use Rattle.kr_files.specs.declared.opened.Opened.{Opened}
use Rattle.kr_model.specs.FileRows.{is_dir}
use Rattle.kr_model.specs.HostView.{base_name, base_text, cwd_name, exe_name, host_around_of, host_space}
use Rattle.kr_model.specs.Lawful.{IsNameOrNone}
use Rattle.kr_model.specs.ProcessDirectory.{living_of, name_text}
use Rattle.kr_model.specs.State.{Process, State, opened, process}

-- ---- the kind of an object

-- `self` of the process directory is a link with a text
abbrev pub kind_seen : SeenPlace → Result PeekKind Errno
kind_seen (Fails e) = Err e
kind_seen Missing = Err ENOENT
kind_seen (Leads true p found) = Ok kind.Dir
kind_seen (Leads false p found) = Ok kind.File
kind_seen (Links found text) = Ok kind.Link
kind_seen (Jumps found lead) = Ok kind.Jump

abbrev pub at_found : {A : Type 0} → Surroundings → A → (SeenPlace → A) → Option (Place ℕ) → A
at_found host none read (Some p) = read (seen_at host p p.host)
at_found host none read None = none

abbrev pub kind_of_answer : Surroundings → Result PlaceTarget Errno → Result PeekKind Errno
kind_of_answer host (Ok target) = at_found host (Err ENOENT) kind_seen target.found
kind_of_answer host (Err e) = Err e

abbrev pub kind_along : Surroundings → List ℕ → Result PeekKind Errno
kind_along host path = kind_of_answer host (place_walk host LookLink (root_place host.space.table) path).answer

-- ---- what is read of an object

abbrev pub body_text : Option Body → Result (List ℕ) Errno
body_text (Some (SymbolicLink text)) = Ok text
body_text (Some (Directory entries standing)) = Err EINVAL
body_text (Some (RegularFile bytes)) = Err EINVAL
body_text (Some (ProcessDirectory standing)) = Err EINVAL
body_text None = Err EINVAL

-- the first bytes of a file that may be executed
abbrev pub body_head : Bool → ℕ → Option Body → Result (List ℕ) Errno
body_head may_execute n (Some (RegularFile bytes)) = if may_execute then Ok (take n bytes) else Err EACCES
body_head may_execute n (Some (Directory entries standing)) = Err EACCES
body_head may_execute n (Some (SymbolicLink text)) = Err EACCES
body_head may_execute n (Some (ProcessDirectory standing)) = Err EACCES
body_head may_execute n None = Err EACCES

abbrev pub head_at : Tree → User → ℕ → Host → Result (List ℕ) Errno
head_at t user n (Node i) = body_head (may t user i Search) n (body t i)
head_at t user n (Proc i at) = Err EACCES

-- the host name of what a link leads to
abbrev pub name_or_none : Option (List ℕ) → Result (List ℕ) Errno
name_or_none (Some name) = Ok name
name_or_none None = Err ENOENT

-- of what a walk found
abbrev pub read_at : (Host → Result (List ℕ) Errno) → Option (Place ℕ) → Result (List ℕ) Errno
read_at read (Some p) = read p.host
read_at read None = Err ENOENT

abbrev pub read_of : (Host → Result (List ℕ) Errno) → Result PlaceTarget Errno → Result (List ℕ) Errno
read_of read (Ok target) = read_at read target.found
read_of read (Err e) = Err e

-- ---- whether a walk is steady

abbrev pub steady_along : Surroundings → WalkMode → List ℕ → Bool
steady_along host mode path = is_steady host mode (place_walk host mode (root_place host.space.table) path)

-- ---- of a state

-- what a descriptor is
abbrev pub kind_of_base : {M : Type 0} → Option (Opened M) → BaseKind
kind_of_base (Some o) = if is_dir o.what then base_kind.Dir else base_kind.Other
kind_of_base None = base_kind.Closed

module _ {M X : Type 0} (s : State M X) where
  abbrev pub link_text_at : ℕ → Host → Result (List ℕ) Errno
  link_text_at caller (Node i) = body_text (body s.tree i)
  link_text_at caller (Proc i SelfLink) = Ok (decimal caller)
  link_text_at caller (Proc i (Dir pid)) = Err EINVAL
  link_text_at caller (Proc i (Cwd pid)) = name_or_none (cwd_name s pid)
  link_text_at caller (Proc i (Root pid)) = name_or_none (name_text (host_space s) (root_place plain) 0 [])
  link_text_at caller (Proc i (Exe pid)) = name_or_none (exe_name s pid)
  link_text_at caller (Proc i (FdDir pid)) = Err EINVAL
  link_text_at caller (Proc i (Fd pid fd)) = name_or_none (base_text s pid fd)

  -- the plain kernel's walk along a host path in a caller's name
  abbrev pub host_walk : ℕ → WalkMode → List ℕ → PlaceTrail
  host_walk caller mode path = place_walk (host_around_of s caller) mode (root_place plain) path

  -- where it ends, if a last link isn't followed
  abbrev pub answer_along : ℕ → List ℕ → Result PlaceTarget Errno
  answer_along caller path = (host_walk caller LookLink path).answer

  -- a host path is steady in a mode where that walk looks up no name in the process directory
  abbrev pub is_steady_in : ℕ → WalkMode → List ℕ → Bool
  is_steady_in caller mode path = steady_along (host_around_of s caller) mode path

  -- as a tracer looks at it
  abbrev pub is_steady_path : ℕ → List ℕ → Bool
  is_steady_path caller path = is_steady_in caller LookLink path

  abbrev pub peeked_of : ℕ → Peeked
  peeked_of caller = record {
    kind = λ path. kind_along (host_around_of s caller) path;
    link_text = λ path. read_of (link_text_at caller) (answer_along caller path);
    head = λ path n. read_of (head_at s.tree s.user n) (answer_along caller path);
    steady = λ path. is_steady_path caller path;
    base_kind = λ pid fd. kind_of_base (opened pid fd s);
    base_name = base_name s;
    cwd_name = cwd_name s;
    exe_name = exe_name s;
  }

-- ---- names that are told

-- what is remembered of an executable and of what is open has a well-formed name, as in every lawful state
pub record RemembersNames {M X : Type 0} (s : State M X) : Type 0 where
  pub exe : (pid : ℕ) (p : Process M X) → process pid s ≡ Some p → IsNameOrNone p.exe_name
  pub open_files : (pid fd : ℕ) (o : Opened M) → opened pid fd s ≡ Some o → IsNameOrNone o.name

-- then a tracer is told no name that isn't the bytes of a text
abbrev pub ToldNamesAreTexts : Type 0 → Type 0 → Type 0
ToldNamesAreTexts M X = (s : State M X) (caller : ℕ) → IsSound s.tree → Each HasSmallNumbers (living_of s) → RemembersNames s → NamesAreTexts (peeked_of s caller)
