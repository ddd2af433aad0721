-- The inode to which the first path of a call led, or that of what stands in a path's place, in the state before the call is carried out.
use Rattle.std.specs.Prelude.{ℕ, ℤ, Option, Some, None, Result, Ok, Err, if◌then◌else◌}
use Rattle.std.specs.Option.{option_and_then, option_map_or}
use Rattle.kr_hostview.specs.pr_base.declared.errno.Errno.{Errno}
use Rattle.kr_execve.specs.kr_calls.CallTable.{LooksAt, Told, ToldNothing}
use Rattle.kr_execve.specs.kr_calls.declared.request.Request.{Request}
use Rattle.kr_execve.specs.kr_calls.declared.request.Request.TheVariants as call
use Rattle.kr_execve.specs.kr_tree.declared.place.Host.{Host}
use Rattle.kr_execve.specs.kr_tree.declared.place.Host.TheVariants as host
use Rattle.kr_execve.specs.kr_view.Walk.{PlaceTarget}
use Rattle.kr_hostview.specs.kr_files.declared.opened.Opened.{Opened}
use Rattle.kr_steps.specs.kr_model.Asking.{descriptor_number, is_processes_host, is_working_directory}
use Rattle.kr_steps.specs.kr_model.Known.{Known}
use Rattle.kr_steps.specs.kr_model.Seen.{LooksUp, NoPath, Seen}
use Rattle.kr_steps.specs.kr_model.Walks.{Targets}
use Rattle.kr_turns.specs.declared.target.Instead.{Instead}
use Rattle.kr_turns.specs.declared.target.Instead.TheVariants as instead

-- ---- of an object

-- none of the process directory, nor of what is in it
abbrev pub inode_at : Known → Host → Option ℕ
inode_at k (host.Node i) = if is_processes_host k (host.Node i) then None else Some i
inode_at k (host.Proc i at) = None

-- of what is open; none of a pipe and of the console
abbrev pub inode_open : Known → Opened (Unit {0}) → Option ℕ
inode_open k o = option_and_then (λ p. inode_at k p.host) o.place

abbrev pub inode_under : Known → ℤ → Option ℕ
inode_under k fd = option_and_then (λ n. option_and_then (inode_open k) (k.opened n)) (descriptor_number fd)

-- the descriptor, or the working directory
abbrev pub inode_here : Known → ℤ → Option ℕ
inode_here k dirfd = if is_working_directory dirfd then inode_at k k.caller.cwd else inode_under k dirfd

-- ---- of a call

-- what stands in a path's place
abbrev pub instead_of : Request → Instead
instead_of (call.Fchmod fd permissions) = instead.Descriptor fd
instead_of (call.Fchown fd uid gid) = instead.Descriptor fd
instead_of (call.Fchownat dirfd path uid gid flags) = instead.DescriptorOrHere dirfd
instead_of (call.Fstat fd buf) = instead.Descriptor fd
instead_of (call.Newfstatat dirfd path buf flags) = instead.DescriptorOrHere dirfd
instead_of (call.Fchdir fd) = instead.Descriptor fd
instead_of _ = instead.Nothing

abbrev pub inode_instead : Known → Instead → Option ℕ
inode_instead k instead.Nothing = None
inode_instead k (instead.Descriptor fd) = inode_under k fd
inode_instead k (instead.DescriptorOrHere dirfd) = inode_here k dirfd

abbrev pub inode_found : Known → PlaceTarget → Option ℕ
inode_found k target = option_and_then (λ p. inode_at k p.host) target.found

-- nothing of a call whose walk failed
abbrev pub target_of : Request → Known → Result Targets Errno → Option ℕ
target_of r k (Ok targets) = option_map_or (inode_found k) targets.first (inode_instead k (instead_of r))
target_of r k (Err e) = None

-- ---- of a call that looks up one path, or has none, in the words of what it is told and knows

abbrev pub LooksUpOne : Told → Type 0
LooksUpOne (LooksAt how u) = Unit {0}
LooksUpOne _ = ⊥

abbrev pub IsLookedAt : Told → Type 0
IsLookedAt ToldNothing = Unit {0}
IsLookedAt (LooksAt how u) = Unit {0}
IsLookedAt _ = ⊥

abbrev pub target_by : Instead → Seen → Known → Option ℕ
target_by i NoPath k = inode_instead k i
target_by i (LooksUp l) k = inode_at k l.host
target_by i _ k = None
