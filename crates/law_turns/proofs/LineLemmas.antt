-- What calls leave of places and names: by their lines in the table of the calls.
use Rattle.std.proofs.Common.{◌≡◌, ℕ, Bool, true, false, List, refl}
use Rattle.std.specs.List.{list_all}
use Rattle.pt_results.specs.rv_mem.Actions.{carried_out}
use Rattle.pt_results.specs.rv_mem.Memory.{Memory}
use Rattle.pt_results.specs.kr_calls.Kinds.{Kind, CopiesDescriptor, Ends, EntersOpen, EntersPath, Forks, MovesName, OpensOpen, OpensPath, ReplacesExecutable, ReplacesOpen}
use Rattle.pt_results.specs.kr_calls.declared.request.Request.{Request}
use Rattle.pt_results.specs.kr_calls.declared.request.Request.TheVariants as call
use Rattle.law_places.specs.kr_model.Change.{Change, MountOf, ChangeDirectory, CopyDescriptor, End, Fork, MoveName, OfDescriptor, OpenFile, ReplaceExecutable}
use Rattle.law_places.specs.kr_model.ChangeKinds.{kind}
use Rattle.law_places.specs.kr_model.Known.{Known}
use Rattle.law_places.specs.kr_model.Operation.{operation}
use Rattle.law_places.specs.kr_model.Seen.{Seen}
use Rattle.law_places.proofs.kr_model.LineLemmas.{by_line, line_passes}
use Rattle.law_places.specs.Keeping.{move_nothing, moves_nothing}
use Rattle.law_turns.specs.PathCalls.{HasPath}
use Rattle.law_turns.specs.Pathless.{IsPathless}

-- ---- places

-- a change that neither brings a place into use nor hands one on, and moves no name
abbrev pub leaves_places : Change → Bool
leaves_places (MoveName dir name to new) = false
leaves_places (OpenFile fd cloexec from o) = false
leaves_places (CopyDescriptor fd to cloexec) = false
leaves_places (ChangeDirectory from host) = false
leaves_places (Fork birth) = false
leaves_places (End status) = false
leaves_places (ReplaceExecutable from host dir name) = false
leaves_places _ = true

abbrev pub leave_places : List Change → Bool
leave_places cs = list_all leaves_places cs

abbrev places_kind : Kind → Bool
places_kind MovesName = false
places_kind OpensPath = false
places_kind OpensOpen = false
places_kind CopiesDescriptor = false
places_kind EntersPath = false
places_kind EntersOpen = false
places_kind Forks = false
places_kind Ends = false
places_kind ReplacesExecutable = false
places_kind ReplacesOpen = false
places_kind _ = true

places_change : (c : Change) → places_kind (kind c) ≡ true → leaves_places c ≡ true
places_change (MoveName dir name to new) leaves = absurd cc
places_change (OpenFile fd cloexec from o) leaves = opened from leaves
  where
    opened : (from : MountOf) → places_kind (kind (OpenFile fd cloexec from o)) ≡ true → false ≡ true
    opened (OfDescriptor n) leaves = leaves
    opened _ leaves = leaves
places_change (CopyDescriptor fd to cloexec) leaves = absurd cc
places_change (ChangeDirectory from host) leaves = entered from leaves
  where
    entered : (from : MountOf) → places_kind (kind (ChangeDirectory from host)) ≡ true → false ≡ true
    entered (OfDescriptor n) leaves = leaves
    entered _ leaves = leaves
places_change (Fork birth) leaves = absurd cc
places_change (End status) leaves = absurd cc
places_change (ReplaceExecutable from host dir name) leaves = replaced from leaves
  where
    replaced : (from : MountOf) → places_kind (kind (ReplaceExecutable from host dir name)) ≡ true → false ≡ true
    replaced (OfDescriptor n) leaves = leaves
    replaced _ leaves = leaves
places_change _ leaves = refl

-- the calls with a path that bring a place into use, or move a name
abbrev pub brings_or_moves : Request → Bool
brings_or_moves (call.Openat dirfd path flags mode) = true
brings_or_moves (call.Chdir path) = true
brings_or_moves (call.Renameat2 olddir old newdir new) = true
brings_or_moves _ = false

places_line : (r : Request) → HasPath r → brings_or_moves r ≡ false → line_passes places_kind r ≡ true
places_line (call.Openat dirfd path flags mode) has other = absurd cc
places_line (call.Chdir path) has other = absurd cc
places_line (call.Renameat2 olddir old newdir new) has other = absurd cc
places_line (call.Dup fd) has other = absurd has
places_line (call.Dup3 old new flags) has other = absurd has
places_line (call.Fcntl fd cmd arg) has other = absurd has
places_line (call.Fchdir fd) has other = absurd has
places_line (call.Clone flags sp ctid) has other = absurd has
places_line (call.Exit code) has other = absurd has
places_line (call.ExitGroup code) has other = absurd has
places_line (call.Write fd buf n) has other = absurd has
places_line (call.Writev fd list count) has other = absurd has
places_line _ has other = refl

pub others_leave_places : (pid : ℕ) (seen : Seen) (k : Known) (memory : Memory) (r : Request) → HasPath r → brings_or_moves r ≡ false → leave_places (carried_out (operation pid r seen k) memory).reply.changes ≡ true
others_leave_places pid seen k memory r has other = by_line places_kind leaves_places places_change pid r seen k memory (places_line r has other)

-- ---- names that move

abbrev still_kind : Kind → Bool
still_kind MovesName = false
still_kind _ = true

still_change : (c : Change) → still_kind (kind c) ≡ true → moves_nothing c ≡ true
still_change (MoveName dir name to new) still = absurd cc
still_change _ still = refl

abbrev pub moves : Request → Bool
moves (call.Renameat2 olddir old newdir new) = true
moves _ = false

still_line : (r : Request) → moves r ≡ false → line_passes still_kind r ≡ true
still_line (call.Renameat2 olddir old newdir new) other = absurd cc
still_line _ other = refl

pub others_move_nothing : (pid : ℕ) (seen : Seen) (k : Known) (memory : Memory) (r : Request) → moves r ≡ false → move_nothing (carried_out (operation pid r seen k) memory).reply.changes ≡ true
others_move_nothing pid seen k memory r other = by_line still_kind moves_nothing still_change pid r seen k memory (still_line r other)

-- ---- what is taken from descriptors

-- a change that moves no name, and takes no mount from a descriptor
abbrev pub brings_nothing : Change → Bool
brings_nothing (MoveName dir name to new) = false
brings_nothing (OpenFile fd cloexec (OfDescriptor n) o) = false
brings_nothing (ChangeDirectory (OfDescriptor n) host) = false
brings_nothing (ReplaceExecutable (OfDescriptor n) host dir name) = false
brings_nothing _ = true

abbrev pub bring_nothing : List Change → Bool
bring_nothing cs = list_all brings_nothing cs

abbrev bringing_kind : Kind → Bool
bringing_kind MovesName = false
bringing_kind OpensOpen = false
bringing_kind EntersOpen = false
bringing_kind ReplacesOpen = false
bringing_kind _ = true

bringing_change : (c : Change) → bringing_kind (kind c) ≡ true → brings_nothing c ≡ true
bringing_change (MoveName dir name to new) brings = absurd cc
bringing_change (OpenFile fd cloexec (OfDescriptor n) o) brings = absurd cc
bringing_change (ChangeDirectory (OfDescriptor n) host) brings = absurd cc
bringing_change (ReplaceExecutable (OfDescriptor n) host dir name) brings = absurd cc
bringing_change _ brings = refl

-- a call that enters what a descriptor is open for
abbrev pub enters_open : Request → Bool
enters_open (call.Fchdir fd) = true
enters_open _ = false

bringing_line : (r : Request) → IsPathless r → enters_open r ≡ false → line_passes bringing_kind r ≡ true
bringing_line (call.Renameat2 olddir old newdir new) pathless enters = absurd pathless
bringing_line (call.Fchdir fd) pathless enters = absurd cc
bringing_line _ pathless enters = refl

pub all_bring : (k : Known) (pid : ℕ) (r : Request) (told : Seen) (memory : Memory) → IsPathless r → enters_open r ≡ false → bring_nothing (carried_out (operation pid r told k) memory).reply.changes ≡ true
all_bring k pid r told memory pathless enters = by_line bringing_kind brings_nothing bringing_change pid r told k memory (bringing_line r pathless enters)
