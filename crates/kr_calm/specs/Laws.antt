-- What holds of the rules.
use Rattle.std.specs.Prelude.{◌≡◌, ◌≢◌, ◌↔◌, ◌⊎◌, ℕ, Bool, true, false, IsSome, IsTrue, List, [], ◌∷◌}
use Rattle.std.specs.List.{list_all, list_any}
use Rattle.kr_seen.specs.pr_base.declared.errno.Errno.TheVariants.{ENOSYS}
use Rattle.kr_seen.specs.rv_mem.Actions.{Action, carried_out}
use Rattle.kr_seen.specs.rv_mem.Memory.{Memory}
use Rattle.kr_seen.specs.kr_calls.declared.request.Request.{Request}
use Rattle.kr_seen.specs.kr_tree.Lawful.{IsBelow, IsSound}
use Rattle.kr_seen.specs.kr_tree.Tree.{Tree}
use Rattle.kr_seen.specs.kr_tree.declared.place.Host.{Host}
use Rattle.kr_seen.specs.kr_tree.declared.place.Place.{Place}
use Rattle.kr_seen.specs.kr_view.Component.{Namespace, above, is_directory_at, shows_directory}
use Rattle.kr_seen.specs.kr_view.View.{Row}
use Rattle.kr_seen.specs.kr_model.Applied.{Computing, Mounts, all_applied, applied, images}
use Rattle.kr_seen.specs.kr_model.Change.{Change, CloseOnExec, End, MountOf, ReplaceExecutable, ReplaceImage}
use Rattle.kr_seen.specs.kr_model.Judged.{are_quiet}
use Rattle.kr_seen.specs.kr_model.Known.{Known, known}
use Rattle.kr_seen.specs.kr_model.Laws.{word_told}
use Rattle.kr_seen.specs.kr_model.Operation.{IsNoExec, operation}
use Rattle.kr_seen.specs.kr_model.Reply.{is_refusal}
use Rattle.kr_seen.specs.kr_model.Seen.{Seen, WalkFails}
use Rattle.kr_seen.specs.kr_model.State.{Image, State, image_layout, inode_of, process}
use Rattle.kr_seen.specs.kr_model.declared.outcome.Outcome.TheVariants.{Ended}
use Rattle.kr_seen.specs.Carrying.{after_row, carried, memory_of, with_memory_of}
use Rattle.kr_calm.specs.Above.{is_at_or_below}
use Rattle.kr_calm.specs.Foreseen.{are_unjudged, gives_owner, is_foreseen, prospect}
use Rattle.kr_calm.specs.InUse.{is_directory_of, is_in_use}
use Rattle.kr_calm.specs.Prospects.{MakesAtZero}
use Rattle.kr_calm.specs.Rules.{changes_break_3, changes_break_4, changes_break_5, serves_row}

-- the steps are enough: a directory is found to be at or below another exactly where the way up comes to that
abbrev pub StepsAreEnough : Type 0
StepsAreEnough = (t : Tree) (top dir : ℕ) → IsSound t → IsTrue (is_at_or_below t top dir) ↔ IsBelow t top dir

-- ---- changes

-- changes break none of the rules that are judged on changes
pub record BreakNone {M X : Type 0} (computing : Computing X) (mounts : Mounts M) (pid : ℕ) (table : List Row) (cs : List Change) (s : State M X) : Type 0 where
  pub third : changes_break_3 computing mounts pid table cs s ≡ false
  pub fourth : changes_break_4 computing mounts pid cs s ≡ false
  pub fifth : changes_break_5 computing mounts pid table cs s ≡ false

-- changes that take nothing away from what has a name, and bring no new place into use
abbrev pub QuietChangesBreakNone : Type 0 → Type 0 → Type 0
QuietChangesBreakNone M X =
    (computing : Computing X) (mounts : Mounts M) (pid : ℕ) (table : List Row) (cs : List Change) (s : State M X)
    → are_quiet cs ≡ true → BreakNone computing mounts pid table cs s

-- those of a call, other than execve, that answers an error: there are none
abbrev pub RefusedCallsBreakNone : Type 0 → Type 0 → Type 0
RefusedCallsBreakNone M X =
    (computing : Computing X) (mounts : Mounts M) (pid : ℕ) (table : List Row) (request : Request) (seen : Seen) (k : Known) (m : Memory) (s : State M X)
    → IsNoExec request → seen ≢ WalkFails ENOSYS → is_refusal (carried_out (operation pid request seen k) m).reply.outcome ≡ true
    → BreakNone computing mounts pid table (carried_out (operation pid request seen k) m).reply.changes s

-- changes that no rule looks at
abbrev pub UnjudgedBreakNone : Type 0 → Type 0 → Type 0
UnjudgedBreakNone M X =
    (computing : Computing X) (mounts : Mounts M) (pid : ℕ) (table : List Row) (cs : List Change) (s : State M X)
    → are_unjudged cs ≡ true → BreakNone computing mounts pid table cs s

-- a new program takes the place of its caller's, with the descriptors that it gets
abbrev pub NewProgramsBreakNone : Type 0 → Type 0 → Type 0
NewProgramsBreakNone M X =
    (computing : Computing X) (mounts : Mounts M) (pid : ℕ) (table : List Row) (s : State M X) (image : Image) (brk : ℕ) (from : MountOf) (host : Host) (dir : ℕ) (name : List ℕ)
    → BreakNone computing mounts pid table (ReplaceImage image brk ∷ ReplaceExecutable from host dir name ∷ CloseOnExec ∷ []) s

-- the end of a process breaks the fourth rule alone, where its directory is in use in the state that is left
pub record EndBreaks {M X : Type 0} (computing : Computing X) (mounts : Mounts M) (pid : ℕ) (table : List Row) (status : ℕ) (s : State M X) : Type 0 where
  pub third : changes_break_3 computing mounts pid table (End status ∷ []) s ≡ false
  pub fourth : changes_break_4 computing mounts pid (End status ∷ []) s ≡ is_in_use (is_directory_of pid) (applied computing mounts pid (End status) s)
  pub fifth : changes_break_5 computing mounts pid table (End status ∷ []) s ≡ false

abbrev pub EndsBreakTheFourth : Type 0 → Type 0 → Type 0
EndsBreakTheFourth M X =
    (computing : Computing X) (mounts : Mounts M) (pid : ℕ) (table : List Row) (status : ℕ) (s : State M X) → EndBreaks computing mounts pid table status s

-- ---- calls

-- those that take names away, or change modes, make what is foreseen of them where they answer 0, and else change nothing
abbrev pub ForeseenCallsMakeIt : Type 0
ForeseenCallsMakeIt =
    (pid : ℕ) (request : Request) (seen : Seen) (k : Known) → is_foreseen request ≡ true → MakesAtZero (prospect request seen k) (operation pid request seen k)

-- a call that may give a file to another owner doesn't: the user may give its own files to a group alone, and search of what it owns
-- goes by the owner's bits
abbrev pub OwnersBreakNone : Type 0 → Type 0
OwnersBreakNone M =
    (mounts : Mounts M) (pid : ℕ) (table : List Row) (request : Request) (seen : Seen) (s : State M Image) (m memory : Memory) → gives_owner request ≡ true
    → BreakNone images mounts pid table (carried_out (operation pid request seen (known image_layout pid s)) m).reply.changes (with_memory_of pid memory s)

-- any other call but execve makes no change that a rule looks at, unless it ends its caller, which then is all that it does
pub record OthersAreUnjudged (pid : ℕ) (request : Request) (seen : Seen) (k : Known) (m : Memory) : Type 0 where
  pub going_on : (carried_out (operation pid request seen k) m).reply.outcome ≢ Ended → are_unjudged (carried_out (operation pid request seen k) m).reply.changes ≡ true
  pub ending : (carried_out (operation pid request seen k) m).reply.outcome ≡ Ended → (carried_out (operation pid request seen k) m).reply.changes ≡ End (word_told request) ∷ []

abbrev pub OtherCallsAreUnjudged : Type 0
OtherCallsAreUnjudged =
    (pid : ℕ) (request : Request) (seen : Seen) (k : Known) (m : Memory) → IsNoExec request → is_foreseen request ≡ false → gives_owner request ≡ false
    → OthersAreUnjudged pid request seen k m

-- ---- memory

-- a marked byte that was read by an instruction or in decoding still counts as read after what a call reads
abbrev pub MarksStayRead : Type 0 → Type 0
MarksStayRead A = (action : Action A) (m : Memory) → m.read_marked ≡ true → (carried_out action m).memory.read_marked ≡ true

-- whether a change leaves the flag of its caller's memory as it is: one that ends it, or gives it another memory, needn't
abbrev pub leaves_mark : Change → Bool
leaves_mark (End status) = false
leaves_mark (ReplaceImage image brk) = false
leaves_mark _ = true

-- so the flag in the memory of a caller that goes on is that of all that its call read, other than execve
pub record MarksAreKept (M : Type 0) : Type 0 where
  pub changes : (mounts : Mounts M) (pid : ℕ) (cs : List Change) (s : State M Image) → list_all leaves_mark cs ≡ true
      → (memory_of pid (all_applied images mounts pid cs s)).read_marked ≡ (memory_of pid s).read_marked
  pub calls : (mounts : Mounts M) (pid : ℕ) (request : Request) (seen : Seen) (s : State M Image)
      → let done = carried pid (operation pid request seen (known image_layout pid s)) s in
      IsNoExec request → IsSome (process pid s) → done.reply.outcome ≢ Ended → (memory_of pid (after_row mounts pid done s)).read_marked ≡ done.memory.read_marked

-- ---- guest names

-- a place above another by guest names: that itself, or where `..` leads from a directory on the way
pub data IsAboveByGuestNames (space : Namespace) (place : Place ℕ) : Place ℕ → Type 0 where
  Itself : IsAboveByGuestNames space place place
  Up : {at up : Place ℕ} → IsAboveByGuestNames space place at → is_directory_at space.tree at.host ≡ true → above space at ≡ shows_directory up → IsAboveByGuestNames space place up

-- what stands above a place by guest names stands above it by host names, or above a mount
abbrev pub GuestNamesGoByMounts : Type 0
GuestNamesGoByMounts =
    (space : Namespace) (place up : Place ℕ) → IsSound space.tree → IsAboveByGuestNames space place up
    → (is_at_or_below space.tree (inode_of up.host) (inode_of place.host) ≡ true) ⊎ (list_any (serves_row space.tree (inode_of up.host)) space.table ≡ true)
