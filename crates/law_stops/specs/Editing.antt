-- What both watchers edit at the second stop of a call that a kernel carried out, for whoever believes in another identity.
use Rattle.std.specs.Prelude.{◌≡◌, ℕ, Bool, true, false, IsSome, List, Option, Some, None}
use Rattle.law_edits.specs.rv_mem.Actions.{carried_out}
use Rattle.law_edits.specs.pt_bind.Tags.{TagTable}
use Rattle.law_edits.specs.kr_view.View.{Row}
use Rattle.law_edits.specs.kr_model.State.{Image, State, process}
use Rattle.law_turns.specs.kr_stops.Stopped.{Stopped}
use Rattle.law_turns.specs.kr_stops.declared.handed.Handed.{Handed}
use Rattle.law_edits.specs.pt_ident.Identity.{after_exec}
use Rattle.law_edits.specs.pt_ident.IdentityTable.{identity_at}
use Rattle.law_edits.specs.pt_faker.Faking.{Faking, after_due, answer_register, begin_program, has_answered_zero, remembered_of, show_identity, show_owner, stack_register}
use Rattle.law_edits.specs.pt_faker.Stopping.{memory_at, register_at}
use Rattle.law_edits.specs.pt_faker.declared.due.Due.{Due}
use Rattle.law_edits.specs.pt_faker.declared.due.Due.TheVariants as due
use Rattle.law_edits.specs.pt_tracer.Watched.{Tracing, begin_as, shown_due}
use Rattle.law_stops.specs.Going.{StandAlike}

-- a process of a state at the second stop of its call
abbrev pub stop_in : ℕ → State ℕ Image → Handed → Stopped
stop_in pid s handed = record { state = s; pid = pid; handed = handed }

-- an edit of a call that the kernel carried out, other than of a new program: it reads no marked byte on the machine with mounts, and both
-- watchers know alike whether the path of the call led to the root, and to which inode
abbrev pub IsEditedAlike : Faking → Stopped → (at_root : Bool) → (target : Option ℕ) → Option Due → Type 0
IsEditedAlike f t at_root target None = Unit {0}
IsEditedAlike f t at_root target (Some (due.Remembers change)) = t.handed.target ≡ target
IsEditedAlike f t at_root target (Some due.ForgivesRoot) = t.handed.at_root ≡ at_root
IsEditedAlike f t at_root target (Some (due.ShowsOwner at)) =
    has_answered_zero t ≡ true → (carried_out (show_owner f.user f.identities at) (memory_at t)).memory.read_marked ≡ false
IsEditedAlike f t at_root target (Some (due.Tells number answer)) = ⊥
IsEditedAlike f t at_root target (Some due.BeginsProgram) = ⊥

-- such an edit leaves states that match as such, and both watchers remember the same
abbrev pub EditsKeepMatches : Type 0
EditsKeepMatches =
    (table : List Row) (tags : TagTable) (made pid : ℕ) (s w : State ℕ Image) (handed other : Handed) (also_root : Bool) (also_target : Option ℕ) (f : Faking) (edit : Option Due)
    → IsSome (process pid s) → StandAlike table tags made s w → IsEditedAlike f (stop_in pid s handed) also_root also_target edit
    → let mine = after_due f (stop_in pid s handed) edit in
    let shown = shown_due f.user f.identities also_root edit (stop_in pid w other) in
    StandAlike table tags made mine.1.state shown.state × (mine.0.identities ≡ remembered_of edit also_target (register_at shown answer_register) f.identities)

-- a new program is told who it is, which reads no marked byte where none was marked
abbrev pub ReadsNoMarkAtBeginning : Faking → Stopped → Type 0
ReadsNoMarkAtBeginning f t = (carried_out (show_identity (after_exec (identity_at f.identities t.pid)) (register_at t stack_register)) (memory_at t)).memory.read_marked ≡ false

-- and so does what begins a program, of which both watchers keep the same
pub record BeginAlike (table : List Row) (tags : TagTable) (made : ℕ) (f g : Faking) (x y : Tracing) (t u : Stopped) : Type 0 where
  pub stands : StandAlike table tags made t.state u.state
  pub user : g.user ≡ f.user
  pub kept : y.identities ≡ Some g.identities

abbrev pub BeginningsKeepMatches : Type 0
BeginningsKeepMatches =
    (table : List Row) (tags : TagTable) (made pid : ℕ) (s w : State ℕ Image) (handed other : Handed) (f : Faking) (x : Tracing)
    → IsSome (process pid s) → StandAlike table tags made s w → ReadsNoMarkAtBeginning f (stop_in pid s handed)
    → let mine = begin_program f (stop_in pid s handed) in
    let yours = begin_as x (stop_in pid w other) (Some f.identities) in
    BeginAlike table tags made f mine.0 x yours.0 mine.1 yours.1
