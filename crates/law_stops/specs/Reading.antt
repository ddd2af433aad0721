-- What is edited of an answer reads no marked byte, where the call broke no calm rule.
use Rattle.std.specs.Prelude.{◌≡◌, ℕ, Bool, List, Option, None, Ok}
use Rattle.law_edits.specs.kr_view.View.{Row}
use Rattle.law_turns.specs.kr_calls.declared.request.Request.{Request}
use Rattle.law_turns.specs.kr_calls.declared.request.Request.TheVariants as call
use Rattle.law_edits.specs.kr_model.State.{Image, Process, State}
use Rattle.law_turns.specs.kr_steps.Calls.{IsNoExec}
use Rattle.law_turns.specs.kr_turns.Breaking.{plain_rule}
use Rattle.law_turns.specs.kr_turns.PlainCall.{Came, plain_call}
use Rattle.law_turns.specs.kr_turns.Turn.{called}
use Rattle.law_edits.specs.pt_faker.Faking.{Faking, due_of, is_root}
use Rattle.law_turns.specs.Calls.{decoded_by}
use Rattle.law_turns.specs.Lasting.{CanBeCalled}
use Rattle.law_turns.specs.Sizes.{IsSized}
use Rattle.law_stops.specs.Editing.{IsEditedAlike}

-- both watchers know alike whether the path of a chroot(2) led to the root
abbrev pub RootIsKnown : Request → Came → Bool → Type 0
RootIsKnown (call.Chroot path) came at_root = came.handed.at_root ≡ at_root
RootIsKnown _ came at_root = Unit {0}

-- and to which inode a call led that sets an owner or a mode
abbrev pub TargetIsKnown : Request → Came → Option ℕ → Type 0
TargetIsKnown (call.Fchown fd uid gid) came target = came.handed.target ≡ target
TargetIsKnown (call.Fchownat dirfd path uid gid flags) came target = came.handed.target ≡ target
TargetIsKnown (call.Fchmod fd mode) came target = came.handed.target ≡ target
TargetIsKnown (call.Fchmodat dirfd path mode) came target = came.handed.target ≡ target
TargetIsKnown _ came target = Unit {0}

-- the bytes of a stat(2) were just written, so none of them is marked
abbrev pub EditsReadUnmarked : Type 0
EditsReadUnmarked =
    (table : List Row) (made pid : ℕ) (no_shelf at_root : Bool) (target : Option ℕ) (s : State ℕ Image) (p : Process ℕ Image) (f : Faking) (r : Request) → CanBeCalled table made pid s p → IsSized p.image → (decoded_by p).reply ≡ Ok r → IsNoExec r
    → plain_rule 1 table pid no_shelf s ≡ None → RootIsKnown r (plain_call table pid s) at_root → TargetIsKnown r (plain_call table pid s) target
    → IsEditedAlike f (called pid (plain_call table pid s)) at_root target (due_of (is_root f) r)
