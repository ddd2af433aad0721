-- A call along paths that the plain kernel carries out: the tracer swaps its paths, or lets it pass, and the plain kernel is told of the
-- paths what the kernel with mounts is told of the old ones.
use Rattle.std.specs.Prelude.{◌≡◌, ◌⊎◌, ℕ, ℤ, true, Option, Ok}
use Rattle.law_turns.specs.pr_base.declared.errno.Errno.{Errno}
use Rattle.law_edits.specs.rv_mem.Actions.{CarriedOut}
use Rattle.law_turns.specs.pt_args.declared.edit.Edit.TheVariants.{Pass}
use Rattle.law_turns.specs.pt_results.Notes.{noted, tags_after}
use Rattle.law_edits.specs.kr_view.View.{plain}
use Rattle.law_turns.specs.kr_calls.CallTable.{line}
use Rattle.law_turns.specs.kr_calls.declared.request.Request.{Request}
use Rattle.law_turns.specs.law_allowed.Told.{mounts_walked}
use Rattle.law_edits.specs.kr_model.Applied.{Mounts}
use Rattle.law_edits.specs.kr_model.Bare.{bare_mounts}
use Rattle.law_edits.specs.kr_model.Known.{known}
use Rattle.law_edits.specs.kr_model.Operation.{operation}
use Rattle.law_edits.specs.kr_model.Reply.{Reply, refuse}
use Rattle.law_edits.specs.kr_model.Seen.{Seen}
use Rattle.law_edits.specs.kr_model.State.{Image, State, image_layout}
use Rattle.law_edits.specs.kr_model.Walks.{seen, targets_of}
use Rattle.law_edits.specs.kr_model.declared.outcome.Outcome.TheVariants.{Answer}
use Rattle.law_turns.specs.kr_turns.Target.{LooksUpOne}
use Rattle.law_edits.specs.pt_faker.Stopping.{Stopped, after_request, memory_at}
use Rattle.law_edits.specs.pt_tracer.Planning.{led_of, stack_at}
use Rattle.law_edits.specs.pt_tracer.Watched.{applied}
use Rattle.law_turns.specs.law_kept.ImagePaths.{is_told_of_paths}
use Rattle.law_turns.specs.law_places.Changes.{NewPlacesStand}
use Rattle.law_turns.specs.law_places.Keeping.{MovesStayInside}
use Rattle.law_edits.specs.Requests.{NewText, with_swaps}
use Rattle.law_edits.specs.Shelves.{swap_edit}
use Rattle.law_edits.specs.Stops.{CanBeSwapped}
use Rattle.law_turns.specs.Changing.{all_tags_made}
use Rattle.law_turns.specs.Operating.{done_in, written_in}
use Rattle.law_stops.specs.Noting.{told_answer}
use Rattle.law_stops.specs.Scene.{IsCalm, Scene, asked, at_first_stop, caller_here, caller_there, edit_there, here, texts_there}
use Rattle.law_stops.specs.Turning.{ComeToCall, StayTogether}

module _ {S : Type 0} (scene : Scene S) (r : Request) where
  -- as the tracer leaves the process at the first stop
  abbrev pub at_entry : Stopped
  at_entry = (applied (edit_there scene r) (at_first_stop scene)).stopped

  -- what the mounted kernel is told at the call, the mounts that its changes may name, and what it does; and the plain kernel's state
  abbrev pub told_here : Seen
  told_here = seen scene.table scene.pid (here scene) r

  abbrev pub mounts_here : Mounts ℕ
  mounts_here = mounts_walked (targets_of scene.table scene.pid (here scene) r)

  abbrev pub carried_here : CarriedOut Reply
  carried_here = done_in scene.pid r told_here (here scene)

  abbrev pub written_here : State ℕ Image
  written_here = written_in scene.pid r told_here (here scene)

  abbrev pub there : State ℕ Image
  there = (after_request at_entry).state

  -- the plain kernel finds this request in place of the call's own
  pub record IsToldAlong (other : Request) : Type 0 where
    pub decoded : asked scene ≡ Ok r
    pub kind : is_told_of_paths r ≡ true
    -- its row is the same of what the plain kernel is told, and names mounts alike, or none, since the call is refused
    pub acts : operation scene.pid r told_here (known image_layout scene.pid (here scene)) ≡ operation scene.pid other (seen plain scene.pid there other) (known image_layout scene.pid (here scene))
    pub mounts : (bare_mounts mounts_here ≡ bare_mounts (mounts_walked (targets_of plain scene.pid there other)))
        ⊎ ((e : Errno) × (operation scene.pid r told_here (known image_layout scene.pid (here scene)) ≡ refuse e))
    -- of a call that looks up one path it is told the very same
    pub looked : LooksUpOne (line r).told → told_here ≡ seen plain scene.pid there other
    -- what it changes keeps places standing, and the tracer notes what becomes of the tags
    pub inside : MovesStayInside scene.table mounts_here scene.pid written_here carried_here.reply.changes
    pub new : NewPlacesStand scene.table mounts_here scene.pid written_here carried_here.reply.changes
    pub tags : (value : ℤ) → carried_here.reply.outcome ≡ Answer value
        → all_tags_made scene.table mounts_here scene.pid written_here carried_here.reply.changes scene.traced.watcher.tags
        ≡ tags_after scene.traced.watcher.tags scene.pid (noted r (led_of (texts_there scene) scene.pid r).index (told_answer value))

  -- the tracer puts other texts in place of its paths
  pub record IsSwappedAlike (first : NewText) (second : Option NewText) : Type 0 where
    pub told : IsToldAlong (with_swaps first second r)
    pub swaps : edit_there scene r ≡ swap_edit (stack_at (at_first_stop scene)) first second
    pub can : CanBeSwapped (caller_there scene) (memory_at (caller_here scene)) r first second

  -- or it leaves them as they are
  pub record IsPassedAlike : Type 0 where
    pub told : IsToldAlong r
    pub passes : edit_there scene r ≡ Pass

-- such calls and their stops keep the match, where they break no calm rule
abbrev pub SwappedCallsGoTogether : Type 0 → Type 0
SwappedCallsGoTogether S =
    (scene : Scene S) (r : Request) (first : NewText) (second : Option NewText) → ComeToCall scene → IsSwappedAlike scene r first second → IsCalm scene → StayTogether scene

abbrev pub PassedCallsGoTogether : Type 0 → Type 0
PassedCallsGoTogether S = (scene : Scene S) (r : Request) → ComeToCall scene → IsPassedAlike scene r → IsCalm scene → StayTogether scene
