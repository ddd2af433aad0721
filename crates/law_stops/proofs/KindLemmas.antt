-- Calls along paths by what the tracer makes of them, where an identity is told.
use Rattle.std.proofs.Common.{◌≡◌, ℕ, true, List, Option, Some, None, Ok, refl, sym, ap, subst, ◌∙◌, ℤ}
use Rattle.law_turns.specs.pr_base.declared.errno.Errno.{Errno}
use Rattle.law_edits.specs.rv_mem.Memory.{Memory}
use Rattle.law_edits.specs.rv_mem.declared.regs.Regs.{Regs}
use Rattle.law_edits.specs.kr_view.View.{plain}
use Rattle.law_turns.specs.kr_calls.CallTable.{line}
use Rattle.law_turns.specs.kr_calls.PathTable.{path_at}
use Rattle.law_turns.specs.kr_calls.declared.request.Request.{Request}
use Rattle.law_turns.specs.kr_calls.declared.request.Request.TheVariants as call
use Rattle.law_edits.specs.kr_model.Known.{known}
use Rattle.law_edits.specs.kr_model.Seen.{WalkFails}
use Rattle.law_edits.specs.kr_model.State.{Image, Process, State, image_layout}
use Rattle.law_edits.specs.kr_model.Walks.{seen}
use Rattle.law_turns.specs.kr_turns.PlainCall.{Came, operated, plain_call}
use Rattle.law_turns.specs.kr_turns.Target.{IsLookedAt, LooksUpOne, instead_of, target_by}
use Rattle.law_turns.specs.kr_stops.Stopped.{IsThere, Stopped, nothing_handed}
use Rattle.law_turns.specs.kr_turns.Turn.{calling}
use Rattle.law_turns.proofs.kr_stops.EditLemmas.{there}
use Rattle.law_turns.proofs.kr_turns.PlainLemmas.{no-exec-requested}
use Rattle.law_turns.proofs.kr_turns.TargetLemmas.{targets-are-told}
use Rattle.law_turns.specs.law_kept.ImagePaths.{is_told_of_paths}
use Rattle.law_turns.specs.pt_args.Laws.{ShelvesHoldTheirItems, TextsAreReadBack}
use Rattle.law_turns.specs.pt_args.declared.edit.Edit.{Edit}
use Rattle.law_edits.specs.pt_ident.Identity.{refusal}
use Rattle.law_edits.specs.pt_faker.Faking.{Faking}
use Rattle.law_edits.specs.pt_faker.Stopping.{after_request, decoded_at}
use Rattle.law_edits.specs.pt_tracer.Planning.{edit_for, planned_by, texts_at}
use Rattle.law_edits.specs.pt_tracer.Watched.{Tracing, after_decoding, after_plan, applied, entered}
use Rattle.law_edits.specs.Answered.{StandsAtNoCall}
use Rattle.law_edits.specs.Requests.{NewText, with_swaps}
use Rattle.law_edits.proofs.AnsweredLemmas.{answered_calls_are_none}
use Rattle.law_turns.specs.Calls.{decoded_in}
use Rattle.law_turns.proofs.CallLemmas.{by_request}
use Rattle.law_turns.proofs.CalledLemmas.{lives_computed}
use Rattle.law_turns.proofs.ImageLemmas.{given}
use Rattle.law_stops.specs.Answering.{IsAnsweredAlike}
use Rattle.law_stops.specs.Cancelling.{IsCancelledAlike}
use Rattle.law_stops.specs.Swapping.{IsPassedAlike, IsSwappedAlike, IsToldAlong}
use Rattle.law_stops.specs.Turning.{ComeToCall, StayTogether}
use Rattle.law_stops.proofs.AnsweredLemmas.{cancelled_calls_go_together}
use Rattle.law_stops.proofs.CallLemmas as before
use Rattle.law_stops.proofs.CarryLemmas.{IsEntered, came2_is, leads_same, lists_none, no_exec_told}
use Rattle.law_stops.proofs.EmulateLemmas.{answered_calls_go_together}
use Rattle.law_stops.proofs.SwapLemmas.{pass_entered, passed_calls_go_together, swap_entered, swapped_calls_go_together}
use Rattle.law_stops.specs.Along.{IsAlongPaths, JustAnswers}
use Rattle.law_stops.specs.Going.{ComeToFakedCall, GoesTogether, untold}
use Rattle.law_stops.specs.Kinds.{FakedAnswersGoTogether, FakedErrorsGoTogether, FakedPassesGoTogether, FakedSwapsGoTogether, RootIsKnownAt}
use Rattle.law_stops.specs.Reading.{TargetIsKnown}
use Rattle.law_stops.specs.Scene.{IsCalm, Scene, asked, at_call, came_here, came_there}
use Rattle.law_stops.proofs.AlongLemmas.{path_calls_go_together, path_calls_just_answer}
use Rattle.law_stops.proofs.CallerLemmas.{FakedCallers, comes_untold, faked_callers_of, untold_callers}
use Rattle.law_stops.proofs.EntryLemmas as entry

-- ---- of the calls along paths that set an owner or a mode each looks up one

known_of_looks : (r : Request) (came : Came) (target : Option ℕ) → is_told_of_paths r ≡ true → (LooksUpOne (line r).told → IsLookedAt (line r).told → came.handed.target ≡ target) → TargetIsKnown r came target
known_of_looks (call.Fchmodat dirfd path mode) came target told same = same tt tt
known_of_looks (call.Fchownat dirfd path uid gid flags) came target told same = same tt tt
known_of_looks (call.Fchmod fd mode) came target told same = absurd cc
known_of_looks (call.Fchown fd uid gid) came target told same = absurd cc
known_of_looks _ came target told same = tt

known_of_swaps : (r : Request) (first : NewText) (second : Option NewText) (came : Came) (target : Option ℕ) → is_told_of_paths r ≡ true
    → (LooksUpOne (line r).told → IsLookedAt (line r).told → IsLookedAt (line (with_swaps first second r)).told → instead_of r ≡ instead_of (with_swaps first second r) → came.handed.target ≡ target) → TargetIsKnown r came target
known_of_swaps (call.Fchmodat dirfd path mode) first None came target told same = same tt tt tt refl
known_of_swaps (call.Fchmodat dirfd path mode) first (Some second) came target told same = same tt tt tt refl
known_of_swaps (call.Fchownat dirfd path uid gid flags) first None came target told same = same tt tt tt refl
known_of_swaps (call.Fchownat dirfd path uid gid flags) first (Some second) came target told same = same tt tt tt refl
known_of_swaps (call.Fchmod fd mode) first second came target told same = absurd cc
known_of_swaps (call.Fchown fd uid gid) first second came target told same = absurd cc
known_of_swaps _ first second came target told same = tt

-- ---- what the plain kernel finds behind the first stop

module _ {scene : Scene Faking} (callers : FakedCallers scene) (r : Request) (decoded : asked scene ≡ Ok r) (told : is_told_of_paths r ≡ true) (calm : IsCalm scene) where
  open scene use {table, pid, traced as n}
  open callers use {comes as c, also_caller as q, also_lives as also}

  abbrev x : Tracing
  x = (untold scene).traced.watcher

  abbrev stop : Stopped
  stop = before.stop (untold_callers callers)

  stop_is : calling 0 pid n.state ≡ stop
  stop_is = before.calling_is (untold_callers callers)

  reads_there : (decoded_at stop).reply ≡ Ok r
  reads_there =
      before.decoded_there (untold_callers callers)
      ∙ sym (before.requests (untold_callers callers) calm)
      ∙ sym (entry.decoded_first callers) ∙ sym (ap (λ t. (decoded_at t).reply) (entry.calling_is callers)) ∙ decoded

  abbrev edit : Edit
  edit = edit_for (texts_at x.bindings x.tags (after_request stop)) (after_request stop) r

  abbrev left : Stopped
  left = (applied edit (after_request stop)).stopped

  came_there_is : came_there (untold scene) ≡ plain_call plain pid left.state
  came_there_is =
      ap (λ (t : Stopped). plain_call plain pid (entered x t).1.state) stop_is
      ∙ ap (λ (e : Tracing × Stopped). plain_call plain pid e.1.state)
      (ap (after_decoding x (after_request stop)) reads_there ∙ ap (λ lists. after_plan x (after_request stop) r (planned_by x.bindings x.tags (after_request stop) r lists (path_at r 0))) (lists_none r told))

  -- another request along paths
  finds_request : (r2 : Request) (alike : IsToldAlong (untold scene) r r2) (registers : List ℕ) (memory : Memory)
      → IsEntered (untold_callers callers) r r2 alike calm registers memory → JustAnswers (came_there (untold scene))
  finds_request r2 alike registers memory is =
      let regs : Regs = record { x = registers; pc = q.image.regs.pc } in
      subst JustAnswers (sym (came_there_is ∙ ap (λ (t : Stopped). plain_call plain pid t.state) is.stopped))
      (path_calls_just_answer plain pid _ (given pid regs memory q) (lives_computed pid regs memory n.state q also) (subst IsAlongPaths (sym is.reads) is.kind))

  -- or none
  finds_none : (answer : ℤ) → (applied edit (after_request stop)).answer ≡ Some answer → JustAnswers (came_there (untold scene))
  finds_none answer answers =
      let there_stop : IsThere stop = there n.state pid nothing_handed q c.also_lasts.lawful.pids also in
      let stands : StandsAtNoCall stop left = answered_calls_are_none stop (decoded_at stop).memory r edit answer there_stop reads_there answers in
      subst JustAnswers (sym came_there_is)
      (subst (λ k. JustAnswers (plain_call plain k left.state)) stands.pid (subst JustAnswers (sym (stands.refuses plain)) (record { ends = refl; alone = refl })))

  -- ---- to which inode its path led

  abbrev s1 : State ℕ Image
  s1 = before.s1 (untold_callers callers)

  abbrev p1 : Process ℕ Image
  p1 = before.p1 (untold_callers callers)

  came_here_is : came_here scene ≡ operated table pid r (decoded_in pid p1 s1)
  came_here_is =
      ap (plain_call table pid) (before.shelf (untold_callers callers))
      ∙ by_request table pid table s1 p1 (Ok r) (before.lives1 (untold_callers callers))
      (sym (before.decoded_here (untold_callers callers)) ∙ decoded)
      ∙ sym (no-exec-requested table pid (decoded_in pid p1 s1) r (no_exec_told r told))

  same_target : (r2 : Request) (alike : IsToldAlong (untold scene) r r2) (registers : List ℕ) (memory : Memory)
      → IsEntered (untold_callers callers) r r2 alike calm registers memory
      → LooksUpOne (line r).told → IsLookedAt (line r).told → IsLookedAt (line r2).told → instead_of r ≡ instead_of r2 → (came_here scene).handed.target ≡ (came_there (untold scene)).handed.target
  same_target r2 alike registers memory is looks one other instead =
      ap (λ (came : Came). came.handed.target) came_here_is
      ∙ leads_same (untold_callers callers) r r2 alike calm registers memory is looks one other instead
      ∙ sym (ap (λ (came : Came). came.handed.target)
      (came_there_is ∙ ap (λ (t : Stopped). plain_call plain pid t.state) is.stopped
      ∙ came2_is (untold_callers callers) r r2 alike calm registers memory is))

  -- where a walk failed, to none
  no_target_here : (e : Errno) → seen table pid (at_call scene).state r ≡ WalkFails e → IsLookedAt (line r).told → (came_here scene).handed.target ≡ None
  no_target_here e fails one =
      let at = decoded_in pid p1 s1 in
      ap (λ (came : Came). came.handed.target) came_here_is
      ∙ targets-are-told table pid r at one
      ∙ ap (λ seen. target_by (instead_of r) seen (known image_layout pid at))
      (subst (λ t. seen table pid t r ≡ WalkFails e) (before.at_call_is (untold_callers callers)) fails)

  no_target_there : (answer : ℤ) → (applied edit (after_request stop)).answer ≡ Some answer → (came_there (untold scene)).handed.target ≡ None
  no_target_there answer answers =
      let there_stop : IsThere stop = there n.state pid nothing_handed q c.also_lasts.lawful.pids also in
      let stands : StandsAtNoCall stop left = answered_calls_are_none stop (decoded_at stop).memory r edit answer there_stop reads_there answers in
      ap (λ (came : Came). came.handed.target) came_there_is
      ∙ subst (λ k. (plain_call plain k left.state).handed.target ≡ None) stands.pid (ap (λ (came : Came). came.handed.target) (stands.refuses plain))

-- ---- so the call goes along with an identity

-- without one the plain kernel answers it, too, it keeps both machines together, and both know alike to which inode it led
abbrev pub UntoldGoes : Scene Faking → Request → Type 0
UntoldGoes scene r = JustAnswers (came_there (untold scene)) × StayTogether (untold scene) × TargetIsKnown r (came_here scene) (came_there (untold scene)).handed.target

together : (scene : Scene Faking) (r : Request) → ComeToFakedCall scene → asked scene ≡ Ok r → is_told_of_paths r ≡ true → RootIsKnownAt scene r → (IsCalm scene → UntoldGoes scene r) → GoesTogether scene
together scene r comes decoded told root untold_goes =
    path_calls_go_together scene r comes decoded told (λ calm. let both = untold_goes calm in record { answers = both.0; root = root; target = both.2; together = both.1 })

-- ---- what each kind comes to without an identity

module _ {scene : Scene Faking} (callers : FakedCallers scene) (r : Request) (calm : IsCalm scene) where
  abbrev comes : ComeToCall (untold scene)
  comes = comes_untold scene callers.comes

  pub swaps_untold : TextsAreReadBack → ShelvesHoldTheirItems → (first : NewText) (second : Option NewText) → IsSwappedAlike (untold scene) r first second → UntoldGoes scene r
  swaps_untold back shelves first second alike =
      let entered = swap_entered back shelves (untold_callers callers) r first second alike.can alike.swaps alike calm in (
        finds_request callers r alike.told.decoded alike.told.kind calm (with_swaps first second r) alike.told _ _ entered,
        swapped_calls_go_together back shelves Faking (untold scene) r first second comes alike calm,
        known_of_swaps r first second (came_here scene) (came_there (untold scene)).handed.target alike.told.kind
            (same_target callers r alike.told.decoded alike.told.kind calm (with_swaps first second r) alike.told _ _ entered),
      )

  pub passes_untold : IsPassedAlike (untold scene) r → UntoldGoes scene r
  passes_untold alike =
      let entered = pass_entered (untold_callers callers) r alike calm in (
        finds_request callers r alike.told.decoded alike.told.kind calm r alike.told _ _ entered,
        passed_calls_go_together Faking (untold scene) r comes alike calm,
        known_of_looks r (came_here scene) (came_there (untold scene)).handed.target alike.told.kind
            (λ looks one. same_target callers r alike.told.decoded alike.told.kind calm r alike.told _ _ entered looks one one refl),
      )

  pub answers_untold : (answer : ℤ) → IsAnsweredAlike (untold scene) r answer → UntoldGoes scene r
  answers_untold answer alike =
      let x = (untold scene).traced.watcher in
      let stop_is = before.calling_is (untold_callers callers) in (
        finds_none callers r alike.decoded alike.kind calm answer
            (ap (λ t. (applied (edit_for (texts_at x.bindings x.tags (after_request t)) (after_request t) r) (after_request t)).answer) (sym stop_is) ∙ alike.answers),
        answered_calls_go_together Faking (untold scene) r answer comes alike calm,
        known_of_looks r (came_here scene) (came_there (untold scene)).handed.target alike.kind (λ looks one. absurd (alike.apart looks)),
      )

  pub errors_untold : is_told_of_paths r ≡ true → (e : Errno) → IsCancelledAlike (untold scene) r e → UntoldGoes scene r
  errors_untold told e alike =
      let x = (untold scene).traced.watcher in
      let stop = before.stop (untold_callers callers) in
      let stop_is = before.calling_is (untold_callers callers) in
      let answers =
      ap (λ edit. (applied edit (after_request stop)).answer) (ap (λ t. edit_for (texts_at x.bindings x.tags (after_request t)) (after_request t) r) (sym stop_is) ∙ alike.cancels) in (
        finds_none callers r alike.decoded told calm (refusal e) answers,
        cancelled_calls_go_together Faking (untold scene) r e comes alike calm,
        known_of_looks r (came_here scene) (came_there (untold scene)).handed.target told
            (λ looks one.
            let fails = alike.lost looks in
            no_target_here callers r alike.decoded told calm fails.0 fails.1 one ∙ sym (no_target_there callers r alike.decoded told calm (refusal e) answers)),
      )

pub faked_swaps_go_together : TextsAreReadBack → ShelvesHoldTheirItems → FakedSwapsGoTogether
faked_swaps_go_together back shelves scene r first second comes alike root =
    together scene r comes alike.told.decoded alike.told.kind root (λ calm. swaps_untold (faked_callers_of comes) r calm back shelves first second alike)

pub faked_passes_go_together : FakedPassesGoTogether
faked_passes_go_together scene r comes alike root = together scene r comes alike.told.decoded alike.told.kind root (λ calm. passes_untold (faked_callers_of comes) r calm alike)

pub faked_answers_go_together : FakedAnswersGoTogether
faked_answers_go_together scene r answer comes alike root = together scene r comes alike.decoded alike.kind root (λ calm. answers_untold (faked_callers_of comes) r calm answer alike)

pub faked_errors_go_together : FakedErrorsGoTogether
faked_errors_go_together scene r e comes alike told root = together scene r comes alike.decoded told root (λ calm. errors_untold (faked_callers_of comes) r calm told e alike)
