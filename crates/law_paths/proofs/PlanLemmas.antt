-- A call along paths of which the tracer makes what its plan says: it is passed, swapped or cancelled as the kernel with mounts has it.
use Rattle.std.proofs.Common.{◌≡◌, inl, ℕ, Bool, true, Option, Some, None, Ok, sym, ap, subst, ◌∙◌}
use Rattle.std.specs.Option.{unwrap_or}
use Rattle.law_plans.specs.rv_mem.Actions.{carried_out}
use Rattle.law_stops.specs.pt_args.Edits.{edit_of}
use Rattle.law_stops.specs.pt_args.Laws.{ShelvesHoldTheirItems, TextsAreReadBack}
use Rattle.law_stops.specs.pt_args.Purposes.{opens}
use Rattle.law_stops.specs.pt_args.Walks.{walked_along}
use Rattle.law_stops.specs.pt_args.declared.edit.Edit.{Edit}
use Rattle.law_stops.specs.pt_args.declared.edit.Edit.TheVariants.{Cancel, Pass}
use Rattle.law_stops.specs.pt_results.Answers.{link_answer}
use Rattle.law_plans.specs.pr_base.declared.errno.Errno.{Errno}
use Rattle.law_plans.specs.kr_view.View.{plain}
use Rattle.law_stops.specs.kr_calls.CallTable.{line}
use Rattle.law_stops.specs.kr_calls.Decoding.{decoding}
use Rattle.law_stops.specs.kr_calls.PathTable.{PathUse, path_at}
use Rattle.law_stops.proofs.law_allowed.RowLemmas.{StaysLike, stays-like}
use Rattle.law_plans.specs.kr_model.Known.{known}
use Rattle.law_plans.specs.kr_model.Operation.{operation}
use Rattle.law_plans.specs.kr_model.Reply.{refuse}
use Rattle.law_plans.specs.kr_model.Seen.{WalkFails}
use Rattle.law_plans.specs.kr_model.State.{Image, State, image_layout}
use Rattle.law_plans.specs.kr_model.Walks.{seen}
use Rattle.law_stops.specs.kr_stops.Stopped.{Stopped, edited}
use Rattle.law_stops.specs.kr_turns.Target.{LooksUpOne}
use Rattle.law_plans.specs.pt_faker.Stopping.{after_request, memory_at}
use Rattle.law_plans.specs.pt_tracer.Planning.{answered, edit_for, rewritten, stack_at, texts_at}
use Rattle.law_plans.specs.pt_tracer.Watched.{Tracing, applied}
use Rattle.law_plans.specs.law_edits.Operations.{HasFirst}
use Rattle.law_plans.specs.law_edits.Requests.{NewText, with_swaps}
use Rattle.law_plans.specs.law_edits.Shelves.{CanSecondBePath, swap_edit}
use Rattle.law_plans.specs.law_edits.Stops.{CanBeSwapped}
use Rattle.law_plans.proofs.law_edits.OperationLemmas.{operations_are_same}
use Rattle.law_stops.specs.law_turns.Calls.{decoded_by}
use Rattle.law_stops.proofs.law_turns.CalledLemmas.{decoded_holds}
use Rattle.law_stops.proofs.law_turns.RuleLemmas.{no_exec}
use Rattle.law_plans.specs.Plans.{Cancelling, HasFirstOfTwo, IsEdit, IsNewIfAny, IsPassed, IsPlanned, IsSwapped, Passing, PlanAgrees, Swapping, shelved_texts}
use Rattle.law_plans.proofs.PlanLemmas as planning
use Rattle.law_plans.specs.Short.{IsShort, IsShortIfAny, IsShortPlan}
use Rattle.law_stops.specs.Scene.{Scene, at_first_stop, caller_here, caller_there}
use Rattle.law_stops.specs.Swapping.{IsPassedAlike, IsSwappedAlike}
use Rattle.law_stops.proofs.CallLemmas as before
use Rattle.law_stops.proofs.CallLemmas.{own_image}
use Rattle.law_stops.proofs.SwapLemmas as swap
use Rattle.law_stops.proofs.SwapLemmas.{passed_calls_go_together, swapped_calls_go_together}
use Rattle.law_paths.specs.Calls.{Cancelled, MadeAlike, Passed, Swapped}
use Rattle.law_paths.proofs.HereLemmas as here
use Rattle.law_paths.proofs.ShelfLemmas.{both_shelved, can_be_path, can_swap, one_shelved, shelf_then}
use Rattle.law_paths.proofs.ToldLemmas.{is_told, told_along}
use Rattle.law_paths.proofs.HereLemmas.{PathCall}

swap_is_no_pass : (sp : ℕ) (first : NewText) (second : Option NewText) → Pass ≡ swap_edit sp first second → ⊥
swap_is_no_pass sp first None e = cc
swap_is_no_pass sp first (Some second) e = cc

module _ {S : Type 0} {scene : Scene S} (path_call : PathCall scene) where
  open scene use {table, made, pid, traced as n}
  open path_call use {callers, request as r, reads, kind}
  open path_call.callers use {comes as c, also_caller as q, also_lives as also}

  abbrev pub at : State ℕ Image
  at = here.at path_call

  abbrev pub w2 : State ℕ Image
  w2 = here.w2 path_call

  abbrev x : Tracing
  x = n.watcher

  abbrev stop : Stopped
  stop = before.stop callers

  abbrev pub then_stop : Stopped
  then_stop = before.then_stop callers

  abbrev pub first_edit : Edit
  first_edit = edit_for (texts_at x.bindings x.tags (at_first_stop scene)) (at_first_stop scene) r

  module _ (u : PathUse) (path : path_at r 0 ≡ Some u) (first_of_two : HasFirstOfTwo r) (unlinked : link_answer (here.texts path_call) pid r ≡ None)
      (unanswered : answered (here.texts path_call) then_stop r ≡ None) where
    pub is_planned : IsPlanned table x.tags at w2 pid r
    is_planned = record {
      kind = no_exec r kind;
      together = here.together path_call;
      links = here.have_texts path_call;
      texts = here.text_paths path_call;
      first = first_of_two;
      unanswered = unlinked;
      within = here.within path_call;
    }

    -- the edit is that of the plan
    edit_at : (edit : ℕ → Bool → Edit) → IsEdit table x.tags at w2 pid r edit → first_edit ≡ edit (stack_at then_stop) true
    edit_at edit is =
        let texts = here.texts path_call in
        here.edit_is path_call
        ∙ ap (λ o. unwrap_or o (rewritten texts then_stop r)) unanswered
        ∙ ap (λ usable. edit_of texts pid (stack_at then_stop) usable r) (shelf_then path_call 0 u path)
        ∙ is (stack_at then_stop) true

    -- ---- a call that passes

    stays : StaysLike q.image.memory.pages (decoded_by q).memory.pages
    stays = let own = c.also_lasts.lawful.processes pid q also in stays-like (decoding q.image.regs) q.image.memory own.whole own.paged

    module _ (edit : IsEdit table x.tags at w2 pid r (λ sp usable. Pass)) (passed : IsPassed table at w2 pid r) where
      passes : first_edit ≡ Pass
      passes = edit_at (λ sp usable. Pass) edit

      left_so : (applied (edit_for (texts_at x.bindings x.tags (after_request stop)) (after_request stop) r) (after_request stop)).stopped ≡ edited q.image.regs (decoded_by q).memory stop
      left_so =
          ap (λ edit. (applied edit (after_request stop)).stopped) (ap (λ t. edit_for (texts_at x.bindings x.tags (after_request t)) (after_request t) r) (sym (before.calling_is callers)) ∙ passes)
          ∙ ap (λ (image : Image). edited image.regs (carried_out (decoding image.regs) image.memory).memory stop) (own_image pid n.state q also)

      passed_alike : IsPassedAlike scene r
      passed_alike = record {
        told = told_along path_call r q.image.regs (decoded_by q).memory stays (decoded_holds plain made pid n.state q (before.can_too callers)) left_so
            (ap (λ seen. operation pid r seen (known image_layout pid at)) passed.told) (inl passed.mounts) (λ _. passed.told);
        passes = passes;
      }

    -- ---- a call of which texts are swapped

    module _ (back : TextsAreReadBack) (shelves : ShelvesHoldTheirItems) (first : NewText) (second : Option NewText) (edit : IsEdit table x.tags at w2 pid r (shelved_texts table x.tags at w2 pid r first second)) (swapped : IsSwapped table at w2 pid r first second)
        (short : IsShort first × IsShortIfAny second) where
      shelved : (second : Option NewText) → IsShortIfAny second → shelved_texts table x.tags at w2 pid r first second (stack_at then_stop) true ≡ swap_edit (stack_at then_stop) first second
      shelved None few = one_shelved (stack_at then_stop) first short.0
      shelved (Some second) few = both_shelved (stack_at then_stop) first second short.0 few

      swaps_then : first_edit ≡ swap_edit (stack_at then_stop) first second
      swaps_then = edit_at (shelved_texts table x.tags at w2 pid r first second) edit ∙ shelved second short.1

      swaps : first_edit ≡ swap_edit (stack_at (at_first_stop scene)) first second
      swaps = swaps_then ∙ ap (λ t. swap_edit (stack_at t) first second) (sym (here.stop_is path_call))

      second_path : (second : Option NewText) → IsNewIfAny table at w2 pid r second → IsShortIfAny second → CanSecondBePath second
      second_path None is few = tt
      second_path (Some second) is few = can_be_path second is few

      can : CanBeSwapped (caller_there scene) (memory_at (caller_here scene)) r first second
      can = can_swap path_call 0 u path first second swapped.paths (can_be_path first swapped.one short.0) (second_path second swapped.two short.1)

      -- an empty path is never swapped
      has_first : HasFirst r
      has_first v path none =
          let texts = here.texts path_call in
          swap_is_no_pass (stack_at then_stop) first second
          (sym (planning.edit_is table x.tags at pid r v path (stack_at then_stop) true (Ok None) (ap (walked_along texts pid (opens r) v) none)) ∙ edit (stack_at then_stop) true ∙ shelved second short.1)

      swapped_alike : IsSwappedAlike scene r first second
      swapped_alike = record {
        told = told_along path_call (with_swaps first second r) (swap.regs3 back shelves callers r first second can swaps) (swap.memory3 back shelves callers r first second can swaps)
            (swap.swap_stays back shelves callers r first second can swaps) (swap.swap_bytes back shelves callers r first second can swaps (is_told r kind))
            (swap.swap_left back shelves callers r first second can swaps)
            (swapped.told ∙ sym (operations_are_same pid r first second (seen plain pid w2 (with_swaps first second r)) (known image_layout pid at) (no_exec r kind) has_first (can_be_path first swapped.one short.0).some)) swapped.mounts swapped.looked;
        swaps = swaps;
        can = can;
      }

    -- ---- whatever the plan is

    pub planned_alike : TextsAreReadBack → ShelvesHoldTheirItems → (plan : PlanAgrees table x.tags at w2 pid r) → IsShortPlan table x.tags at w2 pid r plan → MadeAlike scene r
    planned_alike back shelves (Passing edit passed) short = Passed (passed_alike edit passed)
    planned_alike back shelves (Swapping first second edit swapped) short = Swapped first second (swapped_alike back shelves first second edit swapped short)
    planned_alike back shelves (Cancelling e edit refuses lost) short =
        Cancelled e
        (record {
          decoded = reads;
          kind = no_exec r kind;
          cancels = edit_at (λ sp usable. Cancel e) edit;
          refuses = subst (λ t. operation pid r (seen table pid t r) (known image_layout pid t) ≡ refuse e) (sym (before.at_call_is callers)) refuses;
          lost = subst (λ t. LooksUpOne (line r).told → (f : Errno) × (seen table pid t r ≡ WalkFails f)) (sym (before.at_call_is callers)) lost;
        })
