-- A call along paths that the tracer answers itself, where the kernel with mounts answers and writes the same.
use Rattle.std.proofs.Common.{◌≡◌, ℕ, false, [], Some, sym, ap, subst, ◌∙◌, ℤ}
use Rattle.std.specs.Option.{unwrap_or}
use Rattle.law_plans.specs.rv_mem.Actions.{AreEqualUnmarked}
use Rattle.law_plans.specs.rv_mem.Memory.{Memory}
use Rattle.law_stops.specs.pt_args.declared.edit.Edit.{Edit}
use Rattle.law_stops.specs.pt_results.Notes.{noted, tags_after}
use Rattle.law_stops.specs.kr_calls.CallTable.{line}
use Rattle.law_plans.specs.kr_seen.Carrying.{memory_of}
use Rattle.law_plans.specs.kr_model.State.{Image, Process, State, process}
use Rattle.law_plans.specs.kr_model.Walks.{seen}
use Rattle.law_plans.specs.kr_model.declared.outcome.Outcome.TheVariants.{Answer}
use Rattle.law_stops.specs.kr_stops.Stopped.{IsThere, Stopped, nothing_handed}
use Rattle.law_stops.specs.kr_turns.Target.{LooksUpOne}
use Rattle.law_stops.proofs.kr_stops.EditLemmas.{there as is_there}
use Rattle.law_plans.specs.pt_faker.Stopping.{memory_at}
use Rattle.law_plans.specs.pt_tracer.Planning.{answered, edit_for, led_of, rewritten, texts_at}
use Rattle.law_plans.specs.pt_tracer.Watched.{Tracing, applied}
use Rattle.law_plans.proofs.law_places.MatchLemmas.{tagged_places_are_placed}
use Rattle.law_stops.specs.law_turns.Operating.{done_in}
use Rattle.law_stops.proofs.law_turns.CalledLemmas.{decoded_lives, decoded_memory, decoded_process}
use Rattle.law_plans.specs.law_edits.Answers.{AreAnsweredAlike, CanBeTold, IsIn}
use Rattle.law_stops.specs.Answering.{IsAnsweredAlike}
use Rattle.law_stops.specs.Noting.{told_answer}
use Rattle.law_stops.specs.Scene.{Scene, at_first_stop}
use Rattle.law_stops.proofs.CallLemmas as before
use Rattle.law_stops.proofs.CallLemmas.{own_image}
use Rattle.law_paths.proofs.HereLemmas as here
use Rattle.law_paths.proofs.ToldLemmas.{is_told}
use Rattle.law_paths.proofs.HereLemmas.{PathCall}

module _ {S : Type 0} {scene : Scene S} (path_call : PathCall scene) where
  open scene use {table, made, pid, traced as n}
  open path_call use {callers, request as r, reads, kind}

  abbrev at : State ℕ Image
  at = here.at path_call

  abbrev x : Tracing
  x = n.watcher

  abbrev then_stop : Stopped
  then_stop = before.then_stop callers

  -- ---- what such answers rest on

  pub told : CanBeTold table at x.tags
  told =
      let both = here.match_at path_call in
      record { settled = both.placed.settled; small = (here.together path_call).small; placed = tagged_places_are_placed table at x.tags both.placed both.tagged }

  abbrev pub caller : Process ℕ Image
  caller = decoded_process table made pid (before.s1 callers) (before.p1 callers) (here.mine path_call)

  pub in_directory : IsIn at pid caller
  in_directory =
      let lives_at = decoded_lives table made pid (before.s1 callers) (before.p1 callers) (here.mine path_call) in
      record { lives = lives_at; directory = ((here.match_at path_call).placed.lawful.processes pid caller lives_at).cwd.1 }

  abbrev q2 : Process ℕ Image
  q2 = before.q2 callers

  also_then : process pid then_stop.state ≡ Some q2
  also_then = (before.can_then callers).lives

  pub stop_there : IsThere then_stop
  stop_there = is_there then_stop.state pid nothing_handed q2 (before.can_then callers).lasts.lawful.pids also_then

  pub memories : AreEqualUnmarked (memory_of pid at).pages (memory_at then_stop).pages
  memories =
      let one = decoded_memory table made pid (before.s1 callers) (before.p1 callers) (here.mine path_call) in
      subst (λ (memory : Memory). AreEqualUnmarked memory.pages (memory_at then_stop).pages) (sym one)
      (subst (λ (image : Image). AreEqualUnmarked caller.image.memory.pages image.memory.pages) (sym (own_image pid then_stop.state q2 also_then))
      ((here.match_at path_call).images.memories pid caller q2 in_directory.lives also_then))

  -- ---- so the call is answered on both

  module _ (edit : Edit) (is : answered (here.texts path_call) then_stop r ≡ Some edit) (alike : AreAnsweredAlike (done_in pid r (seen table pid at r) at) (applied edit then_stop))
      (silent : (index : ℕ) (value : ℤ) → tags_after x.tags pid (noted r index (told_answer value)) ≡ x.tags) (apart : LooksUpOne (line r).told → ⊥) where
    edit_is : edit_for (texts_at x.bindings x.tags (at_first_stop scene)) (at_first_stop scene) r ≡ edit
    edit_is =
        let texts = here.texts path_call in
        here.edit_is path_call ∙ ap (λ o. unwrap_or o (rewritten texts then_stop r)) is

    kept_is : applied (edit_for (texts_at x.bindings x.tags (at_first_stop scene)) (at_first_stop scene) r) (at_first_stop scene) ≡ applied edit then_stop
    kept_is = ap (λ edit. applied edit (at_first_stop scene)) edit_is ∙ ap (applied edit) (here.stop_is path_call)

    pub answered_alike : IsAnsweredAlike scene r alike.answer
    answered_alike =
        let here_is = sym (before.at_call_is callers) in
        record {
          decoded = reads;
          kind = is_told r kind;
          apart = apart;
          answers = ap (λ kept. kept.answer) kept_is ∙ alike.told;
          replies = subst (λ t. (done_in pid r (seen table pid t r) t).reply ≡ record { outcome = Answer alike.answer; changes = [] }) here_is alike.carried;
          alike = subst (λ t. AreEqualUnmarked (done_in pid r (seen table pid t r) t).memory.pages (memory_at (applied (edit_for (texts_at x.bindings x.tags (at_first_stop scene)) (at_first_stop scene) r) (at_first_stop scene)).stopped).pages) here_is
              (subst (λ kept. AreEqualUnmarked (done_in pid r (seen table pid at r) at).memory.pages (memory_at kept.stopped).pages) (sym kept_is) alike.memories);
          silent = silent (led_of (texts_at x.bindings x.tags (at_first_stop scene)) pid r).index alike.answer;
        }
