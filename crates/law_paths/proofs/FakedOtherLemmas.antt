-- Calls along paths where an identity is told are those without one, and so each call but execve(2) keeps both machines together.
use Rattle.std.proofs.Common.{◌≡◌, ℕ, true, false, List, Ok, refl, sym, ap, ◌∙◌}
use Rattle.law_plans.specs.pr_base.declared.path.WalkMode.TheVariants.{Look}
use Rattle.law_stops.specs.pt_args.Laws.{ShelvesHoldTheirItems, TextsAreReadBack}
use Rattle.law_stops.specs.kr_calls.CallTable.{Told, ToldNothing, line}
use Rattle.law_stops.specs.kr_calls.PathTable.{PathUse, working_directory}
use Rattle.law_stops.specs.kr_calls.declared.request.Request.{Request}
use Rattle.law_stops.specs.kr_calls.declared.request.Request.TheVariants as call
use Rattle.law_stops.specs.kr_turns.PlainCall.{Came, operated, plain_call}
use Rattle.law_stops.proofs.kr_turns.PlainLemmas.{no-exec-requested}
use Rattle.law_plans.specs.pt_faker.Faking.{Faking}
use Rattle.law_plans.specs.pt_tracer.Planning.{led_of, texts_at}
use Rattle.law_plans.specs.pt_tracer.Watched as watched
use Rattle.law_stops.specs.law_kept.ImagePaths.{is_told_of_paths, tells_paths}
use Rattle.law_stops.proofs.law_turns.CallLemmas.{by_request}
use Rattle.law_stops.specs.law_turns.PathCalls.{HasPath, TellsPath}
use Rattle.law_stops.proofs.law_turns.RuleLemmas.{no_exec}
use Rattle.law_stops.proofs.CallLemmas as before
use Rattle.law_paths.specs.Calls.{Answered, Cancelled, MadeAlike, Passed, Swapped, asks_no_execve, executes_nothing}
use Rattle.law_paths.proofs.HereLemmas as here
use Rattle.law_paths.proofs.JoinLemmas.{path_calls_are_made_alike}
use Rattle.law_stops.specs.Along.{GoesAlongUntold}
use Rattle.law_stops.specs.Going.{ComeToFakedCall, GoesTogether, untold}
use Rattle.law_stops.specs.Kinds.{RootIsKnownAt}
use Rattle.law_stops.specs.Scene.{IsCalm, Scene, asked, came_here}
use Rattle.law_stops.proofs.AlongLemmas.{path_calls_go_together}
use Rattle.law_stops.proofs.CallerLemmas.{FakedCallers, comes_untold, faked_callers_of, untold_callers}
use Rattle.law_stops.proofs.KindLemmas.{UntoldGoes, answers_untold, errors_untold, passes_untold, swaps_untold}
use Rattle.law_stops.proofs.WholeLemmas.{all_calls_go_together}
use Rattle.law_paths.specs.FakedCalls.{OtherFakedCallsGoTogether}
use Rattle.law_paths.proofs.RootLemmas.{root_known}
use Rattle.law_paths.proofs.HereLemmas.{PathCall}

tells_path : (t : Told) → tells_paths t ≡ true → TellsPath t
tells_path ToldNothing told = absurd cc
tells_path _ told = tt

has_path : (r : Request) → is_told_of_paths r ≡ true → HasPath r
has_path (call.Execve path args env) told = absurd cc
has_path r told = tells_path (line r).told told

module _ {scene : Scene Faking} (back : TextsAreReadBack) (shelves : ShelvesHoldTheirItems) (callers : FakedCallers scene) (calm : IsCalm scene) where
  open scene use {table, pid, traced as n}

  -- ---- without an identity

  untold_goes : (r : Request) → asked scene ≡ Ok r → is_told_of_paths r ≡ true → UntoldGoes scene r
  untold_goes r decoded told = by (path_calls_are_made_alike back shelves Faking (untold scene) r (comes_untold scene callers.comes) decoded (has_path r told) calm)
    where
      by : MadeAlike (untold scene) r → UntoldGoes scene r
      by (Passed alike) = passes_untold callers r calm alike
      by (Swapped first second alike) = swaps_untold callers r calm back shelves first second alike
      by (Cancelled e alike) = errors_untold callers r calm told e alike
      by (Answered answer alike) = answers_untold callers r calm answer alike

  -- ---- chroot(2)

  chroot_known : (path : List ℕ) → asked scene ≡ Ok (call.Chroot path) → RootIsKnownAt scene (call.Chroot path)
  chroot_known path decoded =
      let r = call.Chroot path in
      let here_untold = untold_callers callers in
      let path_call : PathCall (untold scene) = record { callers = untold_callers callers; request = call.Chroot path; calm = calm; reads = decoded; kind = tt } in
      let u : PathUse = record { dirfd = working_directory; text = path; mode = Look; register = 10 } in
      let at = here.at path_call in
      let s1 = before.s1 here_untold in
      let p1 = before.p1 here_untold in
      let reads = here.reads_by path_call in
      let came : came_here scene ≡ operated table pid r at =
      ap (plain_call table pid) (before.shelf here_untold)
      ∙ by_request table pid table s1 p1 (Ok r) (before.lives1 here_untold) reads ∙ sym (no-exec-requested table pid at r (no_exec r tt)) in
      ap (λ (came : Came). came.handed.at_root) came
      ∙ root_known table n.watcher.tags at (here.w2 path_call) pid u false (here.together path_call) r refl refl refl
      ∙ sym (ap (λ t. (led_of (texts_at n.watcher.bindings n.watcher.tags t) pid r).at_root) (here.stop_is path_call)
      ∙ ap (λ texts. (led_of texts pid r).at_root) (here.texts_are path_call))

  known : (r : Request) → asked scene ≡ Ok r → RootIsKnownAt scene r
  known (call.Chroot path) decoded = chroot_known path decoded
  known _ decoded = tt

  goes : (r : Request) → asked scene ≡ Ok r → is_told_of_paths r ≡ true → GoesAlongUntold scene r
  goes r decoded told = let both = untold_goes r decoded told in record { answers = both.0; root = known r decoded; target = both.2; together = both.1 }

pub along : TextsAreReadBack → ShelvesHoldTheirItems → (scene : Scene Faking) (r : Request) → ComeToFakedCall scene → asked scene ≡ Ok r → is_told_of_paths r ≡ true → GoesTogether scene
along back shelves scene r comes decoded told = path_calls_go_together scene r comes decoded told (λ calm. goes back shelves (faked_callers_of comes) calm r decoded told)

-- execve(2) is none of these calls
no_program : (r : Request) → watched.is_execve r ≡ true → executes_nothing (Ok r) ≡ true → ⊥
no_program (call.Execve path args env) runs allowed = cc
no_program _ runs allowed = cc

pub other_faked_calls_go_together : TextsAreReadBack → ShelvesHoldTheirItems → OtherFakedCallsGoTogether
other_faked_calls_go_together back shelves table =
    all_calls_go_together asks_no_execve table
    (record {
      along = λ scene r over comes decoded told allowed. along back shelves scene r comes decoded told;
      programs = λ scene r over comes decoded runs allowed. absurd (no_program r runs (ap executes_nothing (sym decoded) ∙ allowed));
    })
