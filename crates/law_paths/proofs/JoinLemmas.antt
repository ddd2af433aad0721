-- Calls along paths, whatever the tracer makes of them.
use Rattle.std.proofs.Common.{◌≡◌, ℕ, Bool, true, false, List, Option, Some, None, Ok, refl, sym, ap, subst, ◌∙◌, ℤ, pos}
use Rattle.law_plans.specs.pr_base.declared.path.WalkMode.TheVariants.{LookLink}
use Rattle.law_stops.specs.pt_args.Laws.{ShelvesHoldTheirItems, TextsAreReadBack}
use Rattle.law_stops.specs.pt_args.declared.edit.Edit.{Edit}
use Rattle.law_stops.specs.pt_results.Answers.{cwd_answer, link_answer}
use Rattle.law_stops.specs.kr_calls.CallTable.{Told, ToldNothing, NamesHere, line, paths_of}
use Rattle.law_stops.specs.kr_calls.PathTable.{PathUse, path_at, path_from}
use Rattle.law_stops.specs.kr_calls.declared.request.Request.{Request}
use Rattle.law_stops.specs.kr_calls.declared.request.Request.TheVariants as call
use Rattle.law_plans.specs.kr_seen.Carrying.{memory_of}
use Rattle.law_plans.specs.pt_tracer.Planning.{answered}
use Rattle.law_stops.specs.law_turns.PathCalls.{HasPath, TellsPath}
use Rattle.law_plans.proofs.law_edits.CwdLemmas.{cwds_are_answered_alike}
use Rattle.law_stops.specs.Scene.{IsCalm, Scene, asked}
use Rattle.law_stops.specs.Turning.{StayTogether}
use Rattle.law_stops.proofs.AnsweredLemmas.{cancelled_calls_go_together}
use Rattle.law_stops.proofs.CallerLemmas.{Callers, callers_of}
use Rattle.law_stops.proofs.EmulateLemmas.{answered_calls_go_together}
use Rattle.law_stops.proofs.SwapLemmas.{passed_calls_go_together, swapped_calls_go_together}
use Rattle.law_paths.specs.Calls.{Answered, Cancelled, MadeAlike, Passed, PathCallsAreMadeAlike, PathCallsGoTogether, Swapped}
use Rattle.law_paths.proofs.AnswerLemmas.{answered_alike, in_directory, memories, stop_there, told}
use Rattle.law_paths.proofs.AnswerLemmas as answer
use Rattle.law_paths.proofs.HereLemmas.{PathCall}
use Rattle.law_paths.proofs.HereLemmas as here
use Rattle.law_paths.proofs.PlanLemmas.{is_planned, planned_alike, then_stop}
use Rattle.law_plans.proofs.DecodedLemmas.{counts_are_decoded, first_of_two_is_decoded}
use Rattle.law_plans.proofs.LinkLemmas.{links_are_answered_alike}
use Rattle.law_plans.proofs.EditLemmas.{plans_are_short}

-- a call that is told of a path, and not of a name alone, has a first one
abbrev names_here : Told → Bool
names_here NamesHere = true
names_here _ = false

has_first : (t : Told) → TellsPath t → names_here t ≡ false → path_from 0 (paths_of t) 0 ≡ None → ⊥
has_first ToldNothing kind other none = kind
has_first NamesHere kind other none = cc
has_first _ kind other none = cc

module _ {S : Type 0} {scene : Scene S} (back : TextsAreReadBack) (shelves : ShelvesHoldTheirItems) (callers : Callers scene) (calm : IsCalm scene) where
  open scene use {table, pid, traced as n}

  abbrev Made : Request → Type 0
  Made r = MadeAlike scene r

  abbrev Reads : Request → Type 0
  Reads r = asked scene ≡ Ok r

  abbrev path_call : (r : Request) → Reads r → HasPath r → PathCall scene
  path_call r reads kind = record { callers = callers; request = r; calm = calm; reads = reads; kind = kind }

  -- ---- by the plan of its paths

  along : (r : Request) (reads : Reads r) (kind : HasPath r) (u : PathUse) → path_at r 0 ≡ Some u → link_answer (here.texts (path_call r reads kind)) pid r ≡ None
      → answered (here.texts (path_call r reads kind)) (then_stop (path_call r reads kind)) r ≡ None → Made r
  along r reads kind u path unlinked unanswered =
      let p1 = here.p1 (path_call r reads kind) in
      let first = first_of_two_is_decoded p1.image.regs p1.image.memory r (here.reads_by (path_call r reads kind)) in
      let short =
      plans_are_short table n.watcher.tags (here.at (path_call r reads kind)) (here.w2 (path_call r reads kind)) pid r u
      (is_planned (path_call r reads kind) u path first unlinked unanswered) path (here.short (path_call r reads kind)) in
      planned_alike (path_call r reads kind) u path first unlinked unanswered back shelves short.0 short.1

  -- the same of a call that is told of a path, which has a first one
  along_first : (r : Request) (reads : Reads r) (kind : HasPath r) → TellsPath (line r).told → names_here (line r).told ≡ false → link_answer (here.texts (path_call r reads kind)) pid r ≡ None
      → answered (here.texts (path_call r reads kind)) (then_stop (path_call r reads kind)) r ≡ None → (o : Option PathUse) → path_at r 0 ≡ o → Made r
  along_first r reads kind tells named unlinked unanswered (Some u) path = along r reads kind u path unlinked unanswered
  along_first r reads kind tells named unlinked unanswered None none = absurd (has_first (line r).told tells named none)

  -- ---- answered by the tracer

  getcwd : (buf size : ℕ) → Reads (call.Getcwd buf size) → Made (call.Getcwd buf size)
  getcwd buf size reads =
      let r = call.Getcwd buf size in
      let at = here.at (path_call r reads tt) in
      let stop = then_stop (path_call r reads tt) in
      Answered _ (answered_alike (path_call r reads tt) (cwd_answer (here.texts (path_call r reads tt)) pid size buf) refl
      (cwds_are_answered_alike table at n.watcher.tags pid (answer.caller (path_call r reads tt)) (memory_of pid at) stop buf size (told (path_call r reads tt))
      (in_directory (path_call r reads tt)) (stop_there (path_call r reads tt)) (memories (path_call r reads tt))) (λ index value. refl) (λ looks. looks))

  link_read : (dirfd : ℤ) (path : List ℕ) (buf count : ℕ) → Reads (call.Readlinkat dirfd path buf (pos count)) → Made (call.Readlinkat dirfd path buf (pos count))
  link_read dirfd path buf count reads =
      let r = call.Readlinkat dirfd path buf (pos count) in
      by (link_answer (here.texts (path_call r reads tt)) pid r) refl
    where
      by : (o : Option Edit) → link_answer (here.texts (path_call (call.Readlinkat dirfd path buf (pos count)) reads tt)) pid (call.Readlinkat dirfd path buf (pos count)) ≡ o → Made (call.Readlinkat dirfd path buf (pos count))
      by None is = along (call.Readlinkat dirfd path buf (pos count)) reads tt (record { dirfd = dirfd; text = path; mode = LookLink; register = 11 }) refl is is
      by (Some edit) is =
          let r = call.Readlinkat dirfd path buf (pos count) in
          let at = here.at (path_call r reads tt) in
          Answered _ (answered_alike (path_call r reads tt) edit is
          (links_are_answered_alike table n.watcher.tags at _ pid (memory_of pid at) (then_stop (path_call r reads tt)) dirfd path buf count edit (here.together (path_call r reads tt))
          (stop_there (path_call r reads tt)) (memories (path_call r reads tt)) is) (λ index value. refl) (λ looks. looks))

  -- its size is a positive number, as decoding gives it
  readlinkat : (dirfd : ℤ) (path : List ℕ) (buf : ℕ) (size : ℤ) → Reads (call.Readlinkat dirfd path buf size) → Made (call.Readlinkat dirfd path buf size)
  readlinkat dirfd path buf size reads =
      let r = call.Readlinkat dirfd path buf size in
      let p1 = here.p1 (path_call r reads tt) in
      let count = counts_are_decoded p1.image.regs p1.image.memory r (here.reads_by (path_call r reads tt)) in
      subst (λ size. Made (call.Readlinkat dirfd path buf size)) (sym count.1) (link_read dirfd path buf count.0 (reads ∙ ap (λ size. Ok (call.Readlinkat dirfd path buf size)) count.1))

  -- ---- each call

  each : (r : Request) → Reads r → HasPath r → Made r
  each (call.Readlinkat dirfd path buf size) reads kind = readlinkat dirfd path buf size reads
  each (call.Getcwd buf size) reads kind = getcwd buf size reads
  each (call.Execve path args env) reads kind = absurd kind
  each r reads kind = along_first r reads kind kind refl refl refl (path_at r 0) refl

pub path_calls_are_made_alike : TextsAreReadBack → ShelvesHoldTheirItems → (S : Type 0) → PathCallsAreMadeAlike S
path_calls_are_made_alike back shelves S scene r comes reads kind calm = each back shelves (callers_of comes) calm r reads kind

pub path_calls_go_together : TextsAreReadBack → ShelvesHoldTheirItems → (S : Type 0) → PathCallsGoTogether S
path_calls_go_together back shelves S scene r comes reads kind calm = by (path_calls_are_made_alike back shelves S scene r comes reads kind calm)
  where
    by : MadeAlike scene r → StayTogether scene
    by (Passed alike) = passed_calls_go_together S scene r comes alike calm
    by (Swapped first second alike) = swapped_calls_go_together back shelves S scene r first second comes alike calm
    by (Cancelled e alike) = cancelled_calls_go_together S scene r e comes alike calm
    by (Answered answer alike) = answered_calls_go_together S scene r answer comes alike calm
