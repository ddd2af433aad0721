-- Calls along paths, with their stops, where an identity is told.
use Rattle.std.proofs.Common.{◌≡◌, ℕ, Bool, true, List, Option, Some, None, Ok, Err, refl, sym, ap, subst, ◌∙◌}
use Rattle.law_turns.specs.pr_base.declared.errno.Errno.{Errno}
use Rattle.law_edits.specs.pt_ident.Identity.{Identity, effect}
use Rattle.law_edits.specs.pt_ident.IdentityTable.{identity_at}
use Rattle.law_edits.specs.kr_view.View.{Row}
use Rattle.law_turns.specs.kr_calls.Decoding.{Decoded}
use Rattle.law_turns.specs.kr_calls.declared.request.Request.{Request}
use Rattle.law_turns.specs.kr_calls.declared.request.Request.TheVariants as call
use Rattle.law_edits.specs.kr_model.Known.{known}
use Rattle.law_edits.specs.kr_model.State.{Image, Process, State, image_layout, process}
use Rattle.law_edits.specs.kr_model.Walks.{seen}
use Rattle.law_turns.specs.kr_seen.Carrying.{memory_of}
use Rattle.law_turns.specs.kr_turns.PlainCall.{Came, child_of, end_of, plain_call}
use Rattle.law_turns.specs.kr_stops.Stopped.{Stopped}
use Rattle.law_turns.specs.kr_turns.Turn.{called}
use Rattle.law_turns.proofs.kr_turns.PlainLemmas.{no-exec-requested}
use Rattle.law_turns.specs.law_kept.ImagePaths.{is_told_of_paths}
use Rattle.law_turns.proofs.law_kept.ImageCallLemmas.{path_calls_answer}
use Rattle.law_edits.specs.pt_faker.Faking.{Faking, due_of, is_root}
use Rattle.law_edits.specs.pt_faker.Stopping.{decoded_at}
use Rattle.law_turns.specs.Calls.{decoded_by, decoded_in}
use Rattle.law_turns.proofs.CallLemmas.{by_request}
use Rattle.law_stops.proofs.CallLemmas as before
use Rattle.law_stops.proofs.CallerLemmas.{FakedCallers, faked_callers_of, untold_callers}
use Rattle.law_stops.proofs.CarryLemmas.{bears_none, no_exec_told}
use Rattle.law_stops.specs.Along.{GoesAlongUntold, IsAlongPaths, JustAnswers, PathCallsGoTogether, PathCallsJustAnswer}
use Rattle.law_stops.specs.Calls.{GoesUntold}
use Rattle.law_stops.specs.Editing.{IsEditedAlike}
use Rattle.law_stops.specs.Going.{untold}
use Rattle.law_stops.specs.Reading.{RootIsKnown, TargetIsKnown}
use Rattle.law_stops.specs.Scene.{IsCalm, Scene, asked, at_root_there, came_here, came_there}
use Rattle.law_stops.proofs.EntryLemmas as entry
use Rattle.law_stops.proofs.KernelLemmas.{kernels_calls_go_together}
use Rattle.law_stops.proofs.ReadLemmas.{edits_read_unmarked}

-- ---- both kernels answer

module _ (rows : List Row) (pid : ℕ) (s : State ℕ Image) (p : Process ℕ Image) (lives : process pid s ≡ Some p) where
  refused_answers : (e : Errno) → (decoded_by p).reply ≡ Err e → JustAnswers (plain_call rows pid s)
  refused_answers e is = subst JustAnswers (sym (by_request rows pid rows s p (Err e) lives is)) (record { ends = refl; alone = refl })

  told_answers : (r : Request) → (decoded_by p).reply ≡ Ok r → is_told_of_paths r ≡ true → JustAnswers (plain_call rows pid s)
  told_answers r is told =
      let at = decoded_in pid p s in
      let answers = path_calls_answer pid r (seen rows pid at r) (known image_layout pid at) (memory_of pid at) told in
      subst JustAnswers (sym (by_request rows pid rows s p (Ok r) lives is ∙ sym (no-exec-requested rows pid at r (no_exec_told r told))))
      (record { ends = ap (end_of r) answers.1; alone = ap (child_of at.next_pid r) answers.1 ∙ bears_none at.next_pid r answers.0 told })

  answers_by : (reply : Decoded) → (decoded_by p).reply ≡ reply → IsAlongPaths reply → JustAnswers (plain_call rows pid s)
  answers_by (Ok r) is along = told_answers r is along
  answers_by (Err e) is along = refused_answers e is

pub path_calls_just_answer : PathCallsJustAnswer
path_calls_just_answer rows pid s p lives along = answers_by rows pid s p lives (decoded_by p).reply refl along

-- ---- the whole call

-- none of them is one on users and groups
told_none : (i : Identity) (r : Request) → is_told_of_paths r ≡ true → effect i r ≡ None
told_none i call.Getuid told = absurd cc
told_none i call.Geteuid told = absurd cc
told_none i call.Getgid told = absurd cc
told_none i call.Getegid told = absurd cc
told_none i (call.Getresuid ruid euid suid) told = absurd cc
told_none i (call.Getresgid rgid egid sgid) told = absurd cc
told_none i (call.Setuid uid) told = absurd cc
told_none i (call.Setgid gid) told = absurd cc
told_none i (call.Setreuid ruid euid) told = absurd cc
told_none i (call.Setregid rgid egid) told = absurd cc
told_none i (call.Setresuid ruid euid suid) told = absurd cc
told_none i (call.Setresgid rgid egid sgid) told = absurd cc
told_none i (call.Getgroups size list) told = absurd cc
told_none i (call.Setgroups size list) told = absurd cc
told_none i _ told = refl

module _ {scene : Scene Faking} (callers : FakedCallers scene) (r : Request) (decoded : asked scene ≡ Ok r) (told : is_told_of_paths r ≡ true) (unwatched_calm : IsCalm scene) (goes : GoesAlongUntold scene r) where
  open scene use {table, made, pid, mounted as m}
  open callers use {comes as c, caller as p, lives}

  abbrev s1 : State ℕ Image
  s1 = entry.s1 callers

  abbrev p1 : Process ℕ Image
  p1 = entry.p1 callers

  reads : (decoded_by p1).reply ≡ Ok r
  reads = sym (entry.decoded_first callers) ∙ sym (ap (λ t. (decoded_at t).reply) (entry.calling_is callers)) ∙ decoded

  came_is : came_here scene ≡ plain_call table pid s1
  came_is = ap (λ (t : Stopped). plain_call table pid t.state) (entry.calling_is callers)

  here : JustAnswers (came_here scene)
  here = subst JustAnswers (sym came_is) (told_answers table pid s1 p1 (entry.lives1 callers) r reads told)

  abbrev at_root : Bool
  at_root = at_root_there scene r

  abbrev target : Option ℕ
  target = (came_there (untold scene)).handed.target

  goes_untold : GoesUntold scene r
  goes_untold = record {
    ends = here.ends ∙ sym goes.answers.ends;
    children = here.alone ∙ sym goes.answers.alone;
    edit =
        subst (λ (came : Came). IsEditedAlike m.watcher (called pid came) at_root target (due_of (is_root m.watcher) r)) (sym came_is)
        (edits_read_unmarked table made pid (entry.lacks callers) at_root target s1 p1 m.watcher r (entry.can callers)
        (record { bytes = (entry.can callers).holds; registers = (c.sized pid p lives).registers }) reads (no_exec_told r told)
        (before.calm_call (untold_callers callers) unwatched_calm)
        (subst (λ (came : Came). RootIsKnown r came at_root) came_is goes.root) (subst (λ (came : Came). TargetIsKnown r came target) came_is goes.target));
    together = goes.together;
  }

pub path_calls_go_together : PathCallsGoTogether
path_calls_go_together scene r comes decoded told goes calm =
    kernels_calls_go_together scene r comes (record { decoded = decoded; kind = no_exec_told r told; none = told_none (identity_at scene.mounted.watcher.identities scene.pid) r told })
    (λ unwatched_calm. goes_untold (faked_callers_of comes) r decoded told unwatched_calm (goes unwatched_calm)) calm
