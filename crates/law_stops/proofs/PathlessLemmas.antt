-- A call without a path, or one that isn't decoded, with its stops, where an identity is told.
use Rattle.std.proofs.Common.{◌≡◌, ℕ, suc, Bool, Option, Some, None, Ok, Err, refl, sym, ap, subst, ◌∙◌}
use Rattle.law_turns.proofs.pr_base.MapLemmas.{get-remove_same}
use Rattle.law_turns.specs.pr_base.declared.errno.Errno.{Errno}
use Rattle.law_edits.specs.pt_ident.Identity.{Effect, effect}
use Rattle.law_edits.specs.pt_ident.IdentityTable.{identity_at}
use Rattle.law_edits.specs.kr_view.View.{plain}
use Rattle.law_turns.specs.kr_calls.Decoding.{Decoded}
use Rattle.law_turns.specs.kr_calls.declared.request.Request.{Request}
use Rattle.law_turns.specs.kr_calls.declared.request.Request.TheVariants as call
use Rattle.law_edits.specs.kr_model.Known.{known}
use Rattle.law_edits.specs.kr_model.State.{Image, Process, State, image_layout, process}
use Rattle.law_turns.specs.kr_steps.Calls.{LastsLawful}
use Rattle.law_turns.specs.kr_turns.Breaking.{plain_rule}
use Rattle.law_turns.specs.kr_turns.PlainCall.{Came, operated, plain_call, refusal_told}
use Rattle.law_turns.specs.kr_turns.Shelving.{lacks_in}
use Rattle.law_turns.specs.kr_turns.Target.{inode_instead, instead_of, target_of}
use Rattle.law_turns.specs.kr_stops.Stopped.{Stopped}
use Rattle.law_turns.specs.kr_turns.Turn.{Machine, Tally, after_exit, after_plain, called, calling, with_broken}
use Rattle.law_turns.specs.kr_stops.Watching.{unwatched}
use Rattle.law_turns.specs.kr_turns.declared.plain.CallEnd.TheVariants as end
use Rattle.law_turns.proofs.kr_turns.PlainLemmas.{no-exec-requested}
use Rattle.law_turns.specs.law_places.Matching.{IsMatch}
use Rattle.law_edits.specs.pt_faker.Faking.{Faking, after_decoding as faked_decoding, after_due, due_of, entered as faked_entry, faker, is_root, without_due}
use Rattle.law_edits.specs.pt_faker.Stopping.{after_request, decoded_at}
use Rattle.law_edits.specs.pt_tracer.Watched.{Tracing, after_decoding, after_pending, entered, exited, tracer, with_identities, without_pending}
use Rattle.law_turns.specs.Calls.{CameAlike, decoded_by, decoded_in, tags_behind}
use Rattle.law_turns.specs.Pathless.{IsPathless}
use Rattle.law_turns.proofs.CallLemmas.{by_request}
use Rattle.law_turns.proofs.PathlessLemmas.{no_exec, no_targets, pathless_calls_come_alike}
use Rattle.law_turns.proofs.PickLemmas.{same_known}
use Rattle.law_turns.proofs.RunLemmas.{decoded_alike}
use Rattle.law_turns.proofs.UnreadLemmas.{calm_unread}
use Rattle.law_stops.proofs.CallLemmas as before
use Rattle.law_stops.proofs.CallLemmas.{end_status, pathless_calls_go_together, unwatched_end}
use Rattle.law_stops.proofs.CallerLemmas.{FakedCallers, comes_untold, faked_callers_of, untold_callers}
use Rattle.law_stops.proofs.PassLemmas.{entries_pass}
use Rattle.law_stops.specs.Calls.{FakedCallsGoTogether, GoesUntold}
use Rattle.law_stops.specs.Editing.{IsEditedAlike}
use Rattle.law_stops.specs.Going.{ComeFromFakedCall, IsCalmFaked, StandAlike, StayTogetherFaked, faked_after, untold}
use Rattle.law_stops.specs.Reading.{RootIsKnown, TargetIsKnown}
use Rattle.law_stops.specs.Scene.{IsCalm, Scene, asked, at_root_there, caller_here, came_here, came_there, mounted_after, traced_after}
use Rattle.law_stops.specs.Turning.{ComeFromCall, HasNoPath, StayTogether}
use Rattle.law_stops.proofs.EntryLemmas as entry
use Rattle.law_stops.proofs.GoingLemmas.{ExitAlike, by_end}
use Rattle.law_stops.proofs.IdentityLemmas.{identity_calls_go_together}
use Rattle.law_stops.proofs.KernelLemmas.{kernels_calls_go_together}
use Rattle.law_stops.proofs.ReadLemmas.{edits_read_unmarked}

-- where the inodes are the same, they are known alike
known_target : (r : Request) (came : Came) (target : Option ℕ) → came.handed.target ≡ target → TargetIsKnown r came target
known_target (call.Fchown fd uid gid) came target same = same
known_target (call.Fchownat dirfd path uid gid flags) came target same = same
known_target (call.Fchmod fd mode) came target same = same
known_target (call.Fchmodat dirfd path mode) came target same = same
known_target _ came target same = tt

-- it is no chroot(2)
no_root : (r : Request) (came : Came) (at_root : Bool) → IsPathless r → RootIsKnown r came at_root
no_root (call.Chroot path) came at_root kind = absurd kind
no_root _ came at_root kind = tt

module _ {scene : Scene Faking} (callers : FakedCallers scene) where
  open scene use {table, made, pid, mounted as m, traced as n}
  open callers use {comes as c, caller as p, lives}

  abbrev f : Faking
  f = m.watcher

  abbrev x : Tracing
  x = n.watcher

  abbrev w : State ℕ Image
  w = n.state

  abbrev s1 : State ℕ Image
  s1 = entry.s1 callers

  abbrev p1 : Process ℕ Image
  p1 = entry.p1 callers

  abbrev stop : Stopped
  stop = before.stop (untold_callers callers)

  -- the plain machine behind decoding
  abbrev w2 : State ℕ Image
  w2 = before.w2 (untold_callers callers)

  abbrev q2 : Process ℕ Image
  q2 = before.q2 (untold_callers callers)

  abbrev then_stop : Stopped
  then_stop = before.then_stop (untold_callers callers)

  after_there : after_request stop ≡ then_stop
  after_there = before.after_there (untold_callers callers)

  stop_is : calling 0 pid w ≡ stop
  stop_is = before.calling_is (untold_callers callers)

  decoded_is : asked scene ≡ (decoded_by p1).reply
  decoded_is = ap (λ t. (decoded_at t).reply) (entry.calling_is callers) ∙ entry.decoded_first callers

  kind_here : HasNoPath (decoded_by p1).reply → HasNoPath (asked scene)
  kind_here kind = subst HasNoPath (sym decoded_is) kind

  module _ (unwatched_calm : IsCalm scene) where
    calm_call : plain_rule 1 table pid (entry.lacks callers) s1 ≡ None
    calm_call = before.calm_call (untold_callers callers) unwatched_calm

    reads_stop : (decoded_at stop).reply ≡ (decoded_by p1).reply
    reads_stop =
        before.decoded_there (untold_callers callers)
        ∙ sym (before.requests (untold_callers callers) unwatched_calm)

    together_untold : HasNoPath (decoded_by p1).reply → StayTogether (untold scene)
    together_untold kind = pathless_calls_go_together Faking (untold scene) (comes_untold scene c) (kind_here kind) unwatched_calm

    -- ---- a call without a path

    module _ (r : Request) (reads : (decoded_by p1).reply ≡ Ok r) (kind : IsPathless r) where
      alike : CameAlike table (tags_behind table pid s1 w2 p1 q2 x.tags r) (plain_call table pid s1) (plain_call plain pid w2)
      alike =
          pathless_calls_come_alike table made pid (entry.lacks callers) s1 w2 p1 q2 x.tags r
          (before.match2 (untold_callers callers))
          (entry.can callers) (before.can_then (untold_callers callers))
          reads kind calm_call

      came_here_is : came_here scene ≡ plain_call table pid s1
      came_here_is = ap (λ (t : Stopped). plain_call table pid t.state) (entry.calling_is callers)

      came_there_is : came_there (untold scene) ≡ plain_call plain pid w2
      came_there_is =
          ap (λ (t : Stopped). plain_call plain pid (entered (untold scene).traced.watcher t).1.state) stop_is
          ∙ ap (λ (e : Tracing × Stopped). plain_call plain pid e.1.state) (entries_pass (untold scene).traced.watcher stop r refl (reads_stop ∙ reads) kind)
          ∙ ap (λ (t : Stopped). plain_call plain pid t.state) after_there

      -- both know alike of which inode it sets an owner or a mode
      came_operated : plain_call table pid s1 ≡ operated table pid r (decoded_in pid p1 s1)
      came_operated =
          by_request table pid table s1 p1 (Ok r) (entry.lives1 callers) reads ∙ sym (no-exec-requested table pid (decoded_in pid p1 s1) r (no_exec r kind))

      reads_then : (decoded_by q2).reply ≡ Ok r
      reads_then = sym (before.requests_then (untold_callers callers) unwatched_calm) ∙ reads

      then_operated : plain_call plain pid w2 ≡ operated plain pid r (decoded_in pid q2 w2)
      then_operated =
          by_request table pid plain w2 q2 (Ok r) (before.can_then (untold_callers callers)).lives reads_then
          ∙ sym (no-exec-requested plain pid (decoded_in pid q2 w2) r (no_exec r kind))

      match_decoded : IsMatch table x.tags (decoded_in pid p1 s1) (decoded_in pid q2 w2)
      match_decoded =
          (decoded_alike table x.tags pid s1 w2 p1 q2 (before.match2 (untold_callers callers))
          (entry.lives1 callers) (before.can_then (untold_callers callers)).lives
          (calm_unread table pid (entry.lacks callers) s1 p1 (entry.lives1 callers) calm_call)).matches

      same_target : (plain_call table pid s1).handed.target ≡ (plain_call plain pid w2).handed.target
      same_target =
          ap (λ (came : Came). came.handed.target) came_operated
          ∙ ap (target_of r (known image_layout pid (decoded_in pid p1 s1))) (no_targets table pid (decoded_in pid p1 s1) r kind)
          ∙ ap (λ k. inode_instead k (instead_of r)) (same_known table x.tags (decoded_in pid p1 s1) (decoded_in pid q2 w2) match_decoded pid)
          ∙ sym (ap (target_of r (known image_layout pid (decoded_in pid q2 w2))) (no_targets plain pid (decoded_in pid q2 w2) r kind))
          ∙ sym (ap (λ (came : Came). came.handed.target) then_operated)

      goes_untold : GoesUntold scene r
      goes_untold = record {
        ends = ap (λ (came : Came). came.end) came_here_is ∙ alike.ends ∙ sym (ap (λ (came : Came). came.end) came_there_is);
        children = ap (λ (came : Came). came.child) came_here_is ∙ alike.children ∙ sym (ap (λ (came : Came). came.child) came_there_is);
        edit =
            let at_root = at_root_there scene r in
            let target = (came_there (untold scene)).handed.target in
            subst (λ (came : Came). IsEditedAlike f (called pid came) at_root target (due_of (is_root f) r)) (sym came_here_is)
            (edits_read_unmarked table made pid (entry.lacks callers) at_root target s1 p1 f r (entry.can callers) (record { bytes = (entry.can callers).holds; registers = (c.sized pid p lives).registers }) reads (no_exec r kind) calm_call
            (no_root r (plain_call table pid s1) at_root kind) (known_target r (plain_call table pid s1) target (same_target ∙ sym (ap (λ (came : Came). came.handed.target) came_there_is))));
        together = together_untold (subst HasNoPath (sym reads) kind);
      }

  -- ---- one that isn't decoded

  module _ (e : Errno) (reads : (decoded_by p1).reply ≡ Err e) (calm : IsCalmFaked scene) where
    abbrev f1 : Faking
    f1 = without_due pid f

    abbrev first : Stopped
    first = entry.first callers

    enters : faked_entry f (caller_here scene) ≡ (f1, entry.second callers)
    enters =
        ap (faked_entry f) (entry.calling_is callers)
        ∙ ap (faked_decoding f (after_request first)) (entry.decoded_first callers ∙ reads)
        ∙ ap (λ (t : Stopped). (f1, t)) (entry.after_first callers)

    calm_too : IsCalm scene
    calm_too = entry.unwatched_calm callers f1 enters calm

    abbrev came : Came
    came = refusal_told pid e (decoded_in pid p1 s1)

    abbrev came2 : Came
    came2 = refusal_told pid e (decoded_in pid q2 w2)

    abbrev judged : Tally
    judged = before.judged (untold_callers callers)

    came_is : plain_call table pid s1 ≡ came
    came_is = by_request table pid table s1 p1 (Err e) (entry.lives1 callers) reads

    came2_is : plain_call plain pid w2 ≡ came2
    came2_is =
        by_request table pid plain w2 q2 (Err e) (before.can_then (untold_callers callers)).lives
        (sym (before.requests_then (untold_callers callers) calm_too) ∙ reads)

    abbrev y : Tracing
    y = without_pending pid x

    enters_there : (z : Tracing) → entered z stop ≡ (without_pending pid z, then_stop)
    enters_there z = ap (after_decoding z (after_request stop)) (reads_stop calm_too ∙ reads) ∙ ap (λ (t : Stopped). (without_pending pid z, t)) after_there

    abbrev other : Tally
    other = with_broken (plain_rule 0 plain pid (lacks_in 0 pid w) w2) n.tally

    abbrev behind_entry : Tracing × Stopped → Machine Tracing
    behind_entry e = after_plain tracer pid (plain_call plain pid e.1.state) e.0 (with_broken (plain_rule 0 plain pid (lacks_in 0 pid w) e.1.state) n.tally)

    traced_call : (z : Tracing) → behind_entry (entered z (calling 0 pid w)) ≡ after_exit tracer (called pid came2) (without_pending pid z) other (process pid came2.state)
    traced_call z =
        ap (λ (t : Stopped). behind_entry (entered z t)) stop_is
        ∙ ap behind_entry (enters_there z)
        ∙ ap (λ came. after_plain tracer pid came (without_pending pid z) other) came2_is

    mounted_call : faked_after scene ≡ after_exit faker (called pid came) f1 judged (process pid came.state)
    mounted_call = entry.faked_call callers f1 enters calm ∙ ap (λ came. after_plain faker pid came f1 judged) came_is

    nothing_pending : (z : Tracing) → exited (without_pending pid z) (called pid came2) ≡ (without_pending pid (without_pending pid z), called pid came2)
    nothing_pending z = ap (after_pending (without_pending pid (without_pending pid z)) (called pid came2)) (get-remove_same z.pending pid)

    exits : ExitAlike table made pid came came2 f1 y judged other
    exits = record {
      kept = without_due pid f1;
      traced = without_pending pid y;
      edited = called pid came;
      back = called pid came2;
      shown = called pid came2;
      mine = ap (after_due (without_due pid f1) (called pid came)) (get-remove_same f.dues pid);
      yours = nothing_pending x;
      without = nothing_pending (with_identities None x);
      goes = λ tags some alike. record { bindings = c.goes.bindings; user = c.goes.user; identities = c.goes.identities };
      lives = λ some. some;
      edits = λ tags some alike. alike;
    }

    unwatched_is : mounted_after scene ≡ after_plain unwatched pid came f judged
    unwatched_is = before.mounted_call (untold_callers callers) ∙ ap (λ came. after_plain unwatched pid came f judged) came_is

    unwatched_state : (mounted_after scene).state ≡ came.state
    unwatched_state = ap (λ (m : Machine Faking). m.state) unwatched_is ∙ unwatched_end pid end.Answered (called pid came) f judged

    abbrev untold_end : Machine Tracing
    untold_end = after_exit tracer (called pid came2) (with_identities None y) other (process pid came2.state)

    together : ComeFromCall table made (mounted_after scene) untold_end
    together = subst (ComeFromCall table made (mounted_after scene)) (traced_call (untold scene).traced.watcher) (together_untold calm_too (subst HasNoPath (sym reads) tt))

    both : StandAlike table untold_end.watcher.tags (suc made) came.state untold_end.state
    both = record {
      matches = subst (λ s. IsMatch table untold_end.watcher.tags s untold_end.state) unwatched_state together.matches.states;
      lasts = subst (LastsLawful (λ k. k) table (suc made)) unwatched_state together.lasts;
      also_lasts = together.also_lasts;
    }

    refused_together : StayTogetherFaked scene
    refused_together =
        subst (λ (e : Machine Faking). ComeFromFakedCall table made e (traced_after scene)) (sym mounted_call)
        (subst (ComeFromFakedCall table made (after_exit faker (called pid came) f1 judged (process pid came.state))) (sym (traced_call x))
        (by_end table made pid came came2 f1 y judged other (record { bindings = c.goes.bindings; user = c.goes.user; identities = c.goes.identities }) exits end.Answered both c.matches.statuses))

  -- ---- either

  module _ (calm : IsCalmFaked scene) where
    request_together : (r : Request) → (decoded_by p1).reply ≡ Ok r → IsPathless r → (o : Option Effect) → effect (identity_at f.identities pid) r ≡ o → StayTogetherFaked scene
    request_together r reads kind (Some e) is = identity_calls_go_together scene r e c (decoded_is ∙ reads) is calm
    request_together r reads kind None is =
        kernels_calls_go_together scene r c (record { decoded = decoded_is ∙ reads; kind = no_exec r kind; none = is }) (λ unwatched_calm. goes_untold unwatched_calm r reads kind) calm

    by_reply : (reply : Decoded) → (decoded_by p1).reply ≡ reply → HasNoPath reply → StayTogetherFaked scene
    by_reply (Ok r) reads kind = request_together r reads kind (effect (identity_at f.identities pid) r) refl
    by_reply (Err e) reads kind = refused_together e reads calm

pub faked_calls_go_together : FakedCallsGoTogether
faked_calls_go_together scene comes kind calm =
    let callers = faked_callers_of comes in by_reply callers calm (decoded_by (entry.p1 callers)).reply refl (subst HasNoPath (decoded_is callers) kind)
