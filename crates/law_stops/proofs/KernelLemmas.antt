-- A call that the kernels carry out, with its stops, where an identity is told.
use Rattle.std.specs.FinMap as map
use Rattle.std.proofs.Common.{◌≡◌, ℕ, suc, Bool, true, false, cond, List, Option, Some, None, Ok, refl, sym, ap, subst, ◌∙◌, ℤ}
use Rattle.std.specs.Prelude.{◌&&◌, ◌==◌, IsSome, is_none}
use Rattle.std.specs.Ordering.{nat_cmp}
use Rattle.std.proofs.lemmas.Option.{same_Some}
use Rattle.law_turns.proofs.pr_base.MapLemmas.{get-insert_same, get-remove_same}
use Rattle.law_edits.specs.rv_mem.Actions.{carried_out}
use Rattle.law_edits.specs.pt_ident.Identity.{Identity, after_exec, effect}
use Rattle.law_edits.specs.pt_ident.IdentityTable.{IdentityTable, identity_at, starts_as_root}
use Rattle.law_edits.specs.pt_bind.Tags.{TagTable, with_tag}
use Rattle.law_edits.specs.pt_bind.declared.slot.Slot.TheVariants.{Exe}
use Rattle.law_turns.specs.pt_results.Notes.{noted, tags_after}
use Rattle.law_edits.specs.kr_view.View.{Row, plain}
use Rattle.law_turns.specs.kr_calls.declared.request.Request.{Request}
use Rattle.law_turns.specs.kr_calls.declared.request.Request.TheVariants as call
use Rattle.law_edits.specs.kr_model.State.{Image, Process, State, process}
use Rattle.law_turns.specs.kr_steps.Calls.{IsNoExec, LastsLawful}
use Rattle.law_turns.specs.kr_turns.Breaking.{plain_rule}
use Rattle.law_turns.specs.kr_turns.PlainCall.{Came, plain_call}
use Rattle.law_turns.specs.kr_turns.Shelving.{lacks_in}
use Rattle.law_turns.specs.kr_stops.Stopped.{Stopped}
use Rattle.law_turns.specs.kr_turns.Turn.{Machine, Tally, after_born, after_end, after_plain, called, calling, with_broken}
use Rattle.law_turns.specs.kr_stops.Watching.{unwatched}
use Rattle.law_turns.proofs.kr_stops.EditLemmas.{computed-lives}
use Rattle.law_turns.specs.law_places.Matching.{IsMatch}
use Rattle.law_edits.specs.pt_faker.Faking.{Faking, after_decoding as faked_decoding, after_due, after_effect as faked_effect, begin_program as faked_beginning, due_of, dues_with, entered as faked_entry, exited as faked_exit, faker, has_answered_zero, is_root, keeping, remembered_of, show_owner, with_due, without_due}
use Rattle.law_edits.specs.pt_faker.Stopping.{after_request, decoded_at, memory_at, register_at, with_register}
use Rattle.law_edits.specs.pt_faker.declared.due.Due.{Due}
use Rattle.law_edits.specs.pt_faker.declared.due.Due.TheVariants as due
use Rattle.law_edits.specs.pt_tracer.Planning.{planned}
use Rattle.law_edits.specs.pt_tracer.Registers.{arguments_at, given_back}
use Rattle.law_edits.specs.pt_tracer.Watched.{Applied, Tracing, after_decoding, after_effect, after_pending, answer_at, applied, awaiting, begin_as, begin_program, by_identities, entered, exited, give_back, has_begun, if_answered, is_execve, remembered_in, returned, shown_due, shown_to, tracer, with_identities, with_pending, with_tags, without_pending}
use Rattle.law_edits.specs.pt_tracer.declared.pending.Pending.{Pending}
use Rattle.law_edits.specs.pt_tracer.declared.plan.Plan.{Plan}
use Rattle.law_edits.specs.pt_tracer.declared.registers.Arguments.{Arguments}
use Rattle.law_turns.specs.Calls.{decoded_by}
use Rattle.law_turns.specs.Sizes.{IsSized}
use Rattle.law_stops.proofs.CallLemmas as before
use Rattle.law_stops.proofs.CallLemmas.{born_pending, end_status, unwatched_end}
use Rattle.law_stops.proofs.CallerLemmas.{FakedCallers, faked_callers_of, untold_callers}
use Rattle.law_stops.specs.Beginning.{GoesUntoldToProgram, ProgramsGoTogether, ReadsNoMark}
use Rattle.law_stops.specs.Calls.{GoesUntold, KernelsCallsGoTogether}
use Rattle.law_stops.specs.Editing.{IsEditedAlike, stop_in}
use Rattle.law_stops.specs.Going.{ComeFromFakedCall, GoBySame, IsCalmFaked, StandAlike, StayTogetherFaked, untold}
use Rattle.law_stops.specs.Scene.{IsCalm, Scene, asked, caller_here, came_here, came_there, mounted_after, traced_after}
use Rattle.law_stops.specs.Turning.{ComeFromCall, StayTogether}
use Rattle.law_stops.proofs.EditLemmas.{beginnings_keep_matches, edits_keep_matches}
use Rattle.law_stops.proofs.EntryLemmas as entry
use Rattle.law_stops.proofs.ProgramLemmas.{programs_read_no_mark}
use Rattle.law_stops.proofs.GoingLemmas.{ExitAlike, born_untold, by_end, goes_born}

-- ---- requests, and what is due of them

pub runs_none : (r : Request) → IsNoExec r → is_execve r ≡ false
runs_none (call.Execve path args env) kind = absurd kind
runs_none _ kind = refl

-- of an execve(2) the beginning is due, and it isn't one on users and groups
program_due : (root : Bool) (r : Request) → is_execve r ≡ true → due_of root r ≡ Some due.BeginsProgram
program_due root (call.Execve path args env) runs = refl
program_due root _ runs = absurd cc

program_none : (i : Identity) (r : Request) → is_execve r ≡ true → effect i r ≡ None
program_none i (call.Execve path args env) runs = refl
program_none i _ runs = absurd cc

-- where it answers 0, no marked byte is read to tell the new program who it is
program_reads : (table : List Row) (pid : ℕ) (s : State ℕ Image) (p : Process ℕ Image) (r : Request) → process pid s ≡ Some p → IsSized p.image → (decoded_by p).reply ≡ Ok r → is_execve r ≡ true
    → has_answered_zero (called pid (plain_call table pid s)) ≡ true → ReadsNoMark (called pid (plain_call table pid s))
program_reads table pid s p (call.Execve path args env) lives sized reads runs zero = programs_read_no_mark table pid s p path args env lives sized reads zero
program_reads table pid s p _ lives sized reads runs zero = absurd cc

-- what is due is found again
pub due_kept : (pid : ℕ) (d : Option Due) (dues : map.FinMap nat_cmp Due) → map.get (dues_with pid d dues) pid ≡ d
due_kept pid None dues = get-remove_same dues pid
due_kept pid (Some d) dues = get-insert_same dues pid d

-- and leaves the watcher its host user
keeps_user : (f : Faking) (t : Stopped) (at_root : Bool) (target : Option ℕ) (d : Option Due) → IsEditedAlike f t at_root target d → (after_due f t d).0.user ≡ f.user
keeps_user f t at_root target None is = refl
keeps_user f t at_root target (Some (due.Remembers change)) is = refl
keeps_user f t at_root target (Some due.ForgivesRoot) is = refl
keeps_user f t at_root target (Some (due.ShowsOwner at)) is = refl
keeps_user f t at_root target (Some (due.Tells number answer)) is = absurd is
keeps_user f t at_root target (Some due.BeginsProgram) is = absurd is

-- an edit goes by the host user, the first identity and what is remembered alone
same_edit : (f g : Faking) → g.user ≡ f.user → g.identities.uid ≡ f.identities.uid → g.identities.gid ≡ f.identities.gid → g.identities.owners ≡ f.identities.owners
    → (t : Stopped) (at_root : Bool) (target : Option ℕ) (d : Option Due) → IsEditedAlike f t at_root target d → IsEditedAlike g t at_root target d
same_edit f g user uid gid owners t at_root target None is = tt
same_edit f g user uid gid owners t at_root target (Some (due.Remembers change)) is = is
same_edit f g user uid gid owners t at_root target (Some due.ForgivesRoot) is = is
same_edit f g user uid gid owners t at_root target (Some (due.ShowsOwner at)) is = λ zero.
    (λ i. (carried_out (show_owner (user i) (record { uid = uid i; gid = gid i; kept = g.identities.kept; owners = owners i }) at) (memory_at t)).memory.read_marked) ∙ is zero
same_edit f g user uid gid owners t at_root target (Some (due.Tells number answer)) is = absurd is
same_edit f g user uid gid owners t at_root target (Some due.BeginsProgram) is = absurd is

-- ---- the watcher as a child is born

module _ (pid : ℕ) (f : Faking) where
  pub born_dues : (o : Option ℕ) → (after_born faker pid o f).dues ≡ f.dues
  born_dues None = refl
  born_dues (Some child) = refl

  pub born_user : (o : Option ℕ) → (after_born faker pid o f).user ≡ f.user
  born_user None = refl
  born_user (Some child) = refl

  pub born_uid : (o : Option ℕ) → (after_born faker pid o f).identities.uid ≡ f.identities.uid
  born_uid None = refl
  born_uid (Some child) = refl

  pub born_gid : (o : Option ℕ) → (after_born faker pid o f).identities.gid ≡ f.identities.gid
  born_gid None = refl
  born_gid (Some child) = refl

  pub born_owners : (o : Option ℕ) → (after_born faker pid o f).identities.owners ≡ f.identities.owners
  born_owners None = refl
  born_owners (Some child) = refl

-- ---- the second stop of the tracer

module _ (p : Pending) where
  answered_there : (o : Option ℤ) (v : Stopped) → stop_in v.pid (if_answered o v).state (if_answered o v).handed ≡ if_answered o v
  answered_there None v = refl
  answered_there (Some answer) v = refl

  pub returned_there : (t : Stopped) → stop_in t.pid (returned p t).state (returned p t).handed ≡ returned p t
  returned_there t = answered_there p.answer (given_back p.passed t)

  set_lives : (k v : ℕ) (t : Stopped) → IsSome (process t.pid t.state) → IsSome (process t.pid (with_register k v t).state)
  set_lives k v t some = computed-lives t.pid _ _ t.state some

  given_lives : (a : Arguments) (t : Stopped) → IsSome (process t.pid t.state) → IsSome (process t.pid (given_back a t).state)
  given_lives a t some =
      let t1 = with_register 11 a.a1 t in
      let t2 = with_register 12 a.a2 t1 in
      let t3 = with_register 13 a.a3 t2 in
      let t4 = with_register 14 a.a4 t3 in
      let t5 = with_register 15 a.a5 t4 in
      set_lives 17 a.a7 t5 (set_lives 15 a.a5 t4 (set_lives 14 a.a4 t3 (set_lives 13 a.a3 t2 (set_lives 12 a.a2 t1 (set_lives 11 a.a1 t some)))))

  answered_lives : (o : Option ℤ) (v : Stopped) → IsSome (process v.pid v.state) → IsSome (process v.pid (if_answered o v).state)
  answered_lives None v some = some
  answered_lives (Some answer) v some = set_lives 10 _ v some

  pub returned_lives : (t : Stopped) → IsSome (process t.pid t.state) → IsSome (process t.pid (returned p t).state)
  returned_lives t some = answered_lives p.answer (given_back p.passed t) (given_lives p.passed t some)

  -- one that isn't execve(2) began no program
  pub not_begun : (t : Stopped) → is_execve p.request ≡ false → has_begun p t ≡ false
  not_begun t goes = ap (λ b. b && is_none p.answer && has_answered_zero t) goes

  module _ (z : Tracing) (t : Stopped) (at : map.get z.pending t.pid ≡ Some p) where
    abbrev after : Bool → Tracing → Tracing × Stopped
    after begun x = cond begun (begin_program (without_pending t.pid x) p t) (give_back (without_pending t.pid x) p t)

    exits_by : (begun : Bool) → has_begun p t ≡ begun → (x : Tracing) → map.get x.pending t.pid ≡ Some p → exited x t ≡ after begun x
    exits_by begun is x found = ap (after_pending (without_pending t.pid x) t) found ∙ ap (λ b. after b x) is

    -- where the call began no program
    abbrev pub left : Tracing
    left = with_tags (tags_after z.tags t.pid (noted p.request p.led.index (answer_at (returned p t)))) (without_pending t.pid z)

    -- by what is due of it, with an identity
    abbrev pub told_left : IdentityTable → Option Due → Tracing × Stopped
    told_left identities d =
        let shown = shown_due z.user identities p.led.at_root d (returned p t) in
        (with_identities (Some (remembered_of d t.handed.target (register_at shown 10) identities)) left, shown)

    pub told_exit : has_begun p t ≡ false → (identities : IdentityTable) → z.identities ≡ Some identities → exited z t ≡ told_left identities (due_of (starts_as_root identities) p.request)
    told_exit none identities is =
        exits_by false none z at
        ∙ ap (λ i. let shown = shown_to z.user i p (returned p t) in (with_identities (remembered_in i p t.handed.target (register_at shown 10)) left, shown)) is

    pub untold_exit : has_begun p t ≡ false → exited (with_identities None z) t ≡ (with_identities None left, returned p t)
    untold_exit none = exits_by false none (with_identities None z) at

    -- where it did
    abbrev pub tagged : Tracing
    tagged = with_tags (with_tag z.tags t.pid Exe p.led.index) (without_pending t.pid z)

    pub told_beginning : has_begun p t ≡ true → (identities : IdentityTable) → z.identities ≡ Some identities → exited z t ≡ begin_as tagged t (Some identities)
    told_beginning some identities is = exits_by true some z at ∙ ap (begin_as tagged t) is

    pub untold_beginning : has_begun p t ≡ true → exited (with_identities None z) t ≡ (with_identities None tagged, t)
    untold_beginning some = exits_by true some (with_identities None z) at

-- ---- the whole call

module _ {scene : Scene Faking} (callers : FakedCallers scene) (r : Request) (decoded : asked scene ≡ Ok r) (none : effect (identity_at scene.mounted.watcher.identities scene.pid) r ≡ None) (calm : IsCalmFaked scene) where
  open scene use {table, made, pid, mounted as m, traced as n}
  open callers use {comes as c, caller as p, lives}

  abbrev f : Faking
  f = m.watcher

  abbrev x : Tracing
  x = n.watcher

  reads : (decoded_by (entry.p1 callers)).reply ≡ Ok r
  reads = sym (entry.decoded_first callers) ∙ sym (ap (λ t. (decoded_at t).reply) (entry.calling_is callers)) ∙ decoded

  -- ---- the first stop with mounts

  abbrev owed : Option Due
  owed = due_of (is_root f) r

  abbrev f1 : Faking
  f1 = with_due pid owed (keeping pid (identity_at f.identities pid) f)

  abbrev first : Stopped
  first = entry.first callers

  enters : faked_entry f (caller_here scene) ≡ (f1, entry.second callers)
  enters =
      ap (faked_entry f) (entry.calling_is callers)
      ∙ ap (faked_decoding f (after_request first)) (entry.decoded_first callers ∙ reads)
      ∙ ap (faked_effect f r (after_request first)) none
      ∙ ap (λ (t : Stopped). (f1, t)) (entry.after_first callers)

  unwatched_calm : IsCalm scene
  unwatched_calm = entry.unwatched_calm callers f1 enters calm

  abbrev came : Came
  came = plain_call table pid (entry.s1 callers)

  abbrev judged : Tally
  judged = before.judged (untold_callers callers)

  abbrev g : Faking
  g = after_born faker pid came.child f1

  -- ---- the first stop of the tracer

  abbrev stop : Stopped
  stop = before.stop (untold_callers callers)

  reads_there : (decoded_at stop).reply ≡ Ok r
  reads_there =
      before.decoded_there (untold_callers callers)
      ∙ sym (before.requests (untold_callers callers) unwatched_calm)
      ∙ reads

  stop_is : calling 0 pid n.state ≡ stop
  stop_is = before.calling_is (untold_callers callers)

  abbrev plan : Plan × Stopped
  plan = planned x.bindings x.tags (after_request stop) r

  abbrev done : Applied
  done = applied plan.0.edit plan.1

  abbrev pending : Pending
  pending = awaiting (arguments_at (after_request stop)) r plan.0.led done.answer

  -- what the tracer keeps, with an identity and without
  abbrev y : Tracing
  y = with_identities (Some f1.identities) (with_pending (map.insert x.pending pid pending) x)

  enters_there : entered x stop ≡ (y, done.stopped)
  enters_there =
      ap (after_decoding x (after_request stop)) reads_there
      ∙ ap (by_identities x r (after_request stop)) c.goes.identities
      ∙ ap (after_effect x f.identities r (after_request stop)) none

  enters_untold : entered (untold scene).traced.watcher stop ≡ (with_identities None y, done.stopped)
  enters_untold = ap (after_decoding (untold scene).traced.watcher (after_request stop)) reads_there

  abbrev came2 : Came
  came2 = plain_call plain pid done.stopped.state

  abbrev z : Tracing
  z = after_born tracer pid came2.child y

  abbrev other : Tally
  other = with_broken (plain_rule 0 plain pid (lacks_in 0 pid n.state) done.stopped.state) n.tally

  abbrev behind_entry : Tracing × Stopped → Machine Tracing
  behind_entry e = after_plain tracer pid (plain_call plain pid e.1.state) e.0 (with_broken (plain_rule 0 plain pid (lacks_in 0 pid n.state) e.1.state) n.tally)

  traced_call : traced_after scene ≡ after_plain tracer pid came2 y other
  traced_call = ap (λ (t : Stopped). behind_entry (entered x t)) stop_is ∙ ap behind_entry enters_there

  untold_call : traced_after (untold scene) ≡ after_end tracer pid came2.end (called pid came2) (with_identities None z) other
  untold_call =
      before.traced_call (untold_callers callers) (with_identities None y) done.stopped enters_untold
      ∙ ap (λ y. after_end tracer pid came2.end (called pid came2) y other) (sym (born_untold pid came2.child y))

  came_is : came_here scene ≡ came
  came_is = ap (λ (t : Stopped). plain_call table pid t.state) (entry.calling_is callers)

  came2_is : came_there (untold scene) ≡ came2
  came2_is =
      ap (λ (t : Stopped). plain_call plain pid (entered (untold scene).traced.watcher t).1.state) stop_is
      ∙ ap (λ (e : Tracing × Stopped). plain_call plain pid e.1.state) enters_untold

  abbrev kept : Faking
  kept = without_due pid g

  pending_there : map.get z.pending pid ≡ Some pending
  pending_there = ap (λ calls. map.get calls pid) (born_pending pid y came2.child) ∙ get-insert_same x.pending pid pending

  owed_there : map.get g.dues pid ≡ owed
  owed_there = ap (λ dues. map.get dues pid) (born_dues pid f1 came.child) ∙ due_kept pid owed f.dues

  -- ---- where it ends alike, and keeps both machines together without an identity

  module _ (ends : came.end ≡ came2.end) (children : came.child ≡ came2.child) (goes : StayTogether (untold scene)) where
    go : GoBySame table g z
    go =
        subst (λ o. GoBySame table g (after_born tracer pid o y)) children
        (goes_born table pid f1 y (record { bindings = c.goes.bindings; user = c.goes.user; identities = refl }) came.child)

    unwatched_is : mounted_after scene ≡ after_plain unwatched pid came f judged
    unwatched_is = before.mounted_call (untold_callers callers)

    unwatched_state : (mounted_after scene).state ≡ came.state
    unwatched_state = ap (λ (m : Machine Faking). m.state) unwatched_is ∙ unwatched_end pid came.end (called pid came) (after_born unwatched pid came.child f) judged

    abbrev untold_end : Machine Tracing
    untold_end = after_end tracer pid came2.end (called pid came2) (with_identities None z) other

    together : ComeFromCall table made (mounted_after scene) untold_end
    together = subst (ComeFromCall table made (mounted_after scene)) untold_call goes

    both : StandAlike table untold_end.watcher.tags (suc made) came.state untold_end.state
    both = record {
      matches = subst (λ s. IsMatch table untold_end.watcher.tags s untold_end.state) unwatched_state together.matches.states;
      lasts = subst (LastsLawful (λ k. k) table (suc made)) unwatched_state together.lasts;
      also_lasts = together.also_lasts;
    }

    statuses : before.status_after came2.end judged.status ≡ before.status_after came2.end other.status
    statuses =
        ap (λ e. before.status_after e judged.status) (sym ends)
        ∙ sym (ap (λ (m : Machine Faking). m.tally.status) unwatched_is ∙ end_status unwatched pid came.end (called pid came) (after_born unwatched pid came.child f) judged)
        ∙ together.matches.statuses
        ∙ end_status tracer pid came2.end (called pid came2) (with_identities None z) other

    by_exits : ExitAlike table made pid came came2 g z judged other → StayTogetherFaked scene
    by_exits exits =
        subst (λ (e : Machine Faking). ComeFromFakedCall table made e (traced_after scene)) (sym (entry.faked_call callers f1 enters calm))
        (subst (ComeFromFakedCall table made (after_plain faker pid came f1 judged)) (sym traced_call)
        (subst (λ e. ComeFromFakedCall table made (after_end faker pid e (called pid came) g judged) (after_plain tracer pid came2 y other)) (sym ends)
        (by_end table made pid came came2 g z judged other go exits came2.end both statuses)))

    -- ---- one that begins no program

    module _ (kind : IsNoExec r) (edit_untold : IsEditedAlike f (called pid came) plan.0.led.at_root came2.handed.target owed) where
      abbrev back : Stopped
      back = returned pending (called pid came2)

      none_begun : has_begun pending (called pid came2) ≡ false
      none_begun = not_begun pending (called pid came2) (runs_none r kind)

      edit : IsEditedAlike kept (called pid came) plan.0.led.at_root came2.handed.target owed
      edit =
          same_edit f kept (born_user pid f1 came.child) (born_uid pid f1 came.child) (born_gid pid f1 came.child) (born_owners pid f1 came.child) (called pid came) plan.0.led.at_root came2.handed.target owed edit_untold

      abbrev shown : Stopped
      shown = shown_due kept.user kept.identities plan.0.led.at_root owed back

      abbrev traced : Tracing
      traced = with_identities (Some (remembered_of owed came2.handed.target (register_at shown 10) kept.identities)) (left pending z (called pid came2) pending_there)

      -- both are left alike, and remember the same
      both_edited : (tags : TagTable) → IsSome (process pid came.state) → StandAlike table tags (suc made) came.state back.state
          → StandAlike table tags (suc made) (after_due kept (called pid came) owed).1.state shown.state × ((after_due kept (called pid came) owed).0.identities ≡ remembered_of owed came2.handed.target (register_at shown 10) kept.identities)
      both_edited tags some alike =
          subst
          (λ (t : Stopped). (let v = shown_due kept.user kept.identities plan.0.led.at_root owed t in StandAlike table tags (suc made) (after_due kept (called pid came) owed).1.state v.state
          × ((after_due kept (called pid came) owed).0.identities ≡ remembered_of owed came2.handed.target (register_at v 10) kept.identities))) (returned_there pending (called pid came2))
          (edits_keep_matches table tags (suc made) pid came.state back.state came.handed back.handed plan.0.led.at_root came2.handed.target kept owed some alike edit)

      exits : ExitAlike table made pid came came2 g z judged other
      exits = record {
        kept = (after_due kept (called pid came) owed).0;
        traced = traced;
        edited = (after_due kept (called pid came) owed).1;
        back = back;
        shown = shown;
        mine = ap (after_due kept (called pid came)) owed_there;
        yours =
            told_exit pending z (called pid came2) pending_there none_begun g.identities go.identities
            ∙ (λ i. (let d = due_of (born_uid pid f1 came.child i == 0) r in
            let v = shown_due (go.user i) g.identities plan.0.led.at_root d back in
            (with_identities (Some (remembered_of d came2.handed.target (register_at v 10) g.identities)) (left pending z (called pid came2) pending_there), v)));
        without = untold_exit pending z (called pid came2) pending_there none_begun;
        goes = λ tags some alike. record {
          bindings = go.bindings;
          user = go.user ∙ sym (keeps_user kept (called pid came) plan.0.led.at_root came2.handed.target owed edit);
          identities = ap (λ table. Some table) (sym (both_edited tags some alike).1);
        };
        lives = returned_lives pending (called pid came2);
        edits = λ tags some alike. (both_edited tags some alike).0;
      }

      kernels_together : StayTogetherFaked scene
      kernels_together = by_exits exits

    -- ---- one that begins a program, or might

    module _ (runs : is_execve r ≡ true) (begun : Bool) (begins : has_answered_zero (called pid came) ≡ begun) (also_begins : has_begun pending (called pid came2) ≡ begun) (unread : begun ≡ true → ReadsNoMark (called pid came)) where
      owed_is : (root : Bool) → due_of root r ≡ Some due.BeginsProgram
      owed_is root = program_due root r runs

      begun_owed : map.get g.dues pid ≡ Some due.BeginsProgram
      begun_owed = owed_there ∙ owed_is (is_root f)

      abbrev behind : Bool → Faking × Stopped
      behind b = cond b (faked_beginning kept (called pid came)) (kept, called pid came)

      exit_is : (b : Bool) → has_answered_zero (called pid came) ≡ b → faked_exit g (called pid came) ≡ behind b
      exit_is b is = ap (after_due kept (called pid came)) begun_owed ∙ ap behind is

      abbrev given : Stopped
      given = returned pending (called pid came2)

      exits_by_begun : (b : Bool) → begun ≡ b → ExitAlike table made pid came came2 g z judged other
      exits_by_begun true is = record {
        kept = (faked_beginning kept (called pid came)).0;
        traced = (begin_as (tagged pending z (called pid came2) pending_there) (called pid came2) (Some g.identities)).0;
        edited = (faked_beginning kept (called pid came)).1;
        back = called pid came2;
        shown = (begin_as (tagged pending z (called pid came2) pending_there) (called pid came2) (Some g.identities)).1;
        mine = exit_is true (begins ∙ is);
        yours = told_beginning pending z (called pid came2) pending_there (also_begins ∙ is) g.identities go.identities;
        without = untold_beginning pending z (called pid came2) pending_there (also_begins ∙ is);
        goes = λ tags some alike. record { bindings = go.bindings; user = go.user; identities = refl };
        lives = λ some. some;
        edits = λ tags some alike. (beginnings_keep_matches table tags (suc made) pid came.state came2.state came.handed came2.handed kept (tagged pending z (called pid came2) pending_there) some alike (unread is (after_exec (identity_at kept.identities pid)))).stands;
      }
      exits_by_begun false is = record {
        kept = kept;
        traced = with_identities (Some g.identities) (left pending z (called pid came2) pending_there);
        edited = called pid came;
        back = given;
        shown = given;
        mine = exit_is false (begins ∙ is);
        yours =
            told_exit pending z (called pid came2) pending_there (also_begins ∙ is) g.identities go.identities
            ∙ ap (told_left pending z (called pid came2) pending_there g.identities) (owed_is (starts_as_root g.identities));
        without = untold_exit pending z (called pid came2) pending_there (also_begins ∙ is);
        goes = λ tags some alike. record { bindings = go.bindings; user = go.user; identities = refl };
        lives = returned_lives pending (called pid came2);
        edits = λ tags some alike. alike;
      }

      program_together : StayTogetherFaked scene
      program_together = by_exits (exits_by_begun begun refl)

  module _ (kind : IsNoExec r) (goes : GoesUntold scene r) where
    goes_together : StayTogetherFaked scene
    goes_together =
        kernels_together (ap (λ (c : Came). c.end) (sym came_is) ∙ goes.ends ∙ ap (λ (c : Came). c.end) came2_is) (ap (λ (c : Came). c.child) (sym came_is) ∙ goes.children ∙ ap (λ (c : Came). c.child) came2_is) goes.together kind
        (subst (λ (c : Came). IsEditedAlike f (called pid c) plan.0.led.at_root came2.handed.target owed) came_is
        (subst (λ (c : Came). IsEditedAlike f (called pid (came_here scene)) plan.0.led.at_root c.handed.target owed) came2_is
        (subst
        (λ (t : Stopped). IsEditedAlike f (called pid (came_here scene)) (planned x.bindings x.tags (after_request t) r).0.led.at_root
        (came_there (untold scene)).handed.target owed) stop_is goes.edit)))

  module _ (runs : is_execve r ≡ true) (goes : GoesUntoldToProgram scene) where
    pending_is : goes.pending ≡ pending
    pending_is =
        same_Some _ _
        (sym goes.kept
        ∙ ap (λ (t : Stopped). map.get (entered (untold scene).traced.watcher t).0.pending pid) stop_is
        ∙ ap (λ (e : Tracing × Stopped). map.get e.0.pending pid) enters_untold
        ∙ get-insert_same x.pending pid pending)

    runs_together : StayTogetherFaked scene
    runs_together =
        program_together (ap (λ (c : Came). c.end) (sym came_is) ∙ goes.ends ∙ ap (λ (c : Came). c.end) came2_is) (ap (λ (c : Came). c.child) (sym came_is) ∙ goes.children ∙ ap (λ (c : Came). c.child) came2_is) goes.together runs
        goes.begun (ap (λ (c : Came). has_answered_zero (called pid c)) (sym came_is) ∙ goes.begins)
        (ap (λ (c : Came). has_begun pending (called pid c)) (sym came2_is) ∙ ap (λ (p : Pending). has_begun p (called pid (came_there (untold scene)))) (sym pending_is) ∙ goes.also_begins)
        (λ is. program_reads table pid (entry.s1 callers) (entry.p1 callers) r (entry.lives1 callers)
        (record { bytes = (entry.can callers).holds; registers = (c.sized pid p lives).registers }) reads runs (ap (λ (c : Came). has_answered_zero (called pid c)) (sym came_is) ∙ goes.begins ∙ is))

pub kernels_calls_go_together : KernelsCallsGoTogether
kernels_calls_go_together scene r comes is untold_goes calm =
    let callers = faked_callers_of comes in
    goes_together callers r is.decoded is.none calm is.kind (untold_goes (unwatched_calm callers r is.decoded is.none calm))

pub programs_go_together : ProgramsGoTogether
programs_go_together scene r comes decoded runs untold_goes calm =
    let callers = faked_callers_of comes in
    let none = program_none (identity_at scene.mounted.watcher.identities scene.pid) r runs in
    runs_together callers r decoded none calm runs (untold_goes (unwatched_calm callers r decoded none calm))
