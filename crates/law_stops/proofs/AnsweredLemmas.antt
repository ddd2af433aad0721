-- A call that the tracer answers at its first stop, and the kernel with mounts alike.
use Rattle.std.specs.FinMap as map
use Rattle.std.proofs.Common.{◌≡◌, ℕ, suc, Bool, true, false, cond, List, [], ◌∷◌, Some, None, Ok, refl, sym, ap, subst, ◌∙◌, ℤ, eq-eqb}
use Rattle.std.specs.Prelude.{◌==◌, IsSome, slice_set}
use Rattle.std.specs.Int.{cast_signed, w64}
use Rattle.std.specs.Option.{option_map}
use Rattle.law_turns.proofs.pr_base.MapLemmas.{get-insert_same}
use Rattle.law_turns.specs.pr_base.declared.errno.Errno.{Errno}
use Rattle.law_turns.specs.pr_base.declared.errno.Errno.TheVariants.{ENOSYS}
use Rattle.law_edits.specs.rv_mem.Actions.{AreEqualUnmarked, carried_out}
use Rattle.law_edits.specs.rv_mem.Layout.{layout_of}
use Rattle.law_edits.specs.rv_mem.Memory.{Memory}
use Rattle.law_edits.specs.rv_mem.Pages.{IsPlaced, IsWhole}
use Rattle.law_edits.specs.rv_mem.declared.regs.Regs.{Regs}
use Rattle.law_edits.specs.pt_bind.Tags.{TagTable}
use Rattle.law_edits.specs.pt_ident.Identity.{refusal}
use Rattle.law_turns.specs.pt_args.declared.edit.Edit.TheVariants.{Cancel}
use Rattle.law_turns.specs.pt_results.Numbers.{made_number}
use Rattle.law_turns.specs.pt_results.Notes.{noted, noted_of, tags_after}
use Rattle.law_edits.specs.kr_view.View.{plain}
use Rattle.law_turns.specs.kr_calls.Decoding.{decoding}
use Rattle.law_turns.specs.kr_calls.PathTable.{path_at}
use Rattle.law_turns.specs.kr_calls.declared.request.Request.{Request}
use Rattle.law_turns.specs.kr_calls.declared.request.Request.TheVariants as call
use Rattle.law_turns.proofs.law_lawful.ProcessChangeLemmas.{found}
use Rattle.law_edits.specs.kr_model.Applied.{all_applied, images, with_living}
use Rattle.law_edits.specs.kr_model.Known.{known}
use Rattle.law_edits.specs.kr_model.Operation.{operation}
use Rattle.law_edits.specs.kr_model.Reply.{Replying, Reply, refuse}
use Rattle.law_edits.specs.kr_model.State.{Image, Process, State, at_pid, image_layout, process, with_process}
use Rattle.law_edits.specs.kr_model.Walks.{seen, targets_of}
use Rattle.law_edits.specs.kr_model.declared.outcome.Outcome.TheVariants.{Answer}
use Rattle.law_turns.proofs.law_allowed.DecodedLemmas.{decoding-leaves-pages}
use Rattle.law_turns.proofs.law_allowed.RowLemmas.{StaysLike, lawful-image, stays-like}
use Rattle.law_turns.specs.law_allowed.Told.{mounts_walked}
use Rattle.law_turns.specs.kr_seen.Carrying.{memory_of, with_memory_of}
use Rattle.law_turns.specs.kr_steps.Answering.{answered, going, with_answer}
use Rattle.law_turns.specs.kr_steps.Calls.{IsNoExec, LastsLawful}
use Rattle.law_turns.specs.kr_steps.Computing.{computed}
use Rattle.law_turns.specs.kr_steps.Settling.{settled}
use Rattle.law_turns.specs.kr_turns.PlainCall.{Came, child_of, end_of, operated, plain_call, refusal_told}
use Rattle.law_turns.specs.kr_stops.Stopped.{IsThere, Stopped, edited, image_at, nothing_handed}
use Rattle.law_turns.specs.kr_turns.Turn.{Machine, Tally, after_born, after_end, after_exit, after_plain, called}
use Rattle.law_turns.specs.kr_stops.Watching.{unwatched}
use Rattle.law_turns.proofs.kr_stops.EditLemmas.{edited-twice, image-edited, there}
use Rattle.law_turns.proofs.kr_turns.PlainLemmas.{no-exec-requested}
use Rattle.law_edits.specs.pt_faker.Stopping.{after_request, decoded_at}
use Rattle.law_edits.specs.pt_faker.Faking.{no_longer_called, word_of}
use Rattle.law_edits.specs.pt_tracer.Planning.{edit_for, led_of, list_addresses, planned_by, texts_at}
use Rattle.law_edits.specs.pt_tracer.Registers.{arguments_at}
use Rattle.law_edits.specs.pt_tracer.Watched.{Tracing, after_decoding, after_plan, applied, awaiting, by_identities, entered, exited, keeping, tracer, with_pending}
use Rattle.law_edits.specs.pt_tracer.declared.pending.Pending.{Pending}
use Rattle.law_edits.specs.pt_tracer.declared.plan.Led.{Led}
use Rattle.law_turns.specs.law_places.Matching.{IsMatch}
use Rattle.law_turns.proofs.law_places.TagLemmas.{found_is}
use Rattle.law_edits.specs.Answered.{StandsAtNoCall}
use Rattle.law_edits.specs.Exits.{left_with}
use Rattle.law_edits.specs.NoCalls.{without_call}
use Rattle.law_edits.proofs.AnsweredLemmas.{answered_calls_are_none}
use Rattle.law_edits.proofs.ExitLemmas.{exits_behind_answers}
use Rattle.law_turns.specs.Calls.{decoded_by, decoded_in}
use Rattle.law_turns.specs.Lasting.{CanBeCalled}
use Rattle.law_turns.specs.Operating.{done_in}
use Rattle.law_turns.proofs.CallLemmas.{by_request}
use Rattle.law_turns.proofs.CalledLemmas.{calls_last, decoded_lasts, decoded_lives, decoded_memory, decoded_process, lasts_living, longer_lasts, settled_lasts}
use Rattle.law_turns.proofs.ImageLemmas.{given}
use Rattle.law_turns.proofs.MatchLemmas.{match_computed}
use Rattle.law_turns.proofs.OperateLemmas.{with_own_registers}
use Rattle.law_turns.proofs.SettleLemmas.{match_settled}
use Rattle.law_stops.specs.Cancelling.{CancelledCallsGoTogether, IsCancelledAlike}
use Rattle.law_stops.specs.Scene.{IsCalm, Scene, at_call, mounted_after, traced_after}
use Rattle.law_stops.specs.Turning.{ComeFromCall, StayTogether}
use Rattle.law_stops.proofs.CallLemmas as before
use Rattle.law_stops.proofs.CallLemmas.{exit_status, own_image, unwatched_exit}
use Rattle.law_stops.proofs.CallerLemmas.{Callers, callers_of}

-- ---- one change of a process behind another

module _ (pid : ℕ) where
  one_twice : (f g : Process ℕ Image → Process ℕ Image) → ((p : Process ℕ Image) → (g p).pid ≡ p.pid) → (p : Process ℕ Image) → at_pid pid f (at_pid pid g p) ≡ at_pid pid (λ p. f (g p)) p
  one_twice f g keeps p = by (p.pid == pid) refl
    where
      by : (b : Bool) → p.pid == pid ≡ b → at_pid pid f (cond b (g p) p) ≡ cond b (f (g p)) p
      by true is = ap (λ k. cond (k == pid) (f (g p)) (g p)) (keeps p) ∙ ap (λ b. cond b (f (g p)) (g p)) is
      by false is = ap (λ b. cond b (f p) p) is

  pub each_twice : (f g : Process ℕ Image → Process ℕ Image) → ((p : Process ℕ Image) → (g p).pid ≡ p.pid) → (ps : List (Process ℕ Image)) → with_process pid f (with_process pid g ps) ≡ with_process pid (λ p. f (g p)) ps
  each_twice f g keeps [] = refl
  each_twice f g keeps (p ∷ ps) = ap (λ q. q ∷ with_process pid f (with_process pid g ps)) (one_twice f g keeps p) ∙ ap (λ qs. at_pid pid (λ p. f (g p)) p ∷ qs) (each_twice f g keeps ps)

  -- a process that is changed lives changed
  pub lives_changed : (f : Process ℕ Image → Process ℕ Image) → ((p : Process ℕ Image) → (f p).pid ≡ p.pid) → (s : State ℕ Image) (p : Process ℕ Image) → process pid s ≡ Some p → process pid (with_living (with_process pid f) s) ≡ Some (f p)
  lives_changed f keeps s p lives = found pid f keeps pid s.living ∙ ap (option_map (at_pid pid f)) lives ∙ ap (λ b. Some (cond b (f p) p)) (eq-eqb p.pid pid (found_is pid s.living p lives))

  -- registers and a memory in place of others, told or not
  pub computed_twice : (regs more : Regs) (memory much : Memory) (s : State ℕ Image) → computed pid more much (computed pid regs memory s) ≡ computed pid more much s
  computed_twice regs more memory much s = ap (λ ps. with_living (λ _. ps) s) (each_twice (given pid more much) (given pid regs memory) (λ p. refl) s.living)

  pub told_again : (old left : Regs) (memory : Memory) (first last : ℤ) (s : State ℕ Image) → left ≡ with_answer last old → (regs : Regs) → computed pid left memory (answered pid first (computed pid regs memory s)) ≡ answered pid last (computed pid old memory s)
  told_again old left memory first last s is regs =
      ap (λ ps. with_living (λ _. ps) s)
      (ap (with_process pid (given pid left memory)) (each_twice (going (with_answer first) false) (given pid regs memory) (λ p. refl) s.living)
      ∙ each_twice (given pid left memory) (λ p. going (with_answer first) false (given pid regs memory p)) (λ p. refl) s.living
      ∙ ap (λ r. with_process pid (λ p. going (λ _. r) false (given pid regs memory p)) s.living) is
      ∙ sym (each_twice (going (with_answer last) false) (given pid old memory) (λ p. refl) s.living))

-- an error is noted of no call
pub silent_refusal : (tags : TagTable) (pid : ℕ) (r : Request) (index : ℕ) → tags_after tags pid (noted_of r index None) ≡ tags
silent_refusal tags pid (call.Openat dirfd path flags mode) index = refl
silent_refusal tags pid (call.Chdir path) index = refl
silent_refusal tags pid (call.Execve path args env) index = refl
silent_refusal tags pid (call.Fchdir fd) index = refl
silent_refusal tags pid (call.Dup fd) index = refl
silent_refusal tags pid (call.Dup3 old new flags) index = refl
silent_refusal tags pid (call.Fcntl fd cmd arg) index = refl
silent_refusal tags pid _ index = refl

-- and makes no number
pub none_made : (e : Errno) → made_number (cast_signed w64 (word_of (refusal e))) ≡ None
none_made ENOSYS = refl
none_made _ = refl

module _ {S : Type 0} {scene : Scene S} (callers : Callers scene) (calm : IsCalm scene) where
  open scene use {table, made, pid, mounted as m, traced as n}
  open callers use {comes as c, also_caller as q, also_lives as also}

  abbrev x : Tracing
  x = n.watcher

  abbrev w : State ℕ Image
  w = n.state

  abbrev s1 : State ℕ Image
  s1 = before.s1 callers

  abbrev p1 : Process ℕ Image
  p1 = before.p1 callers

  abbrev stop : Stopped
  stop = before.stop callers

  lives1 : process pid s1 ≡ Some p1
  lives1 = before.lives1 callers

  match1 : IsMatch table x.tags s1 w
  match1 = before.match1 callers

  same_regs : p1.image.regs ≡ q.image.regs
  same_regs = before.same_regs callers

  there_stop : IsThere stop
  there_stop = there w pid nothing_handed q c.also_lasts.lawful.pids also

  module _ (r : Request) (is : (decoded_by p1).reply ≡ Ok r) (kind : IsNoExec r) where
    abbrev at : State ℕ Image
    at = decoded_in pid p1 s1

    abbrev row : Replying
    row = operation pid r (seen table pid at r) (known image_layout pid at)

    abbrev done : Memory
    done = (done_in pid r (seen table pid at r) at).memory

    decoded_stop : (decoded_at stop).reply ≡ Ok r
    decoded_stop = before.decoded_there callers ∙ sym (before.requests callers calm) ∙ is

    -- the memory that the tracer leaves, and what it tells; on the other machine the row changes nothing, and answers so
    module _ (left : Memory) (led : Led) (answer : ℤ) (like : StaysLike q.image.memory.pages left.pages) (alike : AreEqualUnmarked done.pages left.pages)
        (replies : (done_in pid r (seen table pid at r) at).reply ≡ record { outcome = Answer answer; changes = [] }) (silent : tags_after x.tags pid (noted r led.index (cast_signed w64 (word_of answer))) ≡ x.tags)
        (v : Stopped) (v_is : v ≡ edited (without_call q.image.regs) left stop) (stands : StandsAtNoCall stop v) (entered_is : entered x stop ≡ (with_pending (map.insert x.pending pid (awaiting (arguments_at (after_request stop)) r led (Some answer))) x, v)) where
      abbrev pending : Pending
      pending = awaiting (arguments_at (after_request stop)) r led (Some answer)

      abbrev y : Tracing
      y = with_pending (map.insert x.pending pid pending) x

      -- ---- the plain kernel's own refusal

      abbrev shown : State ℕ Image
      shown = computed pid (without_call q.image.regs) left w

      abbrev refused : Came
      refused = refusal_told pid ENOSYS shown

      came_is : plain_call plain pid v.state ≡ refused
      came_is = ap (λ (u : Stopped). plain_call plain pid u.state) v_is ∙ subst (λ (u : Stopped). plain_call plain u.pid u.state ≡ refusal_told u.pid ENOSYS u.state) v_is (stands.refuses plain)

      abbrev q3 : Process ℕ Image
      q3 = going (with_answer (refusal ENOSYS)) false (given pid (without_call q.image.regs) left q)

      lives3 : process pid refused.state ≡ Some q3
      lives3 = lives_changed pid (going (with_answer (refusal ENOSYS)) false) (λ p. refl) shown (given pid (without_call q.image.regs) left q) (lives_changed pid (given pid (without_call q.image.regs) left) (λ p. refl) w q also)

      abbrev stop2 : Stopped
      stop2 = called pid refused

      -- the state with the answer of the tracer in place of it
      abbrev told : State ℕ Image
      told = answered pid answer (computed pid q.image.regs left w)

      own_lasts : LastsLawful (λ k. k) plain made (computed pid q.image.regs left w)
      own_lasts = record {
        lawful = lawful-image (λ k. k) plain w c.also_lasts.lawful pid q also left like (λ _. q.image.regs);
        lasts = lasts_living made (with_process pid (given pid q.image.regs left)) w c.also_lasts.lasts;
      }

      refused_lawful : IsThere stop2
      refused_lawful =
          let lawful = lawful-image (λ k. k) plain w c.also_lasts.lawful pid q also left like (λ _. without_call q.image.regs) in
          let lasts = settled_lasts plain made pid (Answer (refusal ENOSYS)) shown (record { lawful = lawful; lasts = lasts_living made (with_process pid (given pid (without_call q.image.regs) left)) w c.also_lasts.lasts }) in
          there refused.state pid nothing_handed q3 lasts.lawful.pids lives3

      exits : exited y stop2 ≡ left_with y stop2 r led (word_of answer) (image_at stop).regs.x
      exits =
          exits_behind_answers y stop stop2 (decoded_at stop).memory r led answer (word_of (refusal ENOSYS)) c.traces.identities (get-insert_same x.pending pid pending) decoded_stop there_stop refused_lawful
          (ap (λ (image : Image). image.regs.x) (own_image pid refused.state q3 lives3) ∙ ap (λ (image : Image). slice_set (without_call image.regs).x 10 (word_of (refusal ENOSYS))) (sym (own_image pid w q also)))

      left_state : (left_with y stop2 r led (word_of answer) (image_at stop).regs.x).1.state ≡ told
      left_state =
          ap (λ (image : Image). computed pid (record { x = slice_set (image_at stop).regs.x 10 (word_of answer); pc = image.regs.pc }) image.memory refused.state) (own_image pid refused.state q3 lives3)
          ∙ ap (λ (image : Image). computed pid (record { x = slice_set image.regs.x 10 (word_of answer); pc = q3.image.regs.pc }) left refused.state) (own_image pid w q also)
          ∙ told_again pid q.image.regs (record { x = slice_set q.image.regs.x 10 (word_of answer); pc = q3.image.regs.pc }) left (refusal ENOSYS) answer w refl (without_call q.image.regs)

      -- ---- the other machine's answer, and the match

      state_here : plain_call table pid s1 ≡ operated table pid r at
      state_here = by_request table pid table s1 p1 (Ok r) lives1 is ∙ sym (no-exec-requested table pid at r kind)

      state_is : (operated table pid r at).state ≡ answered pid answer (computed pid p1.image.regs done s1)
      state_is =
          let mine = before.can callers in
          ap (λ (reply : Reply). settled pid reply.outcome (all_applied images (mounts_walked (targets_of table pid at r)) pid reply.changes (with_memory_of pid done at))) replies
          ∙ ap (answered pid answer)
          (with_own_registers pid done at.next_pid at (decoded_process table made pid s1 p1 mine) (decoded_lasts table made pid s1 p1 mine).lawful.pids.living (decoded_lives table made pid s1 p1 mine)
          ∙ computed_twice pid p1.image.regs p1.image.regs (decoded_by p1).memory done s1)

      stays : StaysLike p1.image.memory.pages done.pages
      stays =
          let mine = before.can callers in
          let own = mine.lasts.lawful.processes pid p1 lives1 in
          let first = stays-like (decoding p1.image.regs) p1.image.memory own.whole own.paged in
          let memory = decoded_memory table made pid s1 p1 mine in
          let then = stays-like row (memory_of pid at) (subst (λ (m : Memory). IsWhole m.pages) (sym memory) first.whole) (subst (λ (m : Memory). IsPlaced m.pages) (sym memory) first.placed) in
          record { whole = then.whole; placed = then.placed; layout = then.layout ∙ ap (λ (m : Memory). layout_of m.pages) memory ∙ first.layout }

      match_told : IsMatch table x.tags (operated table pid r at).state told
      match_told =
          let both = match_computed table x.tags s1 w match1 pid p1 q lives1 also p1.image.regs done left alike stays like.layout in
          let own = subst (λ regs. IsMatch table x.tags (computed pid p1.image.regs done s1) (computed pid regs left w)) same_regs both in
          subst (λ t. IsMatch table x.tags t told) (sym state_is) (match_settled table x.tags pid (Answer answer) (computed pid p1.image.regs done s1) (computed pid q.image.regs left w) own)

      -- ---- behind both stops

      module _ (alone : (next : ℕ) → child_of next r (Answer answer) ≡ None) where
        abbrev tally : Tally
        tally = before.unjudged callers v

        abbrev given_back : Tracing × Stopped
        given_back = left_with y stop2 r led (word_of answer) (image_at stop).regs.x

        traced_is : traced_after scene ≡ record { state = told; watcher = given_back.0; tally = tally }
        traced_is =
            before.traced_call callers y v entered_is
            ∙ ap (λ came. after_plain tracer pid came y tally) came_is
            ∙ ap (after_exit tracer stop2 y tally) lives3
            ∙ ap (λ (e : Tracing × Stopped). record { state = e.1.state; watcher = e.0; tally = tally }) exits
            ∙ ap (λ t. record { state = t; watcher = given_back.0; tally = tally }) left_state

        abbrev behind : Machine S
        behind = after_exit unwatched (called pid (operated table pid r at)) (after_born unwatched pid (operated table pid r at).child m.watcher) (before.judged callers) (process pid (operated table pid r at).state)

        mounted_is : mounted_after scene ≡ behind
        mounted_is =
            before.mounted_call callers
            ∙ ap (λ came. after_plain unwatched pid came m.watcher (before.judged callers)) state_here
            ∙ ap (λ (reply : Reply). after_end unwatched pid (end_of r reply.outcome) (called pid (operated table pid r at)) (after_born unwatched pid (operated table pid r at).child m.watcher) (before.judged callers)) replies

        pub answered_together : StayTogether scene
        answered_together =
            let mine : behind.state ≡ (operated table pid r at).state = unwatched_exit pid (called pid (operated table pid r at)) (after_born unwatched pid (operated table pid r at).child m.watcher) (before.judged callers) (process pid (operated table pid r at).state) in
            let lasts = (calls_last table made pid s1 p1 r (before.can callers) is kind).lasts in
            subst (λ (e : Machine S). ComeFromCall table made e (traced_after scene)) (sym mounted_is)
            (subst (ComeFromCall table made behind) (sym traced_is)
            (record {
              matches = record {
                states = subst (λ tags. IsMatch table tags behind.state told) (sym silent) (subst (λ t. IsMatch table x.tags t told) (sym mine) match_told);
                statuses = exit_status unwatched pid (called pid (operated table pid r at)) (after_born unwatched pid (operated table pid r at).child m.watcher) (before.judged callers) (process pid (operated table pid r at).state) ∙ c.matches.statuses;
              };
              lasts = subst (LastsLawful (λ k. k) table (suc made)) (sym (mine ∙ sym (ap (λ (came : Came). came.state) state_here))) lasts;
              also_lasts = settled_lasts plain (suc made) pid (Answer answer) (computed pid q.image.regs left w) (longer_lasts plain made (computed pid q.image.regs left w) own_lasts);
              traces = record { bindings = c.traces.bindings; identities = c.traces.identities };
            }))

-- ---- a call that is cancelled

module _ {S : Type 0} {scene : Scene S} (callers : Callers scene) (r : Request) (e : Errno) (both : IsCancelledAlike scene r e) (calm : IsCalm scene) where
  open scene use {table, made, pid, traced as n}
  open callers use {comes as c, also_caller as q, also_lives as also}

  abbrev xx : Tracing
  xx = n.watcher

  abbrev stopped : Stopped
  stopped = before.stop callers

  abbrev mounted : State ℕ Image
  mounted = before.s1 callers

  abbrev caller : Process ℕ Image
  caller = before.p1 callers

  abbrev decoding_at : State ℕ Image
  decoding_at = decoded_in pid caller mounted

  abbrev dec : Memory
  dec = (decoded_by q).memory

  mine : CanBeCalled table made pid mounted caller
  mine = before.can callers

  -- the tracer has read the call
  reads_here : (decoded_by caller).reply ≡ Ok r
  reads_here = sym (before.decoded_here callers) ∙ both.decoded

  reads_there : (decoded_at stopped).reply ≡ Ok r
  reads_there = before.decoded_there callers ∙ sym (before.requests callers calm) ∙ reads_here

  cancels_here : edit_for (texts_at xx.bindings xx.tags (after_request stopped)) (after_request stopped) r ≡ Cancel e
  cancels_here = ap (λ t. edit_for (texts_at xx.bindings xx.tags (after_request t)) (after_request t) r) (sym (before.calling_is callers)) ∙ both.cancels

  alone_here : (next : ℕ) (r : Request) → edit_for (texts_at xx.bindings xx.tags (after_request stopped)) (after_request stopped) r ≡ Cancel e → child_of next r (Answer (refusal e)) ≡ None
  alone_here next (call.Clone flags sp ctid) cancels = absurd cc
  alone_here next _ cancels = refl

  abbrev led : Led
  led = led_of (texts_at xx.bindings xx.tags (after_request stopped)) pid r

  no_lists : (r : Request) → IsNoExec r → list_addresses r ≡ None
  no_lists (call.Execve path args env) kind = absurd kind
  no_lists _ kind = refl

  entered_is : entered xx stopped ≡ (with_pending (map.insert xx.pending pid (awaiting (arguments_at (after_request stopped)) r led (Some (refusal e)))) xx, no_longer_called (after_request stopped))
  entered_is =
      ap (after_decoding xx (after_request stopped)) reads_there
      ∙ ap (by_identities xx r (after_request stopped)) c.traces.identities
      ∙ ap (λ lists. after_plan xx (after_request stopped) r (planned_by xx.bindings xx.tags (after_request stopped) r lists (path_at r 0))) (no_lists r both.kind)
      ∙ ap (λ edit. keeping xx (after_request stopped) r led (applied edit (after_request stopped))) cancels_here

  after_is : after_request stopped ≡ edited q.image.regs dec stopped
  after_is = ap (λ (image : Image). edited image.regs (carried_out (decoding image.regs) image.memory).memory stopped) (own_image pid n.state q also)

  left_is : no_longer_called (after_request stopped) ≡ edited (without_call q.image.regs) dec stopped
  left_is =
      ap no_longer_called after_is
      ∙ ap (λ (image : Image). edited (without_call image.regs) image.memory (edited q.image.regs dec stopped)) (image-edited q.image.regs dec stopped (subst IsSome (sym also) refl))
      ∙ edited-twice q.image.regs (without_call q.image.regs) dec dec stopped

  -- the other machine, behind decoding
  at_is : (at_call scene).state ≡ decoding_at
  at_is = before.at_call_is callers

  refuses_here : operation pid r (seen table pid decoding_at r) (known image_layout pid decoding_at) ≡ refuse e
  refuses_here = subst (λ t. operation pid r (seen table pid t r) (known image_layout pid t) ≡ refuse e) at_is both.refuses

  alike_here : AreEqualUnmarked (done_in pid r (seen table pid decoding_at r) decoding_at).memory.pages dec.pages
  alike_here =
      let pages = ap (λ (action : Replying). (carried_out action (memory_of pid decoding_at)).memory.pages) refuses_here ∙ ap (λ (m : Memory). m.pages) (decoded_memory table made pid mounted caller mine) ∙ decoding-leaves-pages caller.image.regs caller.image.memory mine.holds in
      subst (λ one. AreEqualUnmarked one dec.pages) (sym pages)
      (subst (AreEqualUnmarked caller.image.memory.pages) (sym (before.pages_left callers)) ((before.match1 callers).images.memories pid caller q mine.lives also))

  cancelled_here : StayTogether scene
  cancelled_here =
      let own = c.also_lasts.lawful.processes pid q also in
      answered_together callers calm r reads_here both.kind dec led (refusal e) (stays-like (decoding q.image.regs) q.image.memory own.whole own.paged) alike_here
      (ap (λ (action : Replying). (carried_out action (memory_of pid decoding_at)).reply) refuses_here) (ap (λ number. tags_after xx.tags pid (noted_of r led.index number)) (none_made e) ∙ silent_refusal xx.tags pid r led.index)
      (no_longer_called (after_request stopped)) left_is (answered_calls_are_none stopped (decoded_at stopped).memory r (Cancel e) (refusal e) (there n.state pid nothing_handed q c.also_lasts.lawful.pids also) reads_there refl) entered_is
      (λ next. alone_here next r cancels_here)

pub cancelled_calls_go_together : (S : Type 0) → CancelledCallsGoTogether S
cancelled_calls_go_together S scene r e comes both calm = cancelled_here (callers_of comes) r e both calm
