-- The stops of execve(2): behind the first one the plain kernel carries it out, or finds no call.
use Rattle.std.specs.FinMap as map
use Rattle.std.proofs.Common.{◌≡◌, ℕ, Bool, false, true, cond, List, Option, Some, None, Result, Ok, Err, refl, sym, ap, subst, ◌∙◌, get_or, ℤ}
use Rattle.std.specs.Prelude.{IsSome, ◌==◌, slice_set}
use Rattle.std.specs.Int.{cast_signed, w64}
use Rattle.law_programs.proofs.pr_base.MapLemmas.{get-insert_same}
use Rattle.law_programs.specs.pr_base.declared.errno.Errno.{Errno}
use Rattle.law_programs.specs.pr_base.declared.errno.Errno.TheVariants.{ENOSYS}
use Rattle.law_programs.specs.rv_mem.Actions.{AreEqualUnmarked, CarriedOut, carried_out}
use Rattle.law_programs.specs.rv_mem.Memory.{Memory}
use Rattle.law_programs.specs.rv_mem.Pages.{HoldsBytes, Pages}
use Rattle.law_programs.specs.rv_mem.declared.regs.Regs.{Regs}
use Rattle.law_stops.specs.pt_bind.Tags.{TagTable, with_tag}
use Rattle.law_stops.specs.pt_bind.declared.slot.Slot.TheVariants.{Exe}
use Rattle.law_stops.specs.Scene.{Scene, came_here, came_there, traced_after}
use Rattle.law_stops.specs.Turning.{StayTogether}
use Rattle.law_stops.specs.pt_ident.Identity.{refusal}
use Rattle.law_stops.specs.pt_results.Notes.{noted, noted_of, tags_after}
use Rattle.law_stops.specs.kr_view.View.{plain}
use Rattle.law_stops.specs.kr_calls.Decoding.{decoding}
use Rattle.law_stops.specs.kr_calls.declared.request.Request.{Request}
use Rattle.law_stops.specs.kr_calls.declared.request.Request.TheVariants as call
use Rattle.law_programs.proofs.law_allowed.DecodedLemmas.{decoding-leaves-pages}
use Rattle.law_programs.proofs.law_allowed.RowLemmas.{StaysLike, lawful-image}
use Rattle.law_plans.specs.kr_seen.Carrying.{memory_of, with_memory, with_memory_of}
use Rattle.law_programs.specs.kr_execve.Execution.{Program, changes_of, execution, mount_of}
use Rattle.law_stops.specs.kr_model.Applied.{all_applied, images}
use Rattle.law_stops.specs.kr_model.State.{Image, Process, State, process, with_process}
use Rattle.law_stops.specs.kr_model.declared.outcome.Outcome.TheVariants.{Answer}
use Rattle.law_stops.specs.kr_steps.Answering.{answered, going, resumed, with_answer}
use Rattle.law_stops.specs.kr_steps.Calls.{LastsLawful}
use Rattle.law_stops.specs.kr_steps.Computing.{computed}
use Rattle.law_stops.specs.kr_turns.PlainCall.{Came, executed, plain_call, refusal_told, replaced}
use Rattle.law_stops.specs.kr_stops.Stopped.{IsThere, Stopped, edited, image_at, nothing_handed}
use Rattle.law_stops.specs.kr_turns.Turn.{Tally, after_exit, after_plain, called, calling}
use Rattle.law_stops.specs.kr_turns.declared.plain.CallEnd.TheVariants as end
use Rattle.law_stops.proofs.kr_stops.EditLemmas.{there as is_there}
use Rattle.law_stops.specs.pt_faker.Faking.{has_answered_zero, word_of}
use Rattle.law_stops.specs.pt_faker.Stopping.{after_request, decoded_at, register_at}
use Rattle.law_stops.specs.pt_tracer.Registers.{arguments_at}
use Rattle.law_stops.specs.pt_tracer.Watched.{Tracing, after_pending, awaiting, begin_as, begin_program, entered, exited, give_back, has_begun, tracer, with_pending, with_tags, without_pending}
use Rattle.law_stops.specs.pt_tracer.declared.pending.Pending.{Pending}
use Rattle.law_stops.specs.pt_tracer.declared.plan.Led.{Led}
use Rattle.law_stops.specs.law_edits.Answered.{StandsAtNoCall}
use Rattle.law_stops.specs.law_edits.Exits.{left_with}
use Rattle.law_stops.specs.law_edits.NoCalls.{without_call}
use Rattle.law_stops.proofs.law_edits.ExitLemmas.{exits_behind_answers}
use Rattle.law_stops.specs.law_walks.Scene.{IsMatched}
use Rattle.law_stops.specs.law_walks.States.{scene_of}
use Rattle.law_stops.specs.law_turns.Calls.{decoded_by, decoded_in}
use Rattle.law_stops.specs.law_turns.Lasting.{CanBeCalled}
use Rattle.law_stops.proofs.law_turns.CallLemmas.{by_request}
use Rattle.law_stops.proofs.law_turns.CalledLemmas.{decoded_lasts, decoded_lives, decoded_memory, decoded_process, lasts_living, settled_lasts}
use Rattle.law_stops.proofs.law_turns.ImageLemmas.{given}
use Rattle.law_stops.proofs.law_turns.OperateLemmas.{with_own_registers}
use Rattle.law_stops.proofs.AnsweredLemmas.{computed_twice, lives_changed, none_made, silent_refusal, told_again}
use Rattle.law_stops.proofs.CallLemmas as before
use Rattle.law_stops.proofs.CallLemmas.{own_image, plain_named}
use Rattle.law_execves.specs.Going.{GoesOn}
use Rattle.law_execves.specs.Replacing.{ArePutAlike, gone_on_with, mounts_of}
use Rattle.law_execves.proofs.BegunLemmas.{has_answer, told_no_zero}
use Rattle.law_execves.proofs.LoadedLemmas as loaded
use Rattle.law_execves.proofs.LoadedLemmas.{program-lasts}
use Rattle.law_execves.proofs.ReadingLemmas.{execution-keeps}
use Rattle.law_execves.proofs.RefusedLemmas as refused
use Rattle.law_execves.proofs.RefusedLemmas.{told_of}
use Rattle.law_execves.proofs.BehindLemmas.{Behind, behind, forgotten}
use Rattle.law_execves.proofs.ExecveLemmas.{ExecveCall}

-- an error is noted of no execve
silent : (tags : TagTable) (pid : ℕ) (path : List ℕ) (args env index : ℕ) (e : Errno) → tags_after tags pid (noted (call.Execve path args env) index (cast_signed w64 (word_of (told_of e)))) ≡ tags
silent tags pid path args env index e = ap (λ number. tags_after tags pid (noted_of (call.Execve path args env) index number)) (none_made e) ∙ silent_refusal tags pid (call.Execve path args env) index

module _ {S : Type 0} {scene : Scene S} (execve : ExecveCall scene) where
  open scene use {table, made, pid, traced as n}
  open execve use {callers, path, args, env}
  open execve.callers use {comes as c, also_caller as q, also_lives as also}

  abbrev x : Tracing
  x = n.watcher

  abbrev w : State ℕ Image
  w = n.state

  abbrev s1 : State ℕ Image
  s1 = before.s1 callers

  abbrev p1 : Process ℕ Image
  p1 = before.p1 callers

  abbrev pub stop : Stopped
  stop = before.stop callers

  abbrev r : Request
  r = call.Execve path args env

  abbrev done : CarriedOut (Result Program Errno)
  done = refused.done execve

  -- what is kept for the second stop
  abbrev pub pending : Led → Option ℤ → Pending
  pending led answer = awaiting (arguments_at (after_request stop)) r led answer

  abbrev pub kept : Pending → Tracing
  kept k = with_pending (map.insert x.pending pid k) x

  -- ---- what is so of both kernels, whatever the tracer keeps and leaves

  module _ (k : Pending) (v : Stopped) (entered_is : entered x stop ≡ (kept k, v)) (mine theirs : Came) (mine_is : plain_call table pid s1 ≡ mine) (theirs_is : plain_call plain pid v.state ≡ theirs) where
    here_is : came_here scene ≡ mine
    here_is = ap (plain_call table pid) (before.shelf callers) ∙ mine_is

    enters_is : entered x (calling 0 pid w) ≡ (kept k, v)
    enters_is = ap (entered x) (before.calling_is callers) ∙ entered_is

    there_is : came_there scene ≡ theirs
    there_is = ap (λ (e : Tracing × Stopped). plain_call plain pid e.1.state) enters_is ∙ theirs_is

    goes_on : (begun : Bool) → mine.end ≡ theirs.end → mine.child ≡ theirs.child → has_answered_zero (called pid mine) ≡ begun → has_begun k (called pid theirs) ≡ begun
        → StayTogether scene → GoesOn scene
    goes_on begun ends children begins also_begins together = record {
      together = together;
      ends = ap (λ (came : Came). came.end) here_is ∙ ends ∙ sym (ap (λ (came : Came). came.end) there_is);
      children = ap (λ (came : Came). came.child) here_is ∙ children ∙ sym (ap (λ (came : Came). came.child) there_is);
      pending = k;
      kept = ap (λ (e : Tracing × Stopped). map.get e.0.pending pid) enters_is ∙ get-insert_same x.pending pid k;
      begun = begun;
      begins = ap (λ came. has_answered_zero (called pid came)) here_is ∙ begins;
      also_begins = ap (λ came. has_begun k (called pid came)) there_is ∙ also_begins;
    }

  -- ---- the tracer cancels it

  module _ (reads : (decoded_by p1).reply ≡ Ok r) (reads_there : (decoded_at stop).reply ≡ Ok r) (e : Errno) (refuses : done.reply ≡ Err e) (left : Memory) (led : Led) (like : StaysLike q.image.memory.pages left.pages)
      (unmarked : AreEqualUnmarked p1.image.memory.pages left.pages) (v : Stopped) (v_is : v ≡ edited (without_call q.image.regs) left stop) (stands : StandsAtNoCall stop v) (entered_is : entered x stop ≡ (kept (pending led (Some (refusal e))), v)) where
    abbrev y : Tracing
    y = kept (pending led (Some (refusal e)))

    abbrev shown : State ℕ Image
    shown = computed pid (without_call q.image.regs) left w

    abbrev none : Came
    none = refusal_told pid ENOSYS shown

    came_is : plain_call plain pid v.state ≡ none
    came_is = ap (λ (u : Stopped). plain_call plain pid u.state) v_is ∙ subst (λ (u : Stopped). plain_call plain u.pid u.state ≡ refusal_told u.pid ENOSYS u.state) v_is (stands.refuses plain)

    abbrev q3 : Process ℕ Image
    q3 = going (with_answer (refusal ENOSYS)) false (given pid (without_call q.image.regs) left q)

    lives3 : process pid none.state ≡ Some q3
    lives3 = lives_changed pid (going (with_answer (refusal ENOSYS)) false) (λ p. refl) shown (given pid (without_call q.image.regs) left q) (lives_changed pid (given pid (without_call q.image.regs) left) (λ p. refl) w q also)

    abbrev stop2 : Stopped
    stop2 = called pid none

    there2 : IsThere stop2
    there2 =
        let lawful = lawful-image (λ k. k) plain w c.also_lasts.lawful pid q also left like (λ _. without_call q.image.regs) in
        let lasts = settled_lasts plain made pid (Answer (refusal ENOSYS)) shown (record { lawful = lawful; lasts = lasts_living made (with_process pid (given pid (without_call q.image.regs) left)) w c.also_lasts.lasts }) in
        is_there none.state pid nothing_handed q3 lasts.lawful.pids lives3

    exits : exited y stop2 ≡ left_with y stop2 r led (word_of (refusal e)) (image_at stop).regs.x
    exits =
        exits_behind_answers y stop stop2 (decoded_at stop).memory r led (refusal e) (word_of (refusal ENOSYS)) c.traces.identities (get-insert_same x.pending pid (pending led (Some (refusal e)))) reads_there
        (is_there w pid nothing_handed q c.also_lasts.lawful.pids also) there2
        (ap (λ (image : Image). image.regs.x) (own_image pid none.state q3 lives3) ∙ ap (λ (image : Image). slice_set (without_call image.regs).x 10 (word_of (refusal ENOSYS))) (sym (own_image pid w q also)))

    abbrev back : Tracing × Stopped
    back = left_with y stop2 r led (word_of (refusal e)) (image_at stop).regs.x

    back_state : back.1.state ≡ answered pid (told_of e) (computed pid q.image.regs left w)
    back_state =
        ap (λ (image : Image). computed pid (record { x = slice_set (image_at stop).regs.x 10 (word_of (refusal e)); pc = image.regs.pc }) image.memory none.state) (own_image pid none.state q3 lives3)
        ∙ ap (λ (image : Image). computed pid (record { x = slice_set image.regs.x 10 (word_of (refusal e)); pc = q3.image.regs.pc }) left none.state) (own_image pid w q also)
        ∙ told_again pid q.image.regs (record { x = slice_set q.image.regs.x 10 (word_of (refusal e)); pc = q3.image.regs.pc }) left (refusal ENOSYS) (told_of e) w refl (without_call q.image.regs)

    abbrev tally : Tally
    tally = before.unjudged callers v

    traced_is : traced_after scene ≡ record { state = answered pid (told_of e) (computed pid q.image.regs left w); watcher = back.0; tally = tally }
    traced_is =
        before.traced_call callers y v entered_is
        ∙ ap (λ came. after_plain tracer pid came y tally) came_is
        ∙ ap (after_exit tracer stop2 y tally) lives3
        ∙ ap (λ (e : Tracing × Stopped). record { state = e.1.state; watcher = e.0; tally = tally }) exits
        ∙ ap (λ t. record { state = t; watcher = back.0; tally = tally }) back_state

    cancelled_together : StayTogether scene
    cancelled_together =
        refused.refused_together execve reads e refuses left like unmarked back.0 tally (silent x.tags pid path args env led.index e)
        (record { bindings = c.traces.bindings; identities = c.traces.identities }) refl traced_is

    pub cancelled_on : GoesOn scene
    cancelled_on =
        goes_on (pending led (Some (refusal e))) v entered_is (refused.came execve reads e refuses) none
        (refused.refused_is execve reads e refuses) came_is false refl refl
        (refused.none_begins execve reads e refuses) refl cancelled_together

  -- ---- the plain kernel carries it out

  -- the registers and the memory that the tracer leaves, in which the plain kernel finds another execve; and where that is refused, the
  -- caller's registers are given back at the second stop, but for the error
  pub record IsEntered (registers : List ℕ) (memory3 : Memory) (led : Led) (host : List ℕ) (put : ℕ) : Type 0 where
    pub entered_is : entered x stop ≡ (kept (pending led None), edited (record { x = registers; pc = q.image.regs.pc }) memory3 stop)
    pub like : StaysLike q.image.memory.pages memory3.pages
    pub bytes : HoldsBytes memory3.pages
    pub unmarked : AreEqualUnmarked p1.image.memory.pages memory3.pages
    pub reads : (carried_out (decoding (record { x = registers; pc = q.image.regs.pc })) memory3).reply ≡ Ok (call.Execve host put env)
    pub exits : (came : Came) (e : Errno) → IsThere (called pid came) → (image_at (called pid came)).regs.x ≡ slice_set registers 10 (word_of (told_of e))
        → exited (kept (pending led None)) (called pid came) ≡ left_with (kept (pending led None)) (called pid came) r led (word_of (told_of e)) (image_at stop).regs.x

  module _ (registers : List ℕ) (memory3 : Memory) (led : Led) (host : List ℕ) (put : ℕ) (entry : IsEntered registers memory3 led host put) where
    abbrev yy : Tracing
    yy = kept (pending led None)

    abbrev regs3 : Regs
    regs3 = record { x = registers; pc = q.image.regs.pc }

    abbrev left3 : Stopped
    left3 = edited regs3 memory3 stop

    abbrev pub w3 : State ℕ Image
    w3 = computed pid regs3 memory3 w

    abbrev pub process3 : Process ℕ Image
    process3 = given pid regs3 memory3 q

    lives_left : process pid w3 ≡ Some process3
    lives_left = lives_changed pid (given pid regs3 memory3) (λ p. refl) w q also

    pub can3 : CanBeCalled plain made pid w3 process3
    can3 = record {
      lives = lives_left;
      lasts = record { lawful = lawful-image (λ k. k) plain w c.also_lasts.lawful pid q also memory3 entry.like (λ _. regs3); lasts = lasts_living made (with_process pid (given pid regs3 memory3)) w c.also_lasts.lasts };
      few = c.few;
      holds = entry.bytes;
      named = plain_named;
    }

    abbrev memory4 : Memory
    memory4 = (decoded_by process3).memory

    -- the plain kernel's state behind its own decoding
    abbrev pub w4 : State ℕ Image
    w4 = decoded_in pid process3 w3

    pub w4_is : w4 ≡ computed pid regs3 memory4 w
    w4_is = computed_twice pid regs3 regs3 memory3 memory4 w

    abbrev pub done4 : CarriedOut (Result Program Errno)
    done4 = carried_out (execution plain pid w4 host put env) (memory_of pid w4)

    pub memory4_is : (memory_of pid w4).pages ≡ memory3.pages
    memory4_is = ap (λ (m : Memory). m.pages) (decoded_memory plain made pid w3 process3 can3) ∙ decoding-leaves-pages regs3 memory3 entry.bytes

    done4_pages : done4.memory.pages ≡ memory3.pages
    done4_pages = execution-keeps plain pid w4 host put env (memory_of pid w4) ∙ memory4_is

    came4_is : plain_call plain pid w3 ≡ executed plain pid host put env w4
    came4_is = by_request table pid plain w3 process3 (Ok (call.Execve host put env)) lives_left entry.reads

    abbrev tally3 : Tally
    tally3 = before.unjudged callers left3

    -- ---- and refuses it

    module _ (reads : (decoded_by p1).reply ≡ Ok r) (e : Errno) (refuses : done.reply ≡ Err e) (refuses4 : done4.reply ≡ Err e) where
      abbrev came5 : Came
      came5 = refusal_told pid e (with_memory_of pid done4.memory w4)

      came5_is : plain_call plain pid w3 ≡ came5
      came5_is = came4_is ∙ ap (λ r. replaced pid r (all_applied images (record { found = mount_of r; directory = None }) pid (changes_of r) (with_memory_of pid done4.memory w4))) refuses4

      abbrev behind5 : State ℕ Image
      behind5 = computed pid regs3 done4.memory w

      state5_is : came5.state ≡ answered pid (told_of e) behind5
      state5_is =
          ap (answered pid (told_of e))
          (with_own_registers pid done4.memory w4.next_pid w4 (decoded_process plain made pid w3 process3 can3) (decoded_lasts plain made pid w3 process3 can3).lawful.pids.living (decoded_lives plain made pid w3 process3 can3)
          ∙ ap (computed pid regs3 done4.memory) w4_is ∙ computed_twice pid regs3 regs3 memory4 done4.memory w)

      abbrev q5 : Process ℕ Image
      q5 = going (with_answer (told_of e)) false (given pid regs3 done4.memory q)

      lives5 : process pid came5.state ≡ Some q5
      lives5 =
          ap (process pid) state5_is
          ∙ lives_changed pid (going (with_answer (told_of e)) false) (λ p. refl) behind5 (given pid regs3 done4.memory q) (lives_changed pid (given pid regs3 done4.memory) (λ p. refl) w q also)

      stays5 : StaysLike q.image.memory.pages done4.memory.pages
      stays5 = subst (StaysLike q.image.memory.pages) (sym done4_pages) entry.like

      there5 : IsThere (called pid came5)
      there5 =
          let lawful = lawful-image (λ k. k) plain w c.also_lasts.lawful pid q also done4.memory stays5 (λ _. regs3) in
          let lasts = settled_lasts plain made pid (Answer (told_of e)) behind5 (record { lawful = lawful; lasts = lasts_living made (with_process pid (given pid regs3 done4.memory)) w c.also_lasts.lasts }) in
          is_there came5.state pid nothing_handed q5 (subst (λ t. LastsLawful (λ k. k) plain made t) (sym state5_is) lasts).lawful.pids lives5

      abbrev back5 : Tracing × Stopped
      back5 = left_with yy (called pid came5) r led (word_of (told_of e)) (image_at stop).regs.x

      exits5 : exited yy (called pid came5) ≡ back5
      exits5 = entry.exits came5 e there5 (ap (λ (image : Image). image.regs.x) (own_image pid came5.state q5 lives5))

      back5_state : back5.1.state ≡ answered pid (told_of e) (computed pid q.image.regs done4.memory w)
      back5_state =
          ap (λ (image : Image). computed pid (record { x = slice_set (image_at stop).regs.x 10 (word_of (told_of e)); pc = image.regs.pc }) image.memory came5.state) (own_image pid came5.state q5 lives5)
          ∙ ap (λ (image : Image). computed pid (record { x = slice_set image.regs.x 10 (word_of (told_of e)); pc = q5.image.regs.pc }) done4.memory came5.state) (own_image pid w q also)
          ∙ ap (computed pid (record { x = slice_set q.image.regs.x 10 (word_of (told_of e)); pc = q5.image.regs.pc }) done4.memory) state5_is
          ∙ told_again pid q.image.regs (record { x = slice_set q.image.regs.x 10 (word_of (told_of e)); pc = q5.image.regs.pc }) done4.memory (told_of e) (told_of e) w refl regs3

      traced5_is : traced_after scene ≡ record { state = answered pid (told_of e) (computed pid q.image.regs done4.memory w); watcher = back5.0; tally = tally3 }
      traced5_is =
          before.traced_call callers yy left3 entry.entered_is
          ∙ ap (λ came. after_plain tracer pid came yy tally3) came5_is
          ∙ ap (after_exit tracer (called pid came5) yy tally3) lives5
          ∙ ap (λ (e : Tracing × Stopped). record { state = e.1.state; watcher = e.0; tally = tally3 }) exits5
          ∙ ap (λ t. record { state = t; watcher = back5.0; tally = tally3 }) back5_state

      refused_together : StayTogether scene
      refused_together =
          refused.refused_together execve reads e refuses done4.memory stays5 (subst (λ (pages : Pages). AreEqualUnmarked p1.image.memory.pages pages) (sym done4_pages) entry.unmarked)
          back5.0 tally3 (silent x.tags pid path args env led.index e) (record { bindings = c.traces.bindings; identities = c.traces.identities }) refl traced5_is

      none_begins : has_answered_zero (called pid came5) ≡ false
      none_begins =
          ap (λ (image : Image). get_or image.regs.x 10 0 == 0) (own_image pid came5.state q5 lives5)
          ∙ told_no_zero registers e (has_answer regs3 memory3 host put env entry.reads)

      pub refused_on : GoesOn scene
      refused_on =
          goes_on (pending led None) left3 entry.entered_is (refused.came execve reads e refuses) came5
          (refused.refused_is execve reads e refuses) came5_is false refl refl
          (refused.none_begins execve reads e refuses) none_begins refused_together

    -- ---- or puts a program in its place

    module _ (reads : (decoded_by p1).reply ≡ Ok r) (program other : Program) (loads : done.reply ≡ Ok program) (loads4 : done4.reply ≡ Ok other) (matched : IsMatched (scene_of table s1 pid x.tags)) (alike : ArePutAlike table pid s1 w program other led.index)
        (zero : get_or other.image.regs.x 10 0 ≡ 0) where
      abbrev came6 : Came
      came6 = record { state = resumed pid (all_applied images (mounts_of other) pid (changes_of (Ok other)) (with_memory_of pid done4.memory w4)); end = end.Replaced; child = None; handed = nothing_handed }

      came6_is : plain_call plain pid w3 ≡ came6
      came6_is = came4_is ∙ ap (λ r. replaced pid r (all_applied images (record { found = mount_of r; directory = None }) pid (changes_of r) (with_memory_of pid done4.memory w4))) loads4

      state6_is : came6.state ≡ gone_on_with pid other w
      state6_is =
          ap (resumed pid)
          (forgotten pid (mounts_of other) other (with_memory done4.memory) w4
          ∙ forgotten pid (mounts_of other) other (λ _. record { regs = regs3; memory = memory4 }) w3
          ∙ forgotten pid (mounts_of other) other (λ _. record { regs = regs3; memory = memory3 }) w)

      after6 : Behind pid (mounts_of other) other w
      after6 = behind pid (mounts_of other) other w (subst IsSome (sym also) refl)

      abbrev q6 : Process ℕ Image
      q6 = going (λ regs. regs) false after6.process_there

      lives6 : process pid came6.state ≡ Some q6
      lives6 = ap (process pid) state6_is ∙ lives_changed pid (going (λ regs. regs) false) (λ p. refl) (all_applied images (mounts_of other) pid (changes_of (Ok other)) w) after6.process_there after6.lives

      abbrev stop6 : Stopped
      stop6 = called pid came6

      answers_zero : register_at stop6 10 ≡ 0
      answers_zero = ap (λ (image : Image). get_or image.regs.x 10 0) (own_image pid came6.state q6 lives6) ∙ ap (λ (regs : Regs). get_or regs.x 10 0) after6.registers ∙ zero

      abbrev back6 : Tracing
      back6 = with_tags (with_tag x.tags pid Exe led.index) (without_pending pid yy)

      exits6 : exited yy stop6 ≡ (back6, stop6)
      exits6 =
          ap (after_pending (without_pending pid yy) stop6) (get-insert_same x.pending pid (pending led None))
          ∙ ap (λ word. cond (word == 0) (begin_program (without_pending pid yy) (pending led None) stop6) (give_back (without_pending pid yy) (pending led None) stop6)) answers_zero
          ∙ ap (begin_as back6 stop6) c.traces.identities

      traced6_is : traced_after scene ≡ record { state = gone_on_with pid other w; watcher = back6; tally = tally3 }
      traced6_is =
          before.traced_call callers yy left3 entry.entered_is
          ∙ ap (λ came. after_plain tracer pid came yy tally3) came6_is
          ∙ ap (after_exit tracer stop6 yy tally3) lives6
          ∙ ap (λ (e : Tracing × Stopped). record { state = e.1.state; watcher = e.0; tally = tally3 }) exits6
          ∙ ap (λ t. record { state = t; watcher = back6; tally = tally3 }) state6_is

      loaded_together : StayTogether scene
      loaded_together =
          loaded.loaded_together execve reads program other led.index loads matched alike back6 tally3 refl
          (record { bindings = c.traces.bindings; identities = c.traces.identities }) refl traced6_is

      pub loaded_on : GoesOn scene
      loaded_on =
          goes_on (pending led None) left3 entry.entered_is (loaded.came execve reads program other led.index loads matched alike) came6
          (loaded.loaded_is execve reads program other led.index loads matched alike) came6_is true refl refl
          (loaded.one_begins execve reads program other led.index loads matched alike (ap (λ (image : Image). get_or image.regs.x 10 0) alike.same.image ∙ zero))
          (ap (λ word. word == 0) answers_zero) loaded_together
