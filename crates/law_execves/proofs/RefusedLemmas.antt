-- Execve(2) that both kernels refuse, or that a tracer cancels: what is left of both machines.
use Rattle.std.proofs.Common.{◌≡◌, ℕ, suc, false, Some, None, Result, Ok, Err, get_or, refl, sym, ap, subst, ◌∙◌, ℤ}
use Rattle.std.specs.Prelude.{neg_ℤ, pos, ◌==◌}
use Rattle.law_programs.specs.pr_base.Errno.{errno_number}
use Rattle.law_programs.specs.pr_base.declared.errno.Errno.{Errno}
use Rattle.law_programs.specs.rv_mem.Actions.{AreEqualUnmarked, CarriedOut, carried_out}
use Rattle.law_programs.specs.rv_mem.Memory.{Memory}
use Rattle.law_programs.specs.rv_mem.Pages.{Pages}
use Rattle.law_programs.specs.rv_mem.declared.regs.Regs.{Regs}
use Rattle.law_stops.specs.kr_view.View.{plain}
use Rattle.law_stops.specs.kr_calls.declared.request.Request.TheVariants as call
use Rattle.law_programs.proofs.law_allowed.DecodedLemmas.{decoding-leaves-pages}
use Rattle.law_programs.proofs.law_allowed.RowLemmas.{StaysLike, lawful-image}
use Rattle.law_plans.specs.kr_seen.Carrying.{memory_of, with_memory_of}
use Rattle.law_programs.specs.kr_execve.Execution.{Program, changes_of, execution, mount_of}
use Rattle.law_stops.specs.kr_model.Applied.{all_applied, images}
use Rattle.law_stops.specs.kr_model.State.{Image, Process, State, process, with_process}
use Rattle.law_stops.specs.kr_model.declared.outcome.Outcome.TheVariants.{Answer}
use Rattle.law_stops.specs.kr_steps.Answering.{answered, going, with_answer}
use Rattle.law_stops.specs.kr_steps.Calls.{LastsLawful}
use Rattle.law_stops.specs.kr_steps.Computing.{computed}
use Rattle.law_stops.specs.kr_turns.PlainCall.{Came, executed, plain_call, refusal_told, replaced}
use Rattle.law_stops.specs.kr_stops.Stopped.{image_in}
use Rattle.law_stops.specs.kr_turns.Turn.{Machine, Tally, after_exit, after_plain, called}
use Rattle.law_stops.specs.kr_stops.Watching.{unwatched}
use Rattle.law_stops.specs.pt_faker.Faking.{has_answered_zero}
use Rattle.law_stops.specs.pt_tracer.Watched.{Tracing}
use Rattle.law_plans.specs.law_places.Matching.{IsMatch}
use Rattle.law_stops.specs.law_turns.Calls.{decoded_by, decoded_in}
use Rattle.law_stops.specs.law_turns.Lasting.{CanBeCalled}
use Rattle.law_stops.proofs.law_turns.CallLemmas.{by_request}
use Rattle.law_stops.proofs.law_turns.CalledLemmas.{decoded_lasts, decoded_lives, decoded_memory, decoded_process, lasts_living, longer_lasts, settled_lasts}
use Rattle.law_stops.proofs.law_turns.ImageLemmas.{given}
use Rattle.law_stops.proofs.law_turns.MatchLemmas.{match_computed}
use Rattle.law_stops.proofs.law_turns.OperateLemmas.{with_own_registers}
use Rattle.law_stops.proofs.law_turns.SettleLemmas.{match_settled}
use Rattle.law_stops.specs.Scene.{Scene, mounted_after, traced_after}
use Rattle.law_stops.specs.Turning.{ComeFromCall, StayTogether, Traces}
use Rattle.law_stops.proofs.AnsweredLemmas.{computed_twice, lives_changed}
use Rattle.law_stops.proofs.CallLemmas as before
use Rattle.law_stops.proofs.CallLemmas.{exit_status, own_image, unwatched_exit}
use Rattle.law_execves.proofs.BegunLemmas.{has_answer, told_no_zero}
use Rattle.law_execves.proofs.ExecveLemmas.{ExecveCall}
use Rattle.law_execves.proofs.ReadingLemmas.{execution-keeps}

-- what a refusal tells
abbrev pub told_of : Errno → ℤ
told_of e = neg_ℤ (pos (errno_number e))

module _ {S : Type 0} {scene : Scene S} (execve : ExecveCall scene) where
  open scene use {table, made, pid, mounted as m, traced as n}
  open execve use {callers, path, args, env}
  open execve.callers use {comes as c, also_caller as q, also_lives as also}

  abbrev x : Tracing
  x = n.watcher

  abbrev w : State ℕ Image
  w = n.state

  abbrev pub s1 : State ℕ Image
  s1 = before.s1 callers

  abbrev pub p1 : Process ℕ Image
  p1 = before.p1 callers

  abbrev pub at : State ℕ Image
  at = decoded_in pid p1 s1

  mine : CanBeCalled table made pid s1 p1
  mine = before.can callers

  abbrev pub done : CarriedOut (Result Program Errno)
  done = carried_out (execution table pid at path args env) (memory_of pid at)

  -- what was read of a memory leaves its pages
  pub done_pages : done.memory.pages ≡ p1.image.memory.pages
  done_pages =
      execution-keeps table pid at path args env (memory_of pid at)
      ∙ ap (λ (m : Memory). m.pages) (decoded_memory table made pid s1 p1 mine)
      ∙ decoding-leaves-pages p1.image.regs p1.image.memory mine.holds

  pub came_is : (decoded_by p1).reply ≡ Ok (call.Execve path args env) → plain_call table pid s1 ≡ executed table pid path args env at
  came_is reads = by_request table pid table s1 p1 (Ok (call.Execve path args env)) mine.lives reads

  -- ---- a refusal

  module _ (reads : (decoded_by p1).reply ≡ Ok (call.Execve path args env)) (e : Errno) (refuses : done.reply ≡ Err e) where
    abbrev pub came : Came
    came = refusal_told pid e (with_memory_of pid done.memory at)

    pub refused_is : plain_call table pid s1 ≡ came
    refused_is = came_is reads ∙ ap (λ r. replaced pid r (all_applied images (record { found = mount_of r; directory = None }) pid (changes_of r) (with_memory_of pid done.memory at))) refuses

    abbrev told : State ℕ Image
    told = answered pid (told_of e) (computed pid p1.image.regs done.memory s1)

    came_state : came.state ≡ told
    came_state =
        ap (answered pid (told_of e))
        (with_own_registers pid done.memory at.next_pid at (decoded_process table made pid s1 p1 mine) (decoded_lasts table made pid s1 p1 mine).lawful.pids.living (decoded_lives table made pid s1 p1 mine)
        ∙ computed_twice pid p1.image.regs p1.image.regs (decoded_by p1).memory done.memory s1)

    -- so the caller reads no 0
    told_lives : process pid told ≡ Some (going (with_answer (told_of e)) false (given pid p1.image.regs done.memory p1))
    told_lives =
        lives_changed pid (going (with_answer (told_of e)) false) (λ p. refl) (computed pid p1.image.regs done.memory s1) (given pid p1.image.regs done.memory p1)
        (lives_changed pid (given pid p1.image.regs done.memory) (λ p. refl) s1 p1 mine.lives)

    pub none_begins : has_answered_zero (called pid came) ≡ false
    none_begins =
        ap (λ t. get_or (image_in pid t).regs.x 10 0 == 0) came_state
        ∙ ap (λ (image : Image). get_or image.regs.x 10 0 == 0) (own_image pid told (going (with_answer (told_of e)) false (given pid p1.image.regs done.memory p1)) told_lives)
        ∙ told_no_zero p1.image.regs.x e (has_answer p1.image.regs p1.image.memory path args env reads)

    like : StaysLike p1.image.memory.pages done.memory.pages
    like =
        let own = mine.lasts.lawful.processes pid p1 mine.lives in
        subst (StaysLike p1.image.memory.pages) (sym done_pages) (record { whole = own.whole; placed = own.paged; layout = refl })

    told_lasts : LastsLawful (λ k. k) table (suc made) told
    told_lasts =
        settled_lasts table (suc made) pid (Answer (told_of e)) (computed pid p1.image.regs done.memory s1)
        (longer_lasts table made (computed pid p1.image.regs done.memory s1)
        (record {
          lawful = lawful-image (λ k. k) table s1 mine.lasts.lawful pid p1 mine.lives done.memory like (λ _. p1.image.regs);
          lasts = lasts_living made (with_process pid (given pid p1.image.regs done.memory)) s1 mine.lasts.lasts;
        }))

    -- what the tracer leaves of the plain machine: its own registers with the error, and maybe other marked bytes
    module _ (left : Memory) (stays : StaysLike q.image.memory.pages left.pages) (unmarked : AreEqualUnmarked p1.image.memory.pages left.pages) where
      abbrev also_told : State ℕ Image
      also_told = answered pid (told_of e) (computed pid q.image.regs left w)

      also_lasts : LastsLawful (λ k. k) plain (suc made) also_told
      also_lasts =
          settled_lasts plain (suc made) pid (Answer (told_of e)) (computed pid q.image.regs left w)
          (longer_lasts plain made (computed pid q.image.regs left w)
          (record {
            lawful = lawful-image (λ k. k) plain w c.also_lasts.lawful pid q also left stays (λ _. q.image.regs);
            lasts = lasts_living made (with_process pid (given pid q.image.regs left)) w c.also_lasts.lasts;
          }))

      match_told : IsMatch table x.tags told also_told
      match_told =
          let alike = subst (λ (pages : Pages). AreEqualUnmarked pages left.pages) (sym done_pages) unmarked in
          let both = match_computed table x.tags s1 w (before.match1 callers) pid p1 q mine.lives also p1.image.regs done.memory left alike like stays.layout in
          match_settled table x.tags pid (Answer (told_of e)) (computed pid p1.image.regs done.memory s1) (computed pid q.image.regs left w)
          (subst (λ (regs : Regs). IsMatch table x.tags (computed pid p1.image.regs done.memory s1) (computed pid regs left w)) (before.same_regs callers) both)

      abbrev judged : Tally
      judged = before.judged callers

      abbrev mounted : Machine S
      mounted = after_exit unwatched (called pid came) m.watcher judged (process pid came.state)

      mounted_is : mounted_after scene ≡ mounted
      mounted_is = before.mounted_call callers ∙ ap (λ came. after_plain unwatched pid came m.watcher judged) refused_is

      pub refused_together : (y : Tracing) (tally : Tally) → y.tags ≡ x.tags → Traces table y → tally.status ≡ n.tally.status → traced_after scene ≡ record { state = also_told; watcher = y; tally = tally }
          → StayTogether scene
      refused_together y tally tags traces status traced_is =
          let exit_state : mounted.state ≡ told = unwatched_exit pid (called pid came) m.watcher judged (process pid came.state) ∙ came_state in
          subst (λ (e : Machine S). ComeFromCall table made e (traced_after scene)) (sym mounted_is)
          (subst (ComeFromCall table made mounted) (sym traced_is)
          (record {
            matches = record {
              states = subst (λ t. IsMatch table y.tags t also_told) (sym exit_state) (subst (λ tags. IsMatch table tags told also_told) (sym tags) match_told);
              statuses = exit_status unwatched pid (called pid came) m.watcher judged (process pid came.state) ∙ c.matches.statuses ∙ sym status;
            };
            lasts = subst (LastsLawful (λ k. k) table (suc made)) (sym exit_state) told_lasts;
            also_lasts = also_lasts;
            traces = traces;
          }))
