-- What a call leaves of a lawful state with what lasts.
use Rattle.std.proofs.Common.{◌≡◌, ℕ, suc, true, false, cond, List, [], Some, Ok, Err, refl, sym, ap, subst, ◌∙◌, arith, eq-eqb}
use Rattle.std.specs.Prelude.{neg_ℤ, pos}
use Rattle.std.specs.Option.{option_map}
use Rattle.kr_core.specs.pr_base.Errno.{errno_number}
use Rattle.kr_core.specs.pr_base.declared.errno.Errno.{Errno}
use Rattle.pt_results.specs.rv_mem.Actions.{carried_out}
use Rattle.pt_results.specs.rv_mem.Memory.{Memory}
use Rattle.pt_results.specs.rv_mem.Pages.{Pages}
use Rattle.pt_results.specs.rv_mem.declared.regs.Regs.{Regs}
use Rattle.law_places.specs.kr_view.View.{Row}
use Rattle.pt_results.specs.kr_calls.Decoding.{decoding}
use Rattle.pt_results.specs.kr_calls.declared.request.Request.{Request}
use Rattle.kr_core.specs.law_allowed.Lasting.{Lasts}
use Rattle.kr_core.proofs.law_allowed.ChangeLemmas.{modest-last}
use Rattle.kr_core.proofs.law_allowed.RoomLemmas.{lasting-room}
use Rattle.kr_core.proofs.law_lawful.ProcessChangeLemmas.{found}
use Rattle.law_places.specs.kr_model.Applied.{Mounts, with_image, with_living}
use Rattle.law_places.specs.kr_model.Known.{known}
use Rattle.law_places.specs.kr_model.Operation.{operation}
use Rattle.law_places.specs.kr_model.State.{Image, Process, State, at_pid, image_layout, process, with_process}
use Rattle.law_places.specs.kr_model.Walks.{seen, targets_of}
use Rattle.law_places.specs.kr_model.declared.outcome.Outcome.{Outcome}
use Rattle.law_places.specs.kr_model.declared.outcome.Outcome.TheVariants.{Answer, Wait, Ended, NoMemory}
use Rattle.kr_core.specs.law_allowed.Allowed.{HoldsBytes, LeavesLawful}
use Rattle.kr_core.specs.law_allowed.Resting.{HasSmallNumbers}
use Rattle.kr_core.specs.law_allowed.Told.{mounts_walked}
use Rattle.kr_core.proofs.law_allowed.DecodedLemmas.{decoded-are-givable, decoding-leaves-pages}
use Rattle.kr_core.proofs.law_allowed.RowLemmas.{lawful-image, stays-like}
use Rattle.kr_core.proofs.law_allowed.TargetLemmas.{walked-calls-leave-lawful}
use Rattle.kr_core.specs.kr_seen.Carrying.{after_row, memory_of, with_memory, with_memory_of}
use Rattle.kr_core.proofs.kr_perform.AroundLemmas.{lead_to_places}
use Rattle.kr_core.proofs.kr_perform.NamingLemmas.{walks_name}
use Rattle.kr_core.specs.kr_steps.Answering.{going, with_answer}
use Rattle.kr_core.specs.kr_steps.Calls.{IsNoExec, LastsLawful}
use Rattle.kr_core.specs.kr_steps.Computing.{computed}
use Rattle.kr_core.specs.kr_steps.Settling.{settled}
use Rattle.kr_core.specs.kr_turns.Breaking.{no_mounts}
use Rattle.kr_core.specs.kr_turns.PlainCall.{Came, plain_call}
use Rattle.kr_core.proofs.kr_turns.PlainLemmas.{no-exec-requested}
use Rattle.law_places.proofs.TagLemmas.{found_is}
use Rattle.law_turns.specs.Calls.{decoded_by, decoded_in}
use Rattle.law_turns.specs.Lasting.{CallsLast, CanBeCalled, LeavesLasting, RefusedCallsLast}
use Rattle.law_turns.specs.Operating.{done_in}
use Rattle.law_turns.proofs.CallLemmas.{by_request}
use Rattle.law_turns.proofs.ImageLemmas.{given}
use Rattle.law_turns.proofs.QuietLemmas.{memory_computed}
use Rattle.law_turns.proofs.SettleLemmas.{lawful_gone}

-- a process that is given other registers and another memory lives with them
pub lives_computed : (pid : ℕ) (regs : Regs) (memory : Memory) (s : State ℕ Image) (p : Process ℕ Image) → process pid s ≡ Some p → process pid (computed pid regs memory s) ≡ Some (given pid regs memory p)
lives_computed pid regs memory s p lives =
    found pid (given pid regs memory) (λ p. refl) pid s.living
    ∙ ap (option_map (at_pid pid (given pid regs memory))) lives
    ∙ ap (λ b. Some (cond b (given pid regs memory p) p)) (eq-eqb p.pid pid (found_is pid s.living p lives))

-- ---- what lasts rests on no process

pub lasts_living : (made : ℕ) (f : List (Process ℕ Image) → List (Process ℕ Image)) (s : State ℕ Image) → Lasts made s → Lasts made (with_living f s)
lasts_living made f s lasts = record {
  texts = lasts.texts;
  owners = lasts.owners;
  user = lasts.user;
  drawn = record { inodes = lasts.drawn.inodes; serials = lasts.drawn.serials; files = lasts.drawn.files; pipes = lasts.drawn.pipes; pids = lasts.drawn.pids };
}

-- it lasts a call longer
pub longer_lasts : (table : List Row) (made : ℕ) (s : State ℕ Image) → LastsLawful (λ m. m) table made s → LastsLawful (λ m. m) table (suc made) s
longer_lasts table made s l = record {
  lawful = l.lawful;
  lasts = modest-last ℕ (λ m. m) table no_mounts 0 made [] s l.lawful tt (record { users = tt; drawn = record { names = omega arith; files = omega arith; pids = omega arith } }) l.lasts;
}

module _ (table : List Row) (made pid : ℕ) where
  -- nor on what a caller is told
  pub settled_lasts : (outcome : Outcome) (s : State ℕ Image) → LastsLawful (λ m. m) table made s → LastsLawful (λ m. m) table made (settled pid outcome s)
  settled_lasts (Answer value) s l = record { lawful = lawful_gone pid (with_answer value) false table s l.lawful; lasts = lasts_living made (with_process pid (going (with_answer value) false)) s l.lasts }
  settled_lasts Wait s l = record { lawful = lawful_gone pid (λ regs. regs) true table s l.lawful; lasts = lasts_living made (with_process pid (going (λ regs. regs) true)) s l.lasts }
  settled_lasts Ended s l = l
  settled_lasts NoMemory s l = l

module _ (table : List Row) (made pid : ℕ) (s : State ℕ Image) (p : Process ℕ Image) (can : CanBeCalled table made pid s p) where
  -- ---- behind decoding

  abbrev pub decoded_process : Process ℕ Image
  decoded_process = given pid p.image.regs (decoded_by p).memory p

  pub decoded_lives : process pid (decoded_in pid p s) ≡ Some decoded_process
  decoded_lives = lives_computed pid p.image.regs (decoded_by p).memory s p can.lives

  pub decoded_memory : memory_of pid (decoded_in pid p s) ≡ (decoded_by p).memory
  decoded_memory = memory_computed pid p.image.regs (decoded_by p).memory s p can.lives

  pub decoded_holds : HoldsBytes (decoded_by p).memory.pages
  decoded_holds = subst (λ (m : Pages). HoldsBytes m) (sym (decoding-leaves-pages p.image.regs p.image.memory can.holds)) can.holds

  pub decoded_lasts : LastsLawful (λ m. m) table made (decoded_in pid p s)
  decoded_lasts =
      let own = can.lasts.lawful.processes pid p can.lives in
      record {
        lawful = lawful-image (λ m. m) table s can.lasts.lawful pid p can.lives (decoded_by p).memory (stays-like (decoding p.image.regs) p.image.memory own.whole own.paged) (λ _. p.image.regs);
        lasts = lasts_living made (with_process pid (given pid p.image.regs (decoded_by p).memory)) s can.lasts.lasts;
      }

  small : HasSmallNumbers s.tree s.next_pid
  small =
      let room = lasting-room ℕ Image made s can.few can.lasts.lawful.tree.sound can.lasts.lasts in
      let pids = room.pids in
      record { owners = room.owners; serials = room.serials; pids = omega arith }

  -- ---- a call that is decoded

  module _ (r : Request) (is : (decoded_by p).reply ≡ Ok r) (kind : IsNoExec r) where
    abbrev at : State ℕ Image
    at = decoded_in pid p s

    abbrev mounts : Mounts ℕ
    mounts = mounts_walked (targets_of table pid at r)

    pub is_allowed : LeavesLawful (λ m. m) table mounts pid at (done_in pid r (seen table pid at r) at)
    is_allowed =
        let givable = decoded-are-givable p.image.regs p.image.memory r can.holds is in
        subst (λ (memory : Memory). LeavesLawful (λ m. m) table mounts pid at (carried_out (operation pid r (seen table pid at r) (known image_layout pid at)) memory)) (sym decoded_memory)
        (walked-calls-leave-lawful table pid at decoded_process r kind decoded_lasts.lawful decoded_lives decoded_holds small givable.0 can.named (lead_to_places table at decoded_lasts.lawful pid)
        (λ targets e. walks_name table pid at r targets decoded_lasts.lawful can.lasts.lasts.texts givable.1 e))

    row_lasts : LastsLawful (λ m. m) table (suc made) (after_row mounts pid (done_in pid r (seen table pid at r) at) at)
    row_lasts =
        let done = done_in pid r (seen table pid at r) at in
        record {
          lawful = is_allowed.lawful;
          lasts =
              modest-last ℕ (λ m. m) table mounts pid made done.reply.changes (with_memory_of pid done.memory at) is_allowed.before is_allowed.made is_allowed.modest
              (lasts_living made (with_process pid (with_image (with_memory done.memory))) at decoded_lasts.lasts);
        }

    pub leaves_lasting : LeavesLasting table made pid s p r
    leaves_lasting = record {
      allowed = is_allowed;
      lasts =
          subst (λ (came : Came). LastsLawful (λ m. m) table (suc made) came.state) (no-exec-requested table pid at r kind ∙ sym (by_request table pid table s p (Ok r) can.lives is))
          (settled_lasts table (suc made) pid (done_in pid r (seen table pid at r) at).reply.outcome (after_row mounts pid (done_in pid r (seen table pid at r) at) at) row_lasts);
    }

  -- ---- one that isn't

  refused_lasting : (e : Errno) → (decoded_by p).reply ≡ Err e → LastsLawful (λ m. m) table (suc made) (plain_call table pid s).state
  refused_lasting e is =
      subst (λ (came : Came). LastsLawful (λ m. m) table (suc made) came.state) (sym (by_request table pid table s p (Err e) can.lives is))
      (settled_lasts table (suc made) pid (Answer (neg_ℤ (pos (errno_number e)))) (decoded_in pid p s)
      (longer_lasts table made (decoded_in pid p s) decoded_lasts))

pub calls_last : CallsLast
calls_last table made pid s p r can is kind = leaves_lasting table made pid s p can r is kind

pub refused_calls_last : RefusedCallsLast
refused_calls_last table made pid s p e can is = refused_lasting table made pid s p can e is
