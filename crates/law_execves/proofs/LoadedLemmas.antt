-- Execve(2) that both kernels carry out: what is left of both machines.
use Rattle.std.proofs.Common.{◌≡◌, ℕ, suc, false, true, List, None, Ok, get_or, refl, sym, ap, subst, ◌∙◌, arith}
use Rattle.std.specs.Prelude.{IsSome, ◌==◌}
use Rattle.law_programs.specs.rv_mem.Actions.{carried_out}
use Rattle.law_programs.specs.rv_mem.Memory.{Memory}
use Rattle.law_programs.specs.rv_mem.declared.regs.Regs.{Regs}
use Rattle.law_stops.specs.pt_bind.Tags.{TagTable, with_tag}
use Rattle.law_stops.specs.pt_bind.declared.slot.Slot.TheVariants.{Exe}
use Rattle.law_stops.specs.kr_inode.declared.user.User.{User}
use Rattle.law_stops.specs.kr_view.View.{Row, plain}
use Rattle.law_stops.specs.kr_calls.declared.request.Request.TheVariants as call
use Rattle.law_plans.specs.kr_seen.Carrying.{memory_of, with_memory, with_memory_of}
use Rattle.law_programs.specs.kr_execve.Execution.{Program, changes_of, execution, mount_of}
use Rattle.law_programs.specs.law_allowed.Lasting.{AreModest}
use Rattle.law_programs.proofs.law_allowed.ChangeLemmas.{modest-last}
use Rattle.law_programs.specs.law_lawful.Laws.{CanAllBeMade}
use Rattle.law_programs.proofs.law_lawful.ChangeLemmas.{all-changes-keep}
use Rattle.law_stops.specs.kr_model.Applied.{all_applied, images}
use Rattle.law_stops.specs.kr_model.State.{Image, Process, State, process, with_process}
use Rattle.law_stops.specs.kr_steps.Answering.{going, resumed}
use Rattle.law_stops.specs.kr_steps.Calls.{LastsLawful}
use Rattle.law_stops.specs.kr_turns.PlainCall.{Came, plain_call, replaced}
use Rattle.law_stops.specs.kr_stops.Stopped.{image_in, nothing_handed}
use Rattle.law_stops.specs.kr_turns.Turn.{Machine, Tally, after_exit, after_plain, called}
use Rattle.law_stops.specs.kr_stops.Watching.{unwatched}
use Rattle.law_stops.specs.kr_turns.declared.plain.CallEnd.TheVariants as end
use Rattle.law_stops.specs.pt_faker.Faking.{has_answered_zero}
use Rattle.law_stops.specs.pt_tracer.Watched.{Tracing}
use Rattle.law_plans.specs.law_places.Matching.{IsMatch}
use Rattle.law_stops.specs.law_walks.Scene.{IsMatched}
use Rattle.law_stops.specs.law_walks.States.{scene_of}
use Rattle.law_stops.specs.law_turns.Calls.{decoded_by, decoded_in}
use Rattle.law_stops.specs.law_turns.Lasting.{CanBeCalled}
use Rattle.law_stops.proofs.law_turns.CalledLemmas.{lasts_living}
use Rattle.law_stops.proofs.law_turns.SettleLemmas.{lawful_gone}
use Rattle.law_stops.specs.Scene.{Scene, mounted_after, traced_after}
use Rattle.law_stops.specs.Turning.{ComeFromCall, StayTogether, Traces}
use Rattle.law_stops.proofs.AnsweredLemmas.{lives_changed}
use Rattle.law_stops.proofs.CallLemmas as before
use Rattle.law_stops.proofs.CallLemmas.{exit_status, own_image, unwatched_exit}
use Rattle.law_execves.specs.Replacing.{ArePutAlike, gone_on_with, mounts_of}
use Rattle.law_execves.proofs.RefusedLemmas as refused
use Rattle.law_execves.proofs.ReplaceLemmas.{programs_keep_matches}
use Rattle.law_execves.proofs.BehindLemmas.{Behind, behind, forgotten}
use Rattle.law_execves.proofs.ExecveLemmas.{ExecveCall}

-- ---- what lasts

modest : (user : User) (program : Program) → AreModest user (changes_of (Ok program))
modest user program = record { users = (tt, (tt, (tt, tt))); drawn = record { names = omega arith; files = omega arith; pids = omega arith } }

pub program-lasts : (table : List Row) (made pid : ℕ) (s : State ℕ Image) (program : Program) → CanAllBeMade (λ k. k) table (mounts_of program) pid s (changes_of (Ok program)) → LastsLawful (λ k. k) table made s
    → LastsLawful (λ k. k) table (suc made) (gone_on_with pid program s)
program-lasts table made pid s program can l =
    let after = all_applied images (mounts_of program) pid (changes_of (Ok program)) s in
    record {
      lawful = lawful_gone pid (λ regs. regs) false table after (all-changes-keep ℕ (λ k. k) table (mounts_of program) pid (changes_of (Ok program)) s l.lawful can);
      lasts = lasts_living (suc made) (with_process pid (going (λ regs. regs) false)) after
          (modest-last ℕ (λ k. k) table (mounts_of program) pid made (changes_of (Ok program)) s l.lawful can (modest s.user program) l.lasts);
    }

-- ---- both machines

module _ {S : Type 0} {scene : Scene S} (execve : ExecveCall scene) where
  open scene use {table, made, pid, mounted as m, traced as n}
  open execve use {callers, path, args, env}
  open execve.callers use {comes as c}

  abbrev x : Tracing
  x = n.watcher

  abbrev w : State ℕ Image
  w = n.state

  abbrev s1 : State ℕ Image
  s1 = before.s1 callers

  abbrev p1 : Process ℕ Image
  p1 = before.p1 callers

  abbrev at : State ℕ Image
  at = decoded_in pid p1 s1

  mine : CanBeCalled table made pid s1 p1
  mine = before.can callers

  abbrev memory : Memory
  memory = (carried_out (execution table pid at path args env) (memory_of pid at)).memory

  module _ (reads : (decoded_by p1).reply ≡ Ok (call.Execve path args env)) (program other : Program) (index : ℕ) (loads : (carried_out (execution table pid at path args env) (memory_of pid at)).reply ≡ Ok program)
      (matched : IsMatched (scene_of table s1 pid x.tags)) (alike : ArePutAlike table pid s1 w program other index) where
    abbrev pub came : Came
    came = record { state = resumed pid (all_applied images (mounts_of program) pid (changes_of (Ok program)) (with_memory_of pid memory at)); end = end.Replaced; child = None; handed = nothing_handed }

    pub loaded_is : plain_call table pid s1 ≡ came
    loaded_is =
        refused.came_is execve reads
        ∙ ap (λ r. replaced pid r (all_applied images (record { found = mount_of r; directory = None }) pid (changes_of r) (with_memory_of pid memory at))) loads

    came_state : came.state ≡ gone_on_with pid program s1
    came_state =
        ap (resumed pid)
        (forgotten pid (mounts_of program) program (with_memory memory) at
        ∙ forgotten pid (mounts_of program) program (λ _. record { regs = p1.image.regs; memory = (decoded_by p1).memory }) s1)

    -- the program begins with the registers it was loaded with
    behind_here : Behind pid (mounts_of program) program s1
    behind_here = behind pid (mounts_of program) program s1 (subst IsSome (sym mine.lives) refl)

    pub one_begins : get_or program.image.regs.x 10 0 ≡ 0 → has_answered_zero (called pid came) ≡ true
    one_begins zero =
        ap (λ t. get_or (image_in pid t).regs.x 10 0 == 0) came_state
        ∙ ap (λ (image : Image). get_or image.regs.x 10 0 == 0)
        (own_image pid (gone_on_with pid program s1) (going (λ regs. regs) false behind_here.process_there)
        (lives_changed pid (going (λ regs. regs) false) (λ p. refl) (all_applied images (mounts_of program) pid (changes_of (Ok program)) s1) behind_here.process_there behind_here.lives))
        ∙ ap (λ (regs : Regs). get_or regs.x 10 0 == 0) behind_here.registers
        ∙ ap (λ word. word == 0) zero

    abbrev judged : Tally
    judged = before.judged callers

    abbrev mounted : Machine S
    mounted = after_exit unwatched (called pid came) m.watcher judged (process pid came.state)

    mounted_is : mounted_after scene ≡ mounted
    mounted_is = before.mounted_call callers ∙ ap (λ came. after_plain unwatched pid came m.watcher judged) loaded_is

    abbrev tags : TagTable
    tags = with_tag x.tags pid Exe index

    match_behind : IsMatch table tags (gone_on_with pid program s1) (gone_on_with pid other w)
    match_behind = programs_keep_matches table pid s1 w x.tags program other index (before.match1 callers) matched alike

    pub loaded_together : (y : Tracing) (tally : Tally) → y.tags ≡ tags → Traces table y → tally.status ≡ n.tally.status → traced_after scene ≡ record { state = gone_on_with pid other w; watcher = y; tally = tally }
        → StayTogether scene
    loaded_together y tally same traces status traced_is =
        let exit_state : mounted.state ≡ gone_on_with pid program s1 = unwatched_exit pid (called pid came) m.watcher judged (process pid came.state) ∙ came_state in
        subst (λ (e : Machine S). ComeFromCall table made e (traced_after scene)) (sym mounted_is)
        (subst (ComeFromCall table made mounted) (sym traced_is)
        (record {
          matches = record {
            states = subst (λ t. IsMatch table y.tags t (gone_on_with pid other w)) (sym exit_state) (subst (λ tags. IsMatch table tags (gone_on_with pid program s1) (gone_on_with pid other w)) (sym same) match_behind);
            statuses = exit_status unwatched pid (called pid came) m.watcher judged (process pid came.state) ∙ c.matches.statuses ∙ sym status;
          };
          lasts = subst (LastsLawful (λ k. k) table (suc made)) (sym exit_state) (program-lasts table made pid s1 program alike.made mine.lasts);
          also_lasts = program-lasts plain made pid w other alike.also_made c.also_lasts;
          traces = traces;
        }))
