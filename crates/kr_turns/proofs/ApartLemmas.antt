-- What a step of a process leaves of the others.
use Rattle.std.proofs.Common.{◌≡◌, ◌≢◌, ℕ, Bool, true, false, List, Option, Some, None, refl, sym, ap, subst}
use Rattle.std.specs.Prelude.{Result, Ok, Err, pos, neg_ℤ}
use Rattle.std.specs.Option.{option_map_or}
use Rattle.kr_hostview.specs.pr_base.Errno.{errno_number}
use Rattle.kr_hostview.specs.pr_base.declared.errno.Errno.{Errno}
use Rattle.kr_steps.specs.rv_mem.Actions.{carried_out}
use Rattle.kr_steps.specs.rv_mem.Memory.{Memory}
use Rattle.kr_steps.specs.rv_mem.declared.regs.Regs.{Regs}
use Rattle.kr_execve.specs.kr_calls.Decoding.{decoding}
use Rattle.kr_execve.specs.kr_calls.declared.request.Request.{Request}
use Rattle.kr_execve.specs.kr_calls.declared.request.Request.TheVariants as call
use Rattle.kr_execve.specs.kr_view.View.{Row}
use Rattle.kr_steps.specs.kr_model.Applied.{Mounts, all_applied, images, with_image, with_living}
use Rattle.kr_steps.specs.kr_model.Change.{End}
use Rattle.kr_steps.specs.kr_model.State.{Image, Process, State, process, with_process}
use Rattle.kr_steps.specs.kr_model.Walks.{targets_of}
use Rattle.kr_steps.specs.kr_model.declared.outcome.Outcome.{Outcome}
use Rattle.kr_steps.specs.kr_model.declared.outcome.Outcome.TheVariants.{Answer, Wait, Ended, NoMemory}
use Rattle.kr_steps.specs.law_allowed.Told.{mounts_walked}
use Rattle.kr_steps.specs.law_allowed.Others.{LivesOn}
use Rattle.kr_steps.proofs.law_allowed.OthersLemmas.{all_others_live, lives_on, one_changed, others_live, unchanged}
use Rattle.kr_calm.specs.kr_seen.Carrying.{memory_of, with_memory, with_memory_of}
use Rattle.kr_execve.specs.Execution.{Program, changes_of, execution, mount_of}
use Rattle.kr_steps.specs.Answering.{going, with_answer}
use Rattle.kr_steps.specs.Computing.{computed}
use Rattle.kr_steps.specs.Settling.{settled}
use Rattle.kr_steps.specs.kr_stops.Stopped.{IsEdited, Stopped, image_at, nothing_handed}
use Rattle.kr_turns.specs.Breaking.{no_mounts}
use Rattle.kr_turns.specs.Making.{LeavesOthers}
use Rattle.kr_turns.specs.PlainCall.{after_decoding, executed, operated, plain_call, plain_call_of, refusal_told, replaced, requested, row_on}
use Rattle.kr_turns.specs.Turn.{killed}
use Rattle.kr_turns.specs.declared.plain.CallEnd.TheVariants as end

abbrev Machines : Type 0
Machines = State ℕ Image

module _ (pid q : ℕ) (other : q ≢ pid) where
  -- ---- one process alone

  pub computed_leaves : (regs : Regs) (memory : Memory) (s : Machines) → LivesOn q s (computed pid regs memory s)
  computed_leaves regs memory s = one_changed pid q other (with_image (λ (image : Image). record { regs = regs; memory = memory })) (λ p. refl) s

  memory_leaves : (memory : Memory) (s : Machines) → LivesOn q s (with_memory_of pid memory s)
  memory_leaves memory s = one_changed pid q other (with_image (with_memory memory)) (λ p. refl) s

  going_leaves : (regs : Regs → Regs) (waits : Bool) (s t : Machines) → LivesOn q s t → LivesOn q s (with_living (with_process pid (going regs waits)) t)
  going_leaves regs waits s t lives = lives_on q s t (with_living (with_process pid (going regs waits)) t) lives (one_changed pid q other (going regs waits) (λ p. refl) t)

  -- ---- a call

  refusal_leaves : (e : Errno) (s t : Machines) → LivesOn q s t → LivesOn q s (refusal_told pid e t).state
  refusal_leaves e s t lives = going_leaves (with_answer (neg_ℤ (pos (errno_number e)))) false s t lives

  settled_leaves : (outcome : Outcome) (s t : Machines) → LivesOn q s t → LivesOn q s (settled pid outcome t)
  settled_leaves (Answer value) s t lives = going_leaves (with_answer value) false s t lives
  settled_leaves Wait s t lives = going_leaves (λ regs. regs) true s t lives
  settled_leaves Ended s t lives = lives
  settled_leaves NoMemory s t lives = lives

  replaced_leaves : (result : Result Program Errno) (s t : Machines) → LivesOn q s t → LivesOn q s (replaced pid result t).state
  replaced_leaves (Ok program) s t lives = going_leaves (λ regs. regs) false s t lives
  replaced_leaves (Err e) s t lives = refusal_leaves e s t lives

  module _ (table : List Row) where
    operated_leaves : (r : Request) (s : Machines) → LivesOn q s (operated table pid r s).state
    operated_leaves r s =
        let done = row_on table pid r s in
        let noted : Machines = with_memory_of pid done.memory s in
        let after : Machines = all_applied images (mounts_walked (targets_of table pid s r)) pid done.reply.changes noted in
        settled_leaves done.reply.outcome s after
        (lives_on q s noted after (memory_leaves done.memory s) (all_others_live ℕ Image images (mounts_walked (targets_of table pid s r)) pid done.reply.changes noted q other))

    executed_leaves : (path : List ℕ) (args env : ℕ) (s : Machines) → LivesOn q s (executed table pid path args env s).state
    executed_leaves path args env s =
        let done = carried_out (execution table pid s path args env) (memory_of pid s) in
        let mounts : Mounts ℕ = record { found = mount_of done.reply; directory = None } in
        let noted : Machines = with_memory_of pid done.memory s in
        let after : Machines = all_applied images mounts pid (changes_of done.reply) noted in
        replaced_leaves done.reply s after (lives_on q s noted after (memory_leaves done.memory s) (all_others_live ℕ Image images mounts pid (changes_of done.reply) noted q other))

    requested_leaves : (r : Request) (s : Machines) → LivesOn q s (requested table pid r s).state
    requested_leaves (call.Execve path args env) s = executed_leaves path args env s
    requested_leaves r s = operated_leaves r s

    decoded_leaves : (result : Result Request Errno) (s t : Machines) → LivesOn q s t → LivesOn q s (after_decoding table pid result t).state
    decoded_leaves (Ok r) s t lives = lives_on q s t (requested table pid r t).state lives (requested_leaves r t)
    decoded_leaves (Err e) s t lives = refusal_leaves e s t lives

    pub call_leaves : (s : Machines) → LivesOn q s (plain_call table pid s).state
    call_leaves s = by (process pid s)
      where
        by : (o : Option (Process ℕ Image)) → LivesOn q s (option_map_or (plain_call_of table pid s) o (record { state = s; end = end.Waits; child = None; handed = nothing_handed })).state
        by None = unchanged q s
        by (Some p) =
            let done = carried_out (decoding p.image.regs) p.image.memory in
            decoded_leaves done.reply s (computed pid p.image.regs done.memory s) (computed_leaves p.image.regs done.memory s)

-- ---- steps

pub leaves-then : (pid : ℕ) (s t u : Machines) → LeavesOthers pid s t → LeavesOthers pid t u → LeavesOthers pid s u
leaves-then pid s t u first second = record { others = λ q other. lives_on q s t u (first.others q other) (second.others q other) }

pub leaves-same : (pid : ℕ) (s t : Machines) → t ≡ s → LeavesOthers pid s t
leaves-same pid s t same = record { others = λ q other. subst (LivesOn q s) (sym same) (unchanged q s) }

pub computed-leaves : (pid : ℕ) (regs : Regs) (memory : Memory) (s t : Machines) → t ≡ computed pid regs memory s → LeavesOthers pid s t
computed-leaves pid regs memory s t is = record { others = λ q other. subst (LivesOn q s) (sym is) (computed_leaves pid q other regs memory s) }

pub killed-leaves : (pid signal : ℕ) (s t : Machines) → t ≡ killed pid signal s → LeavesOthers pid s t
killed-leaves pid signal s t is = record { others = λ q other. subst (LivesOn q s) (sym is) (others_live ℕ Image images no_mounts pid (End signal) s q other) }

pub called-leaves : (table : List Row) (pid : ℕ) (s t : Machines) → t ≡ (plain_call table pid s).state → LeavesOthers pid s t
called-leaves table pid s t is = record { others = λ q other. subst (LivesOn q s) (sym is) (call_leaves pid q other table s) }

pub edited-leaves : (t u : Stopped) → IsEdited t u → LeavesOthers t.pid t.state u.state
edited-leaves t u edits = computed-leaves t.pid (image_at u).regs (image_at u).memory t.state u.state (ap (λ (v : Stopped). v.state) edits.becomes)
