-- What the steps of a turn leave is told of a state with the numbers of its mounts.
use Rattle.std.proofs.Common.{◌≡◌, ℕ, Bool, true, false, not, ◌&&◌, Option, Some, None, ℤ, refl, sym, ap, subst, ◌∙◌, ◌+◌, ◌≤◌, length}
use Rattle.std.specs.Prelude.{Result, IsSome}
use Rattle.std.specs.Option.{option_map}
use Rattle.std.proofs.lemmas.List.{length-map}
use mathlib.Core.List.{map-map}
use Rattle.kr_hostview.specs.pr_base.declared.errno.Errno.{Errno}
use Rattle.kr_steps.specs.rv_mem.Actions.{CarriedOut, carried_out}
use Rattle.kr_steps.specs.rv_mem.Memory.{Memory}
use Rattle.kr_steps.specs.rv_mem.declared.regs.Regs.{Regs}
use Rattle.kr_steps.specs.kr_model.Applied.{Mounts, images, with_living}
use Rattle.kr_steps.specs.kr_model.Lawful.{ArePids, RiseFrom}
use Rattle.kr_steps.specs.kr_model.ProcessRows.{most_processes}
use Rattle.kr_steps.specs.kr_model.Reply.{Reply, Replying}
use Rattle.kr_steps.specs.kr_model.State as model
use Rattle.kr_steps.specs.kr_model.State.{Image, Process, State, image_layout, process, with_process}
use Rattle.kr_steps.specs.kr_model.declared.outcome.Outcome.{Outcome}
use Rattle.kr_steps.specs.kr_model.declared.outcome.Outcome.TheVariants.{Answer, Wait, Ended, NoMemory}
use Rattle.kr_calm.specs.kr_seen.Numbered.{process_numbered, state_numbered}
use Rattle.kr_calm.specs.kr_seen.Mounts.{mounts_numbered}
use Rattle.kr_calm.proofs.kr_seen.ChangeLemmas.{living-numbered}
use Rattle.kr_calm.proofs.kr_seen.LookLemmas.{asked-numbered, known-numbered, process-numbered}
use Rattle.kr_calm.proofs.kr_seen.StepLemmas.{image-numbered, picked-numbered, then-changes-numbered}
use Rattle.kr_calm.specs.kr_seen.Carrying.{after_row, carried, memory_of, no_memory, with_memory, with_memory_of}
use Rattle.kr_execve.specs.Execution.{Program, after_execution, changes_of}
use Rattle.kr_steps.specs.Answering.{answered, going, resumed, with_answer}
use Rattle.kr_steps.specs.Computing.{computed}
use Rattle.kr_steps.specs.Settling.{settled}
use Rattle.kr_steps.specs.Waiting.{goes_on, picked_process, still_waits}

pub some-of-map : {A B : Type 0} (f : A → B) (o : Option A) → IsSome (option_map f o) → IsSome o
some-of-map f None h = h
some-of-map f (Some x) h = refl

module _ {T : Type 0} (number : T → ℕ) where
  -- ---- one process

  pub memory-numbered : (pid : ℕ) (s : State T Image) → memory_of pid (state_numbered number s) ≡ memory_of pid s
  memory-numbered pid s = asked-numbered number (λ p. p.image.memory) (λ p. p.image.memory) (λ p. refl) no_memory pid s

  pub with-memory-numbered : (pid : ℕ) (memory : Memory) (s : State T Image) → state_numbered number (with_memory_of pid memory s) ≡ with_memory_of pid memory (state_numbered number s)
  with-memory-numbered pid memory s = image-numbered number pid (with_memory memory) s

  pub computed-numbered : (pid : ℕ) (regs : Regs) (memory : Memory) (s : State T Image) → state_numbered number (computed pid regs memory s) ≡ computed pid regs memory (state_numbered number s)
  computed-numbered pid regs memory s = image-numbered number pid (λ (image : Image). record { regs = regs; memory = memory }) s

  going-numbered : (pid : ℕ) (regs : Regs → Regs) (waits : Bool) (s : State T Image)
      → state_numbered number (with_living (with_process pid (going regs waits)) s) ≡ with_living (with_process pid (going regs waits)) (state_numbered number s)
  going-numbered pid regs waits s = living-numbered number pid (going regs waits) (going regs waits) (λ p. refl) s

  pub answered-numbered : (pid : ℕ) (value : ℤ) (s : State T Image) → state_numbered number (answered pid value s) ≡ answered pid value (state_numbered number s)
  answered-numbered pid value s = going-numbered pid (with_answer value) false s

  pub resumed-numbered : (pid : ℕ) (s : State T Image) → state_numbered number (resumed pid s) ≡ resumed pid (state_numbered number s)
  resumed-numbered pid s = going-numbered pid (λ regs. regs) false s

  pub settled-numbered : (pid : ℕ) (outcome : Outcome) (s : State T Image) → state_numbered number (settled pid outcome s) ≡ settled pid outcome (state_numbered number s)
  settled-numbered pid (Answer value) s = answered-numbered pid value s
  settled-numbered pid Wait s = going-numbered pid (λ regs. regs) true s
  settled-numbered pid Ended s = refl
  settled-numbered pid NoMemory s = refl

  -- ---- rows

  -- of what is known of a state and of its numbers a row comes to the same
  pub carried-numbered : (pid : ℕ) (row : model.State ℕ Image → Replying) (s : State T Image) (own : Replying) → own ≡ row (state_numbered number s) → carried pid own s ≡ carried pid (row (state_numbered number s)) (state_numbered number s)
  carried-numbered pid row s own e = ap (λ (r : Replying). carried pid r s) e ∙ sym (ap (λ memory. carried_out (row (state_numbered number s)) memory) (memory-numbered pid s))

  pub row-numbered : (mounts : Mounts T) (pid : ℕ) (done : CarriedOut Reply) (s : State T Image) → state_numbered number (after_row mounts pid done s) ≡ after_row (mounts_numbered number mounts) pid done (state_numbered number s)
  row-numbered mounts pid done s = then-changes-numbered number images mounts pid (with_memory done.memory) done.reply.changes s

  pub execution-numbered : (mounts : Mounts T) (pid : ℕ) (done : CarriedOut (Result Program Errno)) (s : State T Image)
      → state_numbered number (after_execution mounts pid done s) ≡ after_execution (mounts_numbered number mounts) pid done (state_numbered number s)
  execution-numbered mounts pid done s = then-changes-numbered number images mounts pid (with_memory done.memory) (changes_of done.reply) s

  -- ---- who is ready

  goes-on-numbered : (s : State T Image) (p : Process T Image) → goes_on (state_numbered number s) (process_numbered number p) ≡ goes_on s p
  goes-on-numbered s p = ap (λ k. not (p.waits && still_waits k p.pid p.image.regs)) (known-numbered number image_layout p.pid s)

  pub picked-process-numbered : (s : State T Image) (pick : ℕ) → picked_process (state_numbered number s) pick ≡ option_map (process_numbered number) (picked_process s pick)
  picked-process-numbered s pick = picked-numbered number (goes_on s) (goes_on (state_numbered number s)) (goes-on-numbered s) s pick

  -- ---- numbers of processes

  pub pids-numbered : (s : State T Image) → ArePids s → ArePids (state_numbered number s)
  pids-numbered s pids = record {
    living = subst (RiseFrom 2 s.next_pid) (sym (map-map (λ (p : Process ℕ Image). p.pid) (process_numbered number) s.living)) pids.living;
    ended = pids.ended;
    apart = λ pid some. pids.apart pid (some-of-map (process_numbered number) (process pid s) (subst IsSome (process-numbered number pid s) some));
    few = subst (λ n. n + length s.ended ≤ most_processes) (sym (length-map s.living (process_numbered number))) pids.few;
  }
